-- Laws of CMAC: how a tag is made step by step, how it splits at a header, and that one block tells two messages apart.
use Rattle.std.proofs.Common.{◌≡◌, ℕ, zero, suc, ◌+◌, ◌-◌, ◌*◌, ◌%◌, ◌^◌, ◌<◌, ◌≤◌, leb, List, [], ◌∷◌, ◌++◌, length, take, drop, replicate, sym, refl, ap, ◌∙◌, subst, ap₂, ⊎_elim, arith, lit<, rules}
use lib.Bits.{bit_xor, xor_zero_l, xor_lt}
use Rattle.std.proofs.lemmas.Nat.{mod_below}
use Rattle.std.proofs.lemmas.List.Elements.{All-cons, All-head, All-tail, All-append, All-drop}
use Rattle.std.proofs.lemmas.List.{append_cancel_right, length-append, length-drop, length-replicate, take-take, take-append-drop, drop-take, take_at, drop_at, drop-drop}
use Rattle.std.proofs.lemmas.Bool.{cond_both, cases_lt, cases_eq, eq-eqb, ne_eqb}
use Rattle.std.specs.List.{All}
use Rattle.cipher.specs.Block.{Byte, Bytes, Block, be_bytes, be_number, first_blocks, DifferInOneBlock}
use Rattle.cipher.specs.Inverse.{Inverse}
use Rattle.cipher.proofs.Inverses.{apart}
use Rattle.cipher.proofs.Numbers.{block_bytes, block_of_bytes, number_block, same_number}
use Rattle.cipher.proofs.Rows.{xor_cancel, xor_cancel_right, zeros}
use Rattle.cipher.proofs.Wholes.{first_blocks-blocks, first_eight}
use Rattle.modes.specs.Cmac.{doubled, before_last, padded, K1, K2, last_block, chained, tag_from, CMAC}

-- ---- the parts are blocks

pub doubled-block : (b : ℕ) → Block (doubled b)
unfolding doubled
doubled-block b =
    let shifted : b * 2 % 2 ^ 64 < 2 ^ 64 = mod_below (b * 2) (2 ^ 64) (lit< tt) in
    cond_both (leb (2 ^ 63) b) (bit_xor (b * 2 % 2 ^ 64) 0x1B) (b * 2 % 2 ^ 64) (λ x. x < 2 ^ 64) (λ _. xor_lt 64 (b * 2 % 2 ^ 64) 0x1B shifted (lit< tt)) (λ _. shifted)

padded-bytes : (bytes : List ℕ) → All Byte bytes → length bytes < 8 → Bytes 8 (padded bytes)
padded-bytes bytes each few = (
  length-append bytes (0x80 ∷ replicate (7 - length bytes) 0) ∙ omega (arith, length-replicate {A = ℕ} (7 - length bytes) 0),
  All-append Byte bytes (0x80 ∷ replicate (7 - length bytes) 0) each (All-cons Byte 0x80 (replicate (7 - length bytes) 0) (lit< tt) (zeros (7 - length bytes))),
)

module _ (CIPH : ℕ → ℕ) where
  pub whole_last : (bytes : List ℕ) → length bytes ≡ 8 → last_block CIPH bytes ≡ bit_xor (K1 CIPH) (be_number bytes)
  unfolding last_block
  whole_last bytes whole = search (rules, eq-eqb)

  pub short_last : (bytes : List ℕ) → (length bytes ≡ 8 → ⊥) → last_block CIPH bytes ≡ bit_xor (K2 CIPH) (be_number (padded bytes))
  unfolding last_block
  short_last bytes short = search (rules, ne_eqb)

  last_is_block : (bytes : List ℕ) → All Byte bytes → length bytes ≤ 8 → Block (last_block CIPH bytes)
  last_is_block bytes each few =
      ⊎_elim
      (λ whole. subst Block (sym (whole_last bytes whole)) (xor_lt 64 (K1 CIPH) (be_number bytes) (doubled-block (CIPH 0)) (number_block bytes (whole, each))))
      (λ short. subst Block (sym (short_last bytes short)) (xor_lt 64 (K2 CIPH) (be_number (padded bytes)) (doubled-block (K1 CIPH)) (number_block (padded bytes) (padded-bytes bytes each (omega arith)))))
      (cases_eq (length bytes) 8)

  -- as many last bytes are told by their last block
  last_tells : (xs ys : List ℕ) → All Byte xs → All Byte ys → length xs ≡ length ys → length xs ≤ 8 → last_block CIPH xs ≡ last_block CIPH ys → xs ≡ ys
  last_tells xs ys hx hy long few e =
      ⊎_elim
      (λ whole.
      same_number xs ys (whole, hx) (sym long ∙ whole, hy)
      (xor_cancel (K1 CIPH) (be_number xs) (be_number ys) (sym (whole_last xs whole) ∙ e ∙ whole_last ys (sym long ∙ whole))))
      (λ short.
      let also : length ys ≡ 8 → ⊥ = λ w. short (long ∙ w) in
      let same = same_number (padded xs) (padded ys) (padded-bytes xs hx (omega arith)) (padded-bytes ys hy (omega arith)) (xor_cancel (K2 CIPH) (be_number (padded xs)) (be_number (padded ys)) (sym (short_last xs short) ∙ e ∙ short_last ys also)) in
      append_cancel_right xs ys (0x80 ∷ replicate (7 - length xs) 0) (same ∙ ap (λ n. ys ++ 0x80 ∷ replicate (7 - n) 0) (sym long)))
      (cases_eq (length xs) 8)

  -- ---- the chain, block by block

  -- one block more at the end of the chain
  pub chained-push : (bs : List ℕ) (b C : ℕ) → chained CIPH C (bs ++ b ∷ []) ≡ CIPH (bit_xor (chained CIPH C bs) b)
  unfolding chained
  chained-push [] b C = refl
  chained-push (M ∷ Ms) b C = chained-push Ms b (CIPH (bit_xor C M))

  -- a message of eight bytes or fewer is its last block
  pub short_tag : (C : ℕ) (message : List ℕ) → length message ≤ 8 → tag_from CIPH C message ≡ CIPH (bit_xor C (last_block CIPH message))
  unfolding tag_from chained first_blocks
  short_tag C message few =
      let none : before_last message ≡ 0 = omega arith in
      ap (λ n. CIPH (bit_xor (chained CIPH C (first_blocks n message)) (last_block CIPH (drop (8 * n) message)))) none

  -- a longer one begins with a block, and goes on from the chain with that block in it
  pub long_tag : (C : ℕ) (message : List ℕ) → 8 < length message → tag_from CIPH C message ≡ tag_from CIPH (CIPH (bit_xor C (be_number (take 8 message)))) (drop 8 message)
  unfolding tag_from chained first_blocks
  long_tag C message many =
      let n = before_last (drop 8 message) in
      let count : before_last message ≡ suc n = omega (arith, length-drop 8 message) in
      let past : 8 * suc n ≡ 8 + 8 * n = omega arith in
      let rest : drop (8 * before_last message) message ≡ drop (8 * n) (drop 8 message) =
      ap (λ k. drop (8 * k) message) count ∙ ap (λ k. drop k message) past ∙ sym (drop-drop (8 * n) 8 message) in
      ap₂ (λ k last. CIPH (bit_xor (chained CIPH C (first_blocks k message)) (last_block CIPH last))) count rest

  -- the tag of a header block and a body is that of the body, with the header in the chain already
  pub header_first : (C header : ℕ) (body : List ℕ) → Block header → 0 < length body → tag_from CIPH C (be_bytes 8 header ++ body) ≡ tag_from CIPH (CIPH (bit_xor C header)) body
  header_first C header body h some =
      let eight = (block_bytes header).0 in
      long_tag C (be_bytes 8 header ++ body) (omega (arith, length-append (be_bytes 8 header) body, eight))
      ∙ ap₂ (λ first rest. tag_from CIPH (CIPH (bit_xor C (be_number first))) rest) (take_at (be_bytes 8 header) body 8 eight) (drop_at (be_bytes 8 header) body 8 eight)
      ∙ ap (λ block. tag_from CIPH (CIPH (bit_xor C block)) body) (block_of_bytes header h)

  pub tag_of_header_and_body : (header : ℕ) (body : List ℕ) → Block header → 0 < length body → CMAC CIPH (be_bytes 8 header ++ body) ≡ tag_from CIPH (CIPH header) body
  unfolding CMAC
  tag_of_header_and_body header body h some = header_first 0 header body h some ∙ ap (λ C. tag_from CIPH (CIPH C) body) (xor_zero_l header)

-- ---- one block tells

module _ (CIPH back : ℕ → ℕ) (law : Inverse CIPH back) where
  -- a message keeps two chains apart
  chained-apart : (bs : List ℕ) (C D : ℕ) → All Block bs → Block C → Block D → chained CIPH C bs ≡ chained CIPH D bs → C ≡ D
  unfolding chained
  chained-apart [] C D each hc hd e = e
  chained-apart (M ∷ Ms) C D each hc hd e =
      let c = xor_lt 64 C M hc (All-head Block M Ms each) in
      let d = xor_lt 64 D M hd (All-head Block M Ms each) in
      xor_cancel_right C D M (apart law (bit_xor C M) (bit_xor D M) c d (chained-apart Ms (CIPH (bit_xor C M)) (CIPH (bit_xor D M)) (All-tail Block M Ms each) (law.there_to_blocks (bit_xor C M) c) (law.there_to_blocks (bit_xor D M) d) e))

  chained-block : (bs : List ℕ) (C : ℕ) → All Block bs → Block C → Block (chained CIPH C bs)
  unfolding chained
  chained-block [] C each hc = hc
  chained-block (M ∷ Ms) C each hc = chained-block Ms (CIPH (bit_xor C M)) (All-tail Block M Ms each) (law.there_to_blocks (bit_xor C M) (xor_lt 64 C M hc (All-head Block M Ms each)))

  -- what a tag is enciphered from is a block
  module _ (message : List ℕ) (each : All Byte message) where
    blocks_before : All Block (first_blocks (before_last message) message)
    blocks_before = first_blocks-blocks (before_last message) message each (omega arith)

    last_of : Block (last_block CIPH (drop (8 * before_last message) message))
    last_of = last_is_block CIPH (drop (8 * before_last message) message) (All-drop Byte (8 * before_last message) message each) (omega (arith, length-drop (8 * before_last message) message))

  tag_from-apart : (message : List ℕ) (C D : ℕ) → All Byte message → Block C → Block D → tag_from CIPH C message ≡ tag_from CIPH D message → C ≡ D
  unfolding tag_from
  tag_from-apart message C D each hc hd e =
      let bs = first_blocks (before_last message) message in
      let last = last_block CIPH (drop (8 * before_last message) message) in
      let blocks = blocks_before message each in
      let lastly = last_of message each in
      let c = chained-block bs C blocks hc in
      let d = chained-block bs D blocks hd in
      chained-apart bs C D blocks hc hd
      (xor_cancel_right (chained CIPH C bs) (chained CIPH D bs) last (apart law (bit_xor (chained CIPH C bs) last) (bit_xor (chained CIPH D bs) last) (xor_lt 64 (chained CIPH C bs) last c lastly) (xor_lt 64 (chained CIPH D bs) last d lastly) e))

  pub tag_block : (message : List ℕ) (C : ℕ) → All Byte message → Block C → Block (tag_from CIPH C message)
  unfolding tag_from
  tag_block message C each hc =
      let bs = first_blocks (before_last message) message in
      let last = last_block CIPH (drop (8 * before_last message) message) in
      law.there_to_blocks (bit_xor (chained CIPH C bs) last) (xor_lt 64 (chained CIPH C bs) last (chained-block bs C (blocks_before message each) hc) (last_of message each))

  pub CMAC-block : (message : List ℕ) → All Byte message → Block (CMAC CIPH message)
  unfolding CMAC
  CMAC-block message each = tag_block message 0 each (lit< tt)

  module _ (xs ys : List ℕ) (hx : All Byte xs) (hy : All Byte ys) (long : length xs ≡ length ys) where
    short_tells : (C : ℕ) → Block C → length xs ≤ 8 → tag_from CIPH C xs ≡ tag_from CIPH C ys → xs ≡ ys
    short_tells C hc few e =
        let lx = last_is_block CIPH xs hx few in
        let ly = last_is_block CIPH ys hy (omega arith) in
        last_tells CIPH xs ys hx hy long few
        (xor_cancel C (last_block CIPH xs) (last_block CIPH ys)
        (apart law (bit_xor C (last_block CIPH xs)) (bit_xor C (last_block CIPH ys)) (xor_lt 64 C (last_block CIPH xs) hc lx) (xor_lt 64 C (last_block CIPH ys) hc ly)
        (sym (short_tag CIPH C xs few) ∙ e ∙ short_tag CIPH C ys (omega arith))))

    rejoined : take 8 xs ≡ take 8 ys → drop 8 xs ≡ drop 8 ys → xs ≡ ys
    rejoined front rest = sym (take-append-drop 8 xs) ∙ ap₂ (λ u v. u ++ v) front rest ∙ take-append-drop 8 ys

    -- of more than eight bytes: what the tags say of the first eight and of the rest
    module _ (C : ℕ) (hc : Block C) (many : 8 < length xs) (e : tag_from CIPH C xs ≡ tag_from CIPH C ys) where
      abbrev x : ℕ
      x = be_number (take 8 xs)

      abbrev y : ℕ
      y = be_number (take 8 ys)

      same_tags : tag_from CIPH (CIPH (bit_xor C x)) (drop 8 xs) ≡ tag_from CIPH (CIPH (bit_xor C y)) (drop 8 ys)
      same_tags = sym (long_tag CIPH C xs many) ∙ e ∙ long_tag CIPH C ys (omega arith)

      same_rest_tells : drop 8 xs ≡ drop 8 ys → xs ≡ ys
      same_rest_tells rest =
          let ex = first_eight xs hx (omega arith) in
          let ey = first_eight ys hy (omega arith) in
          let bx = xor_lt 64 C x hc (number_block (take 8 xs) ex) in
          let by = xor_lt 64 C y hc (number_block (take 8 ys) ey) in
          let there =
          tag_from-apart (drop 8 xs) (CIPH (bit_xor C x)) (CIPH (bit_xor C y)) (All-drop Byte 8 xs hx) (law.there_to_blocks (bit_xor C x) bx) (law.there_to_blocks (bit_xor C y) by)
          (same_tags ∙ ap (tag_from CIPH (CIPH (bit_xor C y))) (sym rest)) in
          rejoined (same_number (take 8 xs) (take 8 ys) ex ey (xor_cancel C x y (apart law (bit_xor C x) (bit_xor C y) bx by there))) rest

      same_first_goes_on : take 8 xs ≡ take 8 ys → tag_from CIPH (CIPH (bit_xor C x)) (drop 8 xs) ≡ tag_from CIPH (CIPH (bit_xor C x)) (drop 8 ys)
      same_first_goes_on front = same_tags ∙ ap (λ z. tag_from CIPH (CIPH (bit_xor C (be_number z))) (drop 8 ys)) (sym front)

      into_chain : Block (CIPH (bit_xor C x))
      into_chain = law.there_to_blocks (bit_xor C x) (xor_lt 64 C x hc (number_block (take 8 xs) (first_eight xs hx (omega arith))))

  -- where all that differs lies inside one block, and the tags are the same, nothing differs
  tells : (place : ℕ) (xs ys : List ℕ) (C : ℕ) → All Byte xs → All Byte ys → length xs ≡ length ys → Block C
      → take (8 * place) xs ≡ take (8 * place) ys → drop (8 * place + 8) xs ≡ drop (8 * place + 8) ys → tag_from CIPH C xs ≡ tag_from CIPH C ys → xs ≡ ys
  tells zero xs ys C hx hy long hc before after e =
      ⊎_elim
      (λ many. same_rest_tells xs ys hx hy long C hc many e after)
      (λ few. short_tells xs ys hx hy long C hc few e) (cases_lt 8 (length xs))
  tells (suc place) xs ys C hx hy long hc before after e =
      ⊎_elim
      (λ many.
      let front : take 8 xs ≡ take 8 ys = sym (take-take 8 (8 * suc place) xs (omega arith)) ∙ ap (take 8) before ∙ take-take 8 (8 * suc place) ys (omega arith) in
      let count : 8 * suc place ≡ 8 + 8 * place = omega arith in
      let on : (zs : List ℕ) → take (8 * place) (drop 8 zs) ≡ drop 8 (take (8 * suc place) zs) = λ zs. sym (drop-take 8 (8 * place) zs) ∙ ap (λ n. drop 8 (take n zs)) (sym count) in
      let past : 8 * suc place + 8 ≡ 8 + (8 * place + 8) = omega arith in
      let beyond : (zs : List ℕ) → drop (8 * place + 8) (drop 8 zs) ≡ drop (8 * suc place + 8) zs = λ zs. drop-drop (8 * place + 8) 8 zs ∙ ap (λ n. drop n zs) (sym past) in
      let rest =
      tells place (drop 8 xs) (drop 8 ys) (CIPH (bit_xor C (be_number (take 8 xs)))) (All-drop Byte 8 xs hx) (All-drop Byte 8 ys hy)
      (length-drop 8 xs ∙ ap (λ n. n - 8) long ∙ sym (length-drop 8 ys)) (into_chain xs ys hx hy long C hc many e)
      (on xs ∙ ap (drop 8) before ∙ sym (on ys)) (beyond xs ∙ after ∙ sym (beyond ys)) (same_first_goes_on xs ys hx hy long C hc many e front) in
      rejoined xs ys hx hy long front rest)
      (λ few. short_tells xs ys hx hy long C hc few e) (cases_lt 8 (length xs))

  -- messages that differ inside just one block have different tags
  pub one_block_tells : (xs ys : List ℕ) → All Byte xs → All Byte ys → DifferInOneBlock xs ys → CMAC CIPH xs ≡ CMAC CIPH ys → ⊥
  unfolding CMAC
  one_block_tells xs ys hx hy d e = d.differ (tells d.place xs ys 0 hx hy d.as_long (lit< tt) d.same_before d.same_after e)
