-- Deciphering undoes enciphering, and the other way round: ECB, and CBC from every starting block.
use Rattle.std.proofs.Common.{◌≡◌, ℕ, ◌%◌, List, [], ◌∷◌, length, sym, refl, ap, ◌∙◌, ap₂, subst, ⊎_elim, arith, lit<}
use lib.Bits.{bit_xor, xor_lt}
use Rattle.std.proofs.lemmas.Bool.{cond-true, cond-false, cases_Bool, eq-eqb, eqb-true}
use Rattle.std.specs.List.{All}
use Rattle.std.proofs.lemmas.List.Elements.{All-nil, All-cons, All-head, All-tail}
use Rattle.cipher.specs.Block.{Byte, Block, as_blocks, as_bytes, is_whole}
use Rattle.cipher.specs.Inverse.{Inverse}
use Rattle.cipher.proofs.Rows.{xor_twice}
use Rattle.cipher.proofs.Wholes.{length-as_bytes, as_blocks-blocks, as_blocks-as_bytes, as_bytes-as_blocks}
use Rattle.modes.specs.InPlace.{left_by}
use Rattle.modes.specs.Ecb.{ecb}
use Rattle.modes.specs.Cbc.{cbc_enciphered, cbc_deciphered}
use Rattle.modes.proofs.Over.{GoesOver, as_many_blocks, ecb-goes_over, enciphering_goes_over, deciphering_goes_over}

-- ---- of rows of blocks

-- a mode takes blocks to as many blocks, and another mode takes these back
pub record Undoes (there back : List ℕ → List ℕ) : Type 0 where
  pub to_blocks : (bs : List ℕ) → All Block bs → All Block (there bs)
  pub as_many : (bs : List ℕ) → length (there bs) ≡ length bs
  pub back_again : (bs : List ℕ) → All Block bs → back (there bs) ≡ bs

-- Two modes at one state: what the first makes of a block is a block, the second makes the block of it again, and both go on from
-- one state, which is a block too.
module _ {there back : ℕ → List ℕ → List ℕ} {makes next makes_back next_back : ℕ → ℕ → ℕ} (over : GoesOver there makes next) (over_back : GoesOver back makes_back next_back)
    (laws : (state block : ℕ) → Block state → Block block →
    Block (makes state block) × Block (next state block) × (makes_back state (makes state block) ≡ block) × (next_back state (makes state block) ≡ next state block)) where
  all_blocks : (bs : List ℕ) (state : ℕ) → Block state → All Block bs → All Block (there state bs)
  all_blocks [] state hs each = subst (All Block) (sym (over.none state)) (All-nil Block)
  all_blocks (b ∷ bs) state hs each =
      let l = laws state b hs (All-head Block b bs each) in
      subst (All Block) (sym (over.more state b bs)) (All-cons Block (makes state b) (there (next state b) bs) l.0 (all_blocks bs (next state b) l.1 (All-tail Block b bs each)))

  blocks_again : (bs : List ℕ) (state : ℕ) → Block state → All Block bs → back state (there state bs) ≡ bs
  blocks_again [] state hs each = ap (back state) (over.none state) ∙ over_back.none state
  blocks_again (b ∷ bs) state hs each =
      let l = laws state b hs (All-head Block b bs each) in
      let on = next state b in
      ap (back state) (over.more state b bs) ∙ over_back.more state (makes state b) (there on bs)
      ∙ ap₂ {C = List ℕ} (λ c cs. c ∷ cs) l.2 (ap (λ s. back s (there on bs)) l.3 ∙ blocks_again bs on l.1 (All-tail Block b bs each))

  undone_from : (state : ℕ) → Block state → Undoes (there state) (back state)
  undone_from state hs =
      record { to_blocks = λ bs. all_blocks bs state hs; as_many = λ bs. as_many_blocks over bs state; back_again = λ bs. blocks_again bs state hs }

module _ (there back : ℕ → ℕ) (law : Inverse there back) where
  -- by deciphering, or by enciphering what was deciphered
  pub ecb-undone : Undoes (ecb there) (ecb back)
  ecb-undone = undone_from (ecb-goes_over there) (ecb-goes_over back) (λ state b hs hb. (law.there_to_blocks b hb, hs, law.back_undoes b hb, refl)) 0 (lit< tt)

  pub cbc_undone : (start : ℕ) → Block start → Undoes (cbc_enciphered there start) (cbc_deciphered back start)
  cbc_undone =
      undone_from (enciphering_goes_over there) (deciphering_goes_over back) (λ before P hb hp.
      let sum = xor_lt 64 P before hp hb in
      let C = law.there_to_blocks (bit_xor P before) sum in
      (C, C, ap (λ z. bit_xor z before) (law.back_undoes (bit_xor P before) sum) ∙ xor_twice P before, refl))

  pub cbc_redone : (start : ℕ) → Block start → Undoes (cbc_deciphered back start) (cbc_enciphered there start)
  cbc_redone =
      undone_from (deciphering_goes_over back) (enciphering_goes_over there) (λ before C hb hc.
      let same = ap there (xor_twice (back C) before) ∙ law.there_undoes C hc in
      (xor_lt 64 (back C) before (law.back_to_blocks C hc) hb, hc, same, same))

  -- the parts of these three, each by its name
  ecb-blocks : (bs : List ℕ) → All Block bs → All Block (ecb there bs)
  ecb-blocks = ecb-undone.to_blocks

  ecb-back_again : (bs : List ℕ) → All Block bs → ecb back (ecb there bs) ≡ bs
  ecb-back_again = ecb-undone.back_again

  enciphered_blocks : (bs : List ℕ) (start : ℕ) → Block start → All Block bs → All Block (cbc_enciphered there start bs)
  enciphered_blocks bs start hs = (cbc_undone start hs).to_blocks bs

  deciphered_again : (bs : List ℕ) (start : ℕ) → Block start → All Block bs → cbc_deciphered back start (cbc_enciphered there start bs) ≡ bs
  deciphered_again bs start hs = (cbc_undone start hs).back_again bs

  deciphered_blocks : (bs : List ℕ) (start : ℕ) → Block start → All Block bs → All Block (cbc_deciphered back start bs)
  deciphered_blocks bs start hs = (cbc_redone start hs).to_blocks bs

  enciphered_again : (bs : List ℕ) (start : ℕ) → Block start → All Block bs → cbc_enciphered there start (cbc_deciphered back start bs) ≡ bs
  enciphered_again bs start hs = (cbc_redone start hs).back_again bs

-- ---- of buffers

module _ {there back : List ℕ → List ℕ} (undoes : Undoes there back) {buffer left : List ℕ} (each : All Byte buffer) (written : left ≡ left_by there buffer) where
  -- whole blocks come back, and what was refused was left as it was
  pub left_undone : left_by back left ≡ buffer
  left_undone =
      let blocks = as_blocks buffer in
      let made = as_bytes (there blocks) in
      ap (left_by back) written ∙
      ⊎_elim
      (λ whole.
      let w = eqb-true (length buffer % 8) 0 whole in
      let long : length made % 8 ≡ 0 = omega (arith, length-as_bytes (there blocks)) in
      ap (left_by back) (cond-true (is_whole buffer) made buffer whole)
      ∙ cond-true (is_whole made) (as_bytes (back (as_blocks made))) made (eq-eqb (length made % 8) 0 long)
      ∙ ap (λ bs. as_bytes (back bs)) (as_blocks-as_bytes (there blocks) (undoes.to_blocks blocks (as_blocks-blocks buffer each)))
      ∙ ap as_bytes (undoes.back_again blocks (as_blocks-blocks buffer each))
      ∙ as_bytes-as_blocks buffer each w)
      (λ ragged. ap (left_by back) (cond-false (is_whole buffer) made buffer ragged) ∙ cond-false (is_whole buffer) (as_bytes (back blocks)) buffer ragged)
      (cases_Bool (is_whole buffer))
