-- The rounds on blocks, and the cipher under the round keys that an engine holds.
use Rattle.std.proofs.Common.{◌≡◌, ℕ, suc, ◌+◌, ◌<◌, List, length, get_or, take, drop, sym, ap, ◌∙◌, ap₂, add-one, arith}
use lib.Bits.{bit_xor}
use Rattle.std.proofs.lemmas.List.{length-take, get_or-take, get_or-drop}
use Rattle.std.proofs.lemmas.List.FromFn.{fill_by_all, get_or-map-range_with_len, length-map-range_with_len}
use Rattle.cipher.specs.Block.{Key, Block, be_bytes, be_number, ◌⊕◌}
use Rattle.cipher.proofs.Numbers.{be_bytes-⊕, block_bytes, bytes_of_block}
use Rattle.khazad.specs.Khazad.{γ, θ, ρ, K, rounds, α, inverse, encipher, decipher, enciphered, deciphered}
use Rattle.khazad.specs.Layers.{γ-bytes}
use Rattle.khazad.specs.Schedule.{K-bytes}
use Rattle.khazad.specs.Undo.{Nine, α-same, inverse-nine, inverse-same}
use Rattle.khazad.specs.Blocks.{nine_blocks, on_blocks, rows_of}
use Rattle.khazad.proofs.Schedules.{mixed_bytes, block_with_bytes}

-- ---- the rounds

-- a place among the first n of a row is below n
pub before_cut : (n : ℕ) (xs : List ℕ) (i : ℕ) → i < length (take n xs) → i < n
before_cut n xs i l = omega (arith, length-take n xs)

module _ (keys : List ℕ) where
  -- after i of the rounds that have θ, one more, under the next of the n keys that follow the first
  pub one_round_more : (n start i state mixed : ℕ) → i < n → be_bytes 8 state ≡ rounds (rows_of keys) i (be_bytes 8 start)
      → mixed ≡ on_blocks (λ a. θ (γ a)) state → be_bytes 8 (bit_xor mixed (get_or (take n (drop 1 keys)) i 0)) ≡ rounds (rows_of keys) (i + 1) (be_bytes 8 start)
  unfolding rounds ρ
  one_round_more n start i state mixed l hs hm =
      let number : 1 + i ≡ suc i = omega arith in
      let next : rounds (rows_of keys) (suc i) (be_bytes 8 start) ≡ rounds (rows_of keys) (i + 1) (be_bytes 8 start) = ap (λ n. rounds (rows_of keys) n (be_bytes 8 start)) (sym (add-one i)) in
      let key : get_or (take n (drop 1 keys)) i 0 ≡ get_or keys (suc i) 0 = get_or-take n (drop 1 keys) i 0 l ∙ get_or-drop 1 keys i 0 ∙ ap (λ n. get_or keys n 0) number in
      be_bytes-⊕ 8 mixed (get_or (take n (drop 1 keys)) i 0)
      ∙ ap₂ ◌⊕◌ (ap (be_bytes 8) hm ∙ mixed_bytes state ∙ ap (λ a. θ (γ a)) hs) (ap (be_bytes 8) key)
      ∙ next

  pub all_rounds : (block i state boxed : ℕ) → i ≡ 7 → be_bytes 8 state ≡ rounds (rows_of keys) i (be_bytes 8 (bit_xor block (get_or keys 0 0)))
      → boxed ≡ on_blocks γ state → Block (bit_xor boxed (get_or keys 8 0)) → bit_xor boxed (get_or keys 8 0) ≡ on_blocks (α (rows_of keys)) block
  unfolding α
  all_rounds block i state boxed e hs hb h =
      block_with_bytes (bit_xor boxed (get_or keys 8 0)) (α (rows_of keys) (be_bytes 8 block)) h
      (be_bytes-⊕ 8 boxed (get_or keys 8 0)
      ∙ ap (λ a. a ⊕ rows_of keys 8)
      (ap (be_bytes 8) hb ∙ bytes_of_block (γ (be_bytes 8 state)) (γ-bytes 8 (be_bytes 8 state) (block_bytes state))
      ∙ ap γ (hs ∙ ap₂ (rounds (rows_of keys)) e (be_bytes-⊕ 8 block (get_or keys 0 0)))))

-- ---- nine round keys made by a rule

nine_at : (f : ℕ → List ℕ) (keys : List ℕ) → keys ≡ nine_blocks f → (n : ℕ) → n < 9 → get_or keys n 0 ≡ be_number (f n)
nine_at f keys h n l = ap (λ ks. get_or ks n 0) h ∙ get_or-map-range_with_len (λ n. be_number (f n)) 0 9 n n 0 l (omega arith)

-- each is read back as the row that it was written from
pub rows_kept : (f : ℕ → List ℕ) (keys : List ℕ) → Nine f → keys ≡ nine_blocks f → (n : ℕ) → n < 9 → rows_of keys n ≡ f n
rows_kept f keys nine h n l = ap (be_bytes 8) (nine_at f keys h n l) ∙ bytes_of_block (f n) (nine n l)

module _ (key : List ℕ) (h : Key key) where
  pub backward_of_key : (forward backward : List ℕ) → forward ≡ nine_blocks (K key) → backward ≡ nine_blocks (inverse (rows_of forward)) → backward ≡ nine_blocks (inverse (K key))
  backward_of_key forward backward of-key e =
      fill_by_all (λ n. be_number (inverse (K key) n)) backward 9 0
      (ap length e ∙ length-map-range_with_len (λ n. be_number (inverse (rows_of forward) n)) 0 9)
      (λ k l. nine_at (inverse (rows_of forward)) backward e k l
      ∙ ap be_number (inverse-same (rows_of forward) (K key) (rows_kept (K key) forward (K-bytes key h) of-key) k l))

  pub runs_forward : (forward : List ℕ) → forward ≡ nine_blocks (K key) → (b : ℕ) → on_blocks (α (rows_of forward)) b ≡ enciphered key b
  unfolding enciphered encipher
  runs_forward forward of-key b = ap be_number (α-same (rows_of forward) (K key) (rows_kept (K key) forward (K-bytes key h) of-key) (be_bytes 8 b))

  pub runs_backward : (backward : List ℕ) → backward ≡ nine_blocks (inverse (K key)) → (b : ℕ) → on_blocks (α (rows_of backward)) b ≡ deciphered key b
  unfolding deciphered decipher
  runs_backward backward of-key b =
      ap be_number (α-same (rows_of backward) (inverse (K key)) (rows_kept (inverse (K key)) backward (inverse-nine (K key) (K-bytes key h)) of-key) (be_bytes 8 b))
