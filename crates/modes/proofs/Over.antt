-- How each mode goes over blocks, one after another.
use Rattle.std.proofs.Common.{◌≡◌, ℕ, suc, List, [], ◌∷◌, length, refl, ap, ◌∙◌}
use lib.Bits.{bit_xor}
use Rattle.modes.specs.Ecb.{ecb}
use Rattle.modes.specs.Cbc.{cbc_enciphered, cbc_deciphered}

-- A mode that goes over blocks from a state, which for CBC is the enciphered block before: `makes` says what it makes of a block
-- at a state, and `next` what state it goes on from.
pub record GoesOver (mode : ℕ → List ℕ → List ℕ) (makes next : ℕ → ℕ → ℕ) : Type 0 where
  pub none : (state : ℕ) → mode state [] ≡ []
  pub more : (state block : ℕ) (blocks : List ℕ) → mode state (block ∷ blocks) ≡ makes state block ∷ mode (next state block) blocks

-- as many blocks come out as went in
module _ {mode : ℕ → List ℕ → List ℕ} {makes next : ℕ → ℕ → ℕ} (over : GoesOver mode makes next) where
  pub as_many_blocks : (bs : List ℕ) (state : ℕ) → length (mode state bs) ≡ length bs
  as_many_blocks [] state = ap length (over.none state)
  as_many_blocks (b ∷ bs) state = ap length (over.more state b bs) ∙ ap suc (as_many_blocks bs (next state b))

module _ (CIPH : ℕ → ℕ) where
  pub ecb-goes_over : GoesOver (λ state. ecb CIPH) (λ state block. CIPH block) (λ state block. state)
  unfolding ecb
  ecb-goes_over = record { none = λ state. refl; more = λ state block blocks. refl }

  pub enciphering_goes_over : GoesOver (cbc_enciphered CIPH) (λ before block. CIPH (bit_xor block before)) (λ before block. CIPH (bit_xor block before))
  unfolding cbc_enciphered
  enciphering_goes_over = record { none = λ before. refl; more = λ before block blocks. refl }

  pub deciphering_goes_over : GoesOver (cbc_deciphered CIPH) (λ before block. bit_xor (CIPH block) before) (λ before block. block)
  unfolding cbc_deciphered
  deciphering_goes_over = record { none = λ before. refl; more = λ before block blocks. refl }

  -- of every map of blocks, and from every start
  pub ecb-as_many : (bs : List ℕ) → length (ecb CIPH bs) ≡ length bs
  ecb-as_many bs = as_many_blocks ecb-goes_over bs 0

  pub enciphered_as_many : (bs : List ℕ) (start : ℕ) → length (cbc_enciphered CIPH start bs) ≡ length bs
  enciphered_as_many = as_many_blocks enciphering_goes_over

  pub deciphered_as_many : (bs : List ℕ) (start : ℕ) → length (cbc_deciphered CIPH start bs) ≡ length bs
  deciphered_as_many = as_many_blocks deciphering_goes_over
