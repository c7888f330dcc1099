-- What a block cipher means: two maps of keys and blocks, of which under every key either undoes the other.
--   Inverse     two maps of blocks undo each other
--   Lawful      two maps of keys and blocks do so under every key
-- Assumes nothing.
use Rattle.std.specs.Prelude.{◌≡◌, ℕ, List}
use Rattle.cipher.specs.Block.{Block, Key}

pub record Inverse (there back : ℕ → ℕ) : Type 0 where
  pub there_to_blocks : (b : ℕ) → Block b → Block (there b)
  pub back_to_blocks : (b : ℕ) → Block b → Block (back b)
  pub back_undoes : (b : ℕ) → Block b → back (there b) ≡ b
  pub there_undoes : (b : ℕ) → Block b → there (back b) ≡ b

abbrev pub Lawful : (List ℕ → ℕ → ℕ) → (List ℕ → ℕ → ℕ) → Type 0
Lawful enciphered deciphered = (k : List ℕ) → Key k → Inverse (enciphered k) (deciphered k)
