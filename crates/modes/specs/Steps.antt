-- What a closure makes of blocks, call by call.
--   Makes          its calls at some blocks, one after another, make these blocks; each call finds it as the one before left it
--   LeftByCalls    the buffer after such calls: the blocks that they make of its blocks
-- Assumes nothing.
use Rattle.std.specs.Prelude.{◌≡◌, ℕ, List, [], ◌∷◌}
use Rattle.cipher.specs.Block.{as_blocks, as_bytes}

-- `calls f b c g` says that a call of f at the block b may make the block c and leave g
module _ {F : Type 0} (calls : F → ℕ → ℕ → F → Type 0) where
  abbrev pub Makes : F → List ℕ → List ℕ → Type 0
  Makes f [] [] = Unit {0}
  Makes f [] (c ∷ cs) = ⊥
  Makes f (b ∷ bs) [] = ⊥
  Makes f (b ∷ bs) (c ∷ cs) = (g : F) × calls f b c g × Makes g bs cs

  abbrev pub LeftByCalls : F → List ℕ → List ℕ → Type 0
  LeftByCalls f buffer left = (made : List ℕ) × Makes f (as_blocks buffer) made × (left ≡ as_bytes made)
