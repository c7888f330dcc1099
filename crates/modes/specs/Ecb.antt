-- ECB of NIST SP 800-38A: each block goes through the cipher by itself. Blocks are numbers below 2^64.
--   ecb     of one map of blocks: enciphering and deciphering differ in the map alone
-- Assumes nothing.
use Rattle.std.specs.Prelude.{ℕ, List, [], ◌∷◌}

unfoldable pub ecb : (ℕ → ℕ) → List ℕ → List ℕ
ecb CIPH [] = []
ecb CIPH (P ∷ Ps) = CIPH P ∷ ecb CIPH Ps
