-- CBC of NIST SP 800-38A. Blocks are numbers below 2^64, and IV is the starting block.
--   cbc_enciphered    each block is added to the enciphered block before it, the first to the starting block, and
--                     the sum is enciphered
--   cbc_deciphered    each block is deciphered and added to the enciphered block before it, the first to the
--                     starting block
-- Assumes nothing.
use Rattle.std.specs.Prelude.{ℕ, List, [], ◌∷◌, bit_xor}

unfoldable pub cbc_enciphered : (ℕ → ℕ) → ℕ → List ℕ → List ℕ
cbc_enciphered CIPH IV [] = []
cbc_enciphered CIPH IV (P ∷ Ps) = CIPH (bit_xor P IV) ∷ cbc_enciphered CIPH (CIPH (bit_xor P IV)) Ps

unfoldable pub cbc_deciphered : (ℕ → ℕ) → ℕ → List ℕ → List ℕ
cbc_deciphered CIPH⁻¹ IV [] = []
cbc_deciphered CIPH⁻¹ IV (C ∷ Cs) = bit_xor (CIPH⁻¹ C) IV ∷ cbc_deciphered CIPH⁻¹ C Cs
