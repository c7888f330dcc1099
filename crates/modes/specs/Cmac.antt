-- CMAC of NIST SP 800-38B for blocks of 64 bits, with all 64 bits kept. Blocks are numbers below 2^64.
--   doubled       a block shifted left by one, and 0x1B added where the top bit was set
--   K1, K2        the subkeys
--   before_last   how many blocks come before the last one, which has one byte at least unless the message is empty
--   padded        fewer than eight bytes, filled up to a block: the bit 1, and then zeros
--   last_block    the last block as it goes into the chain: whole under K1, or padded under K2
--   chained       the chain after some blocks: each is added to it, and the sum is enciphered
--   tag_from      the tag of a message whose chain begins at some block
--   CMAC          the tag of a message
-- Assumes nothing.
use Rattle.std.specs.Prelude.{ℕ, ◌-◌, ◌*◌, ◌/◌, ◌%◌, ◌^◌, cond, List, [], ◌∷◌, ◌++◌, length, drop, replicate, ◌==◌, bit_xor, nat_le}
use Rattle.cipher.specs.Block.{be_number, first_blocks}

unfoldable pub doubled : ℕ → ℕ
doubled L = cond (nat_le (2 ^ 63) L) (bit_xor (L * 2 % 2 ^ 64) 0x1B) (L * 2 % 2 ^ 64)

abbrev pub before_last : List ℕ → ℕ
before_last message = (length message - 1) / 8

abbrev pub padded : List ℕ → List ℕ
padded bytes = bytes ++ 0x80 ∷ replicate (7 - length bytes) 0

module _ (CIPH : ℕ → ℕ) where
  abbrev pub K1 : ℕ
  K1 = doubled (CIPH 0)

  abbrev pub K2 : ℕ
  K2 = doubled K1

  unfoldable pub last_block : List ℕ → ℕ
  last_block bytes = cond (length bytes == 8) (bit_xor K1 (be_number bytes)) (bit_xor K2 (be_number (padded bytes)))

  unfoldable pub chained : ℕ → List ℕ → ℕ
  chained C [] = C
  chained C (M ∷ Ms) = chained (CIPH (bit_xor C M)) Ms

  unfoldable pub tag_from : ℕ → List ℕ → ℕ
  tag_from C message =
      CIPH (bit_xor (chained C (first_blocks (before_last message) message)) (last_block (drop (8 * before_last message) message)))

  unfoldable pub CMAC : List ℕ → ℕ
  CMAC message = tag_from 0 message
