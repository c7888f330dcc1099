-- Bytes, blocks and keys, and ⊕ on rows of bytes.
--   Byte, Bytes     a number below 256; a row of some many of them
--   Block, Key      a number of 64 bits; a row of sixteen bytes
--   be_bytes        the bytes that write a number, first byte most significant (big-endian)
--   be_number       the number that bytes write, first byte most significant
--   _⊕_             exclusive or, byte by byte
--   first_blocks    the first n blocks of a row of bytes
--   as_blocks       the whole blocks of a row of bytes
--   as_bytes        the bytes that write a row of blocks
--   is_whole        whether a row of bytes is whole blocks
--   DifferInOneBlock    two rows of bytes differ inside just one block
-- Assumes nothing.
use Rattle.std.specs.Prelude.{◌≡◌, ℕ, zero, suc, ◌+◌, ◌*◌, ◌/◌, ◌%◌, ◌^◌, ◌<◌, Bool, List, [], ◌∷◌, ◌++◌, length, take, drop, ◌==◌, bit_xor}
use Rattle.std.specs.Simd.Lanes.{zip2}
use Rattle.std.specs.Int.Digits.{number_from_digits}
use Rattle.std.specs.List.{All}

abbrev pub Byte : ℕ → Type 0
Byte b = b < 256

-- a row of n bytes
abbrev pub Bytes : ℕ → List ℕ → Type 0
Bytes n xs = (length xs ≡ n) × All Byte xs

-- a block is eight bytes, and is taken as the number that they write
abbrev pub Block : ℕ → Type 0
Block b = b < 2 ^ 64

abbrev pub Key : List ℕ → Type 0
Key k = Bytes 16 k

-- the w bytes that write n
unfoldable pub be_bytes : ℕ → ℕ → List ℕ
be_bytes zero n = []
be_bytes (suc w) n = be_bytes w (n / 256) ++ (n % 256 ∷ [])

unfoldable pub be_number : List ℕ → ℕ
be_number xs = number_from_digits 256 xs

abbrev pub ◌⊕◌ : List ℕ → List ℕ → List ℕ
a ⊕ b = zip2 bit_xor a b

infixl 60 ◌⊕◌
-- ---- rows of bytes as rows of blocks

unfoldable pub first_blocks : ℕ → List ℕ → List ℕ
first_blocks zero xs = []
first_blocks (suc n) xs = be_number (take 8 xs) ∷ first_blocks n (drop 8 xs)

-- up to seven bytes that are left over at the end do not count
unfoldable pub as_blocks : List ℕ → List ℕ
as_blocks xs = first_blocks (length xs / 8) xs

unfoldable pub as_bytes : List ℕ → List ℕ
as_bytes [] = []
as_bytes (b ∷ bs) = be_bytes 8 b ++ as_bytes bs

abbrev pub is_whole : List ℕ → Bool
is_whole xs = length xs % 8 == 0

-- two rows are as long, and differ, and all that differs lies inside one of the blocks
pub record DifferInOneBlock (xs ys : List ℕ) : Type 0 where
  pub as_long : length xs ≡ length ys
  pub differ : xs ≡ ys → ⊥
  pub place : ℕ
  pub same_before : take (8 * place) xs ≡ take (8 * place) ys
  pub same_after : drop (8 * place + 8) xs ≡ drop (8 * place + 8) ys
