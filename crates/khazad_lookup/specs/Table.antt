-- The lookup tables of Khazad by their rule.
--   table_entry     what table k holds at x: the product of S(x) with row k of H, as a block
--   tables_by_rule  the eight tables, each with its 256 entries
--   added           what a function gives of the bytes of a row and their places, added up by ⊕; the places count from k
-- Assumes nothing.
use Rattle.std.specs.Prelude.{ℕ, ◌+◌, List, [], ◌∷◌, map, bit_xor}
use Rattle.std.specs.List.{range_with_len}
use Rattle.cipher.specs.Block.{be_number}
use Rattle.khazad.specs.Khazad.{S, H_row, scaled}

unfoldable pub table_entry : ℕ → ℕ → ℕ
table_entry k x = be_number (scaled (S x) (H_row k))

unfoldable pub tables_by_rule : List (List ℕ)
tables_by_rule = map (λ k. map (table_entry k) (range_with_len 0 256)) (range_with_len 0 8)

unfoldable pub added : (ℕ → ℕ → ℕ) → ℕ → List ℕ → ℕ
added f k [] = 0
added f k (x ∷ xs) = bit_xor (f k x) (added f (k + 1) xs)
