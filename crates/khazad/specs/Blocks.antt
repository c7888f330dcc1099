-- Maps of rows of bytes as maps of blocks, and round keys as blocks.
--   on_blocks       a map of rows of eight bytes, on blocks as numbers
--   nine_blocks     nine round keys, given by their numbers as rows of bytes, in a row as blocks
--   rows_of         the other way: round keys in a row as blocks, by their numbers as rows of bytes
-- Assumes nothing.
use Rattle.std.specs.Prelude.{ℕ, List, map, slice_index}
use Rattle.std.specs.List.{range_with_len}
use Rattle.cipher.specs.Block.{be_bytes, be_number}

abbrev pub on_blocks : (List ℕ → List ℕ) → ℕ → ℕ
on_blocks f b = be_number (f (be_bytes 8 b))

abbrev pub nine_blocks : (ℕ → List ℕ) → List ℕ
nine_blocks ks = map (λ n. be_number (ks n)) (range_with_len 0 9)

abbrev pub rows_of : List ℕ → ℕ → List ℕ
rows_of keys n = be_bytes 8 (slice_index keys n)
