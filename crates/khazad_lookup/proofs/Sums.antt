-- The layers γ and θ as sums of eight blocks, one for each byte.
use Rattle.std.proofs.Common.{◌≡◌, ℕ, ◌-◌, ◌*◌, ◌%◌, ◌^◌, ◌<◌, ◌≤◌, ◌+◌, drop, List, [], ◌∷◌, length, get_or, replicate, sym, refl, ap, ◌∙◌}
use lib.Bits.{bit_and, bit_xor, xor_assoc, xor_zero_r}
use Rattle.std.proofs.lemmas.List.{drop_more, drop_all}
use Rattle.std.specs.List.{All}
use Rattle.std.proofs.lemmas.List.Elements.{All-head, All-tail}
use Rattle.cipher.specs.Block.{Byte, Bytes, be_bytes, be_number}
use Rattle.cipher.proofs.Computed.{agree_pairs}
use Rattle.cipher.proofs.Numbers.{be_number-⊕, block_bytes, bytes_of_block, number_first}
use Rattle.cipher.proofs.Rows.{eight_places}
use Rattle.khazad.specs.Khazad.{dbl, times, mul, S, γ, H, scaled, product, θ}
use Rattle.khazad.specs.Boxes.{S-byte}
use Rattle.khazad.specs.Layers.{Wide, H-wide, γ-bytes, γ-twice, scaled-bytes, product-bytes}
use Rattle.khazad.specs.Blocks.{on_blocks}
use Rattle.khazad_lookup.specs.Table.{table_entry, added}

-- ---- γ, then θ

-- the bytes of a row through S, each times its row of a matrix, as blocks, added up
unfoldable boxed-sum : List ℕ → List (List ℕ) → ℕ
boxed-sum [] rows = 0
boxed-sum (x ∷ xs) [] = 0
boxed-sum (x ∷ xs) (row ∷ rows) = bit_xor (be_number (scaled (S x) row)) (boxed-sum xs rows)

zeros_are_zero : be_number (replicate 8 0) ≡ 0
unfolding be_number
zeros_are_zero = refl

product-sum : (a : List ℕ) → All Byte a → (rows : List (List ℕ)) → Wide rows → be_number (product (γ a) rows) ≡ boxed-sum a rows
unfolding product γ boxed-sum
product-sum [] h rows w = zeros_are_zero
product-sum (x ∷ a) h [] w = zeros_are_zero
product-sum (x ∷ a) h (row ∷ rows) w =
    let rest = All-tail (λ row. length row ≡ 8) row rows w in
    let bytes = All-tail Byte x a h in
    be_number-⊕ (scaled (S x) row) (product (γ a) rows) (scaled-bytes (S x) (S-byte x (All-head Byte x a h)) row (All-head (λ row. length row ≡ 8) row rows w))
    (product-bytes (γ a) (γ-bytes (length a) a (refl, bytes)).1 rows rest)
    ∙ ap (bit_xor (be_number (scaled (S x) row))) (product-sum a bytes rows rest)

pub entries_add_up : (a : List ℕ) → Bytes 8 a → added table_entry 0 a ≡ be_number (θ (γ a))
unfolding θ boxed-sum added table_entry
entries_add_up a h = ap (added table_entry 0) (eight_places a h.0) ∙ ap (λ xs. boxed-sum xs H) (sym (eight_places a h.0)) ∙ sym (product-sum a h.1 H H-wide)

-- ---- γ alone

-- table k masked to its byte k, which is S(x) times the diagonal of H
pub masked_entry : (k x : ℕ) → k < 8 → x < 256 → bit_and (table_entry k x) (255 * 2 ^ (56 - 8 * k) % 2 ^ 64) ≡ S x * 256 ^ (7 - k)
unfolding table_entry scaled S mul times dbl be_number
masked_entry = agree_pairs 256 8 (λ k x. bit_and (table_entry k x) (255 * 2 ^ (56 - 8 * k) % 2 ^ 64)) (λ k x. S x * 256 ^ (7 - k)) tt

-- the bytes of a row, each moved up to its place, added up
unfoldable placed_sum : List ℕ → ℕ
placed_sum [] = 0
placed_sum (x ∷ xs) = bit_xor (x * 256 ^ length xs) (placed_sum xs)

number_is_placed_sum : (xs : List ℕ) → All Byte xs → be_number xs ≡ placed_sum xs
unfolding be_number placed_sum
number_is_placed_sum [] h = refl
number_is_placed_sum (x ∷ xs) h = number_first x xs (All-tail Byte x xs h) ∙ ap (bit_xor (x * 256 ^ length xs)) (number_is_placed_sum xs (All-tail Byte x xs h))

pub boxes_add_up : (a : List ℕ) → Bytes 8 a → added (λ k x. S x * 256 ^ (7 - k)) 0 a ≡ be_number (γ a)
unfolding placed_sum γ added
boxes_add_up a h =
    ap (added (λ k x. S x * 256 ^ (7 - k)) 0) (eight_places a h.0) ∙ ap (λ xs. placed_sum (γ xs)) (sym (eight_places a h.0))
    ∙ sym (number_is_placed_sum (γ a) (γ-bytes 8 a h).1)

-- ---- θ alone

pub γ-cancels : (b : ℕ) → on_blocks (λ a. θ (γ a)) (on_blocks γ b) ≡ on_blocks θ b
γ-cancels b =
    let a = be_bytes 8 b in
    let h = block_bytes b in
    ap (λ z. be_number (θ (γ z))) (bytes_of_block (γ a) (γ-bytes 8 a h)) ∙ ap (λ z. be_number (θ z)) (γ-twice a h.1)

-- ---- adding up, byte by byte

module _ (f : ℕ → ℕ → ℕ) (a : List ℕ) where
  pub one_byte_more : (k s r : ℕ) → k < length a → r ≡ f k (get_or a k 0) → bit_xor (bit_xor s r) (added f (k + 1) (drop (k + 1) a)) ≡ bit_xor s (added f k (drop k a))
  unfolding added
  one_byte_more k s r l e =
      ap (λ v. bit_xor (bit_xor s v) (added f (k + 1) (drop (k + 1) a))) e
      ∙ xor_assoc s (f k (get_or a k 0)) (added f (k + 1) (drop (k + 1) a))
      ∙ ap (λ xs. bit_xor s (added f k xs)) (sym (drop_more a k 0 l))

  pub no_byte_more : (k s : ℕ) → length a ≤ k → bit_xor s (added f k (drop k a)) ≡ s
  unfolding added
  no_byte_more k s l = ap (λ xs. bit_xor s (added f k xs)) (drop_all k a l) ∙ xor_zero_r s
