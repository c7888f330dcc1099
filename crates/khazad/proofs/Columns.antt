-- A row times a matrix, column by column.
use Rattle.std.proofs.Common.{◌≡◌, ℕ, ◌+◌, ◌*◌, ◌<◌, List, [], ◌∷◌, ◌++◌, length, get_or, drop, sym, refl, ap, ◌∙◌, ap₂, arith}
use lib.Bits.{bit_xor, xor_assoc, xor_zero_r}
use Rattle.std.proofs.lemmas.Simd.{get_or-zip2}
use Rattle.std.proofs.lemmas.List.{get_or-map, get_or-replicate, get_or_append_left, drop_at}
use Rattle.std.specs.List.{flat_map, All}
use Rattle.std.proofs.lemmas.List.Elements.{All-head, All-tail}
use Rattle.cipher.specs.Block.{Byte, Bytes}
use Rattle.khazad.specs.Khazad.{mul, H, scaled, product, θ}
use Rattle.khazad.specs.Layers.{Wide, H-wide, scaled-bytes, product-bytes}
use Rattle.cipher.proofs.Computed.{agree_pairs}

-- the bytes of a row, each times what stands in column j of its row of a matrix, added up
unfoldable pub dot : List ℕ → List (List ℕ) → ℕ → ℕ
dot [] rows j = 0
dot (x ∷ xs) [] j = 0
dot (x ∷ xs) (row ∷ rows) j = bit_xor (mul (get_or row j 0) x) (dot xs rows j)

pub product_at : (a : List ℕ) → All Byte a → (rows : List (List ℕ)) → Wide rows → (j : ℕ) → j < 8 → get_or (product a rows) j 0 ≡ dot a rows j
unfolding product dot scaled
product_at [] h rows w j l = get_or-replicate 8 j 0 0 l
product_at (x ∷ a) h [] w j l = get_or-replicate 8 j 0 0 l
product_at (x ∷ a) h (row ∷ rows) w j l =
    let wide : j < length row = omega (arith, All-head (λ row. length row ≡ 8) row rows w) in
    get_or-zip2 bit_xor (scaled x row) (product a rows) j 0 0 0
    (omega (arith, (scaled-bytes x (All-head Byte x a h) row (All-head (λ row. length row ≡ 8) row rows w)).0)) (omega (arith, (product-bytes a (All-tail Byte x a h) rows (All-tail (λ row. length row ≡ 8) row rows w)).0))
    ∙ ap₂ bit_xor (get_or-map (λ e. mul e x) row j 0 0 wide) (product_at a (All-tail Byte x a h) rows (All-tail (λ row. length row ≡ 8) row rows w) j l)

pub θ-at : (a : List ℕ) → Bytes 8 a → (j : ℕ) → j < 8 → get_or (θ a) j 0 ≡ dot a H j
unfolding θ
θ-at a h j l = product_at a h.1 H H-wide j l

-- ---- the matrix as the code has it, its rows one after the other

-- the same sum where the rows stand one after the other
unfoldable pub dot_flat : List ℕ → List ℕ → ℕ → ℕ
dot_flat [] entries j = 0
dot_flat (x ∷ xs) entries j = bit_xor (mul (get_or entries j 0) x) (dot_flat xs (drop 8 entries) j)

dot-flat : (xs : List ℕ) (rows : List (List ℕ)) → Wide rows → length xs ≡ length rows → (j : ℕ) → j < 8 → dot xs rows j ≡ dot_flat xs (flat_map (λ row. row) rows) j
unfolding dot dot_flat
dot-flat [] rows w h j l = refl
dot-flat (x ∷ xs) [] w h j l = absurd (omega arith)
dot-flat (x ∷ xs) (row ∷ rows) w h j l =
    let others = flat_map (λ (row : List ℕ). row) rows in
    let eight : length row ≡ 8 = All-head (λ row. length row ≡ 8) row rows w in
    let within : j < length row = omega arith in
    ap₂ (λ e rest. bit_xor (mul e x) rest) (sym (get_or_append_left row others 0 j within))
    (dot-flat xs rows (All-tail (λ row. length row ≡ 8) row rows w) (omega arith) j l ∙ ap (λ es. dot_flat xs es j) (sym (drop_at row others 8 eight)))

-- H as the code has it, its rows one after the other
pub H-entry : (i j : ℕ) → i < 8 → j < 8 → get_or (flat_map (λ row. row) H) (8 * i + j) 0 ≡ get_or (get_or H i []) j 0
H-entry = agree_pairs 8 8 (λ i j. get_or (flat_map (λ row. row) H) (8 * i + j) 0) (λ i j. get_or (get_or H i []) j 0) tt

pub θ-flat : (a : List ℕ) → Bytes 8 a → (j : ℕ) → j < 8 → dot_flat a (flat_map (λ row. row) H) j ≡ get_or (θ a) j 0
θ-flat a h j l = sym (θ-at a h j l ∙ dot-flat a H H-wide h.0 j l)

-- one byte of the row: its share is added, and the sum goes on over what follows the row
pub one_byte_more : (xs row entries : List ℕ) (x j s : ℕ) → length row ≡ 8 → j < 8
    → bit_xor (bit_xor s (mul (get_or row j 0) x)) (dot_flat xs entries j) ≡ bit_xor s (dot_flat (x ∷ xs) (row ++ entries) j)
unfolding dot_flat
one_byte_more xs row entries x j s eight l =
    let within : j < length row = omega arith in
    xor_assoc s (mul (get_or row j 0) x) (dot_flat xs entries j)
    ∙ ap₂ (λ e es. bit_xor s (bit_xor (mul e x) (dot_flat xs es j))) (sym (get_or_append_left row entries 0 j within)) (sym (drop_at row entries 8 eight))

pub no_byte_more : (xs entries : List ℕ) (j s : ℕ) → length xs ≡ 0 → bit_xor s (dot_flat xs entries j) ≡ s
unfolding dot_flat
no_byte_more [] entries j s h = xor_zero_r s
no_byte_more (x ∷ xs) entries j s h = absurd (omega arith)
