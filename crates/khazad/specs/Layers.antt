-- The layers γ and θ give blocks; γ undoes itself; θ is additive.
use Rattle.std.specs.Prelude.{◌≡◌, ℕ, ◌<◌, List, [], ◌∷◌, length, replicate, bit_xor, slice_index, slice_index_or, refl}
use Rattle.std.proofs.Common.{sym, ap₂, ◌∙◌, arith}
use Rattle.std.proofs.lemmas.List.{get_or-map, length-map}
use Rattle.std.specs.List.{All}
use Rattle.std.proofs.lemmas.List.Elements.{All-head, All-tail, All-map}
use Rattle.cipher.specs.Block.{Byte, Bytes, ◌⊕◌}
use Rattle.cipher.proofs.Rows.{⊕-bytes, ⊕-middle, zeros as all_zeros}
use Rattle.khazad.specs.Khazad.{S, γ, places, H_row, H, mul, scaled, product, θ}
use Rattle.khazad.specs.Boxes.{S-twice, S-byte}
use Rattle.khazad.specs.Products.{mul-xor, mul-byte}

-- ---- γ

each_boxed : (a : List ℕ) → All Byte a → All Byte (γ a)
unfolding γ
each_boxed a h = All-map Byte S a (λ k d l. S-byte (slice_index_or a k d) (h k d l))

pub γ-bytes : (n : ℕ) (a : List ℕ) → Bytes n a → Bytes n (γ a)
unfolding γ
γ-bytes n a h = (length-map a S ∙ h.0, each_boxed a h.1)

pub γ-at : (n : ℕ) (a : List ℕ) → length a ≡ n → (k : ℕ) → k < n → slice_index (γ a) k ≡ S (slice_index a k)
unfolding γ
γ-at n a h k l = get_or-map S a k 0 0 (omega arith)

pub γ-twice : (a : List ℕ) → All Byte a → γ (γ a) ≡ a
unfolding γ
γ-twice [] h = refl
γ-twice (x ∷ a) h = ap₂ {C = List ℕ} (λ z zs. z ∷ zs) (S-twice x (All-head Byte x a h)) (γ-twice a (All-tail Byte x a h))

-- ---- a byte times a row

each_scaled : (x : ℕ) → x < 256 → (row : List ℕ) → All Byte (scaled x row)
unfolding scaled
each_scaled x h row = All-map Byte (λ e. mul e x) row (λ k d l. mul-byte (slice_index_or row k d) x h)

pub scaled-bytes : (x : ℕ) → x < 256 → (row : List ℕ) → length row ≡ 8 → Bytes 8 (scaled x row)
unfolding scaled
scaled-bytes x h row e = (length-map row (λ h. mul h x) ∙ e, each_scaled x h row)

scaled-xor : (x y : ℕ) → x < 256 → y < 256 → (row : List ℕ) → scaled (bit_xor x y) row ≡ scaled x row ⊕ scaled y row
unfolding scaled
scaled-xor x y hx hy [] = refl
scaled-xor x y hx hy (e ∷ row) = ap₂ {C = List ℕ} (λ z zs. z ∷ zs) (mul-xor e x y hx hy) (scaled-xor x y hx hy row)

-- ---- θ

-- each row has eight entries
abbrev pub Wide : List (List ℕ) → Type 0
Wide rows = All (λ row. length row ≡ 8) rows

pub H-wide : Wide H
H-wide = All-map (λ row. length row ≡ 8) H_row places (λ k d l. refl)

pub zeros : Bytes 8 (replicate 8 0)
zeros = (refl, all_zeros 8)

pub product-bytes : (a : List ℕ) → All Byte a → (rows : List (List ℕ)) → Wide rows → Bytes 8 (product a rows)
unfolding product
product-bytes [] h rows w = zeros
product-bytes (x ∷ a) h [] w = zeros
product-bytes (x ∷ a) h (row ∷ rows) w =
    ⊕-bytes 8 (scaled x row) (product a rows) (scaled-bytes x (All-head Byte x a h) row (All-head (λ row. length row ≡ 8) row rows w)) (product-bytes a (All-tail Byte x a h) rows (All-tail (λ row. length row ≡ 8) row rows w))

product-xor : (a b : List ℕ) → length a ≡ length b → All Byte a → All Byte b → (rows : List (List ℕ)) → product (a ⊕ b) rows ≡ product a rows ⊕ product b rows
unfolding product
product-xor [] [] e ha hb rows = refl
product-xor [] (y ∷ b) e ha hb rows = absurd (omega arith)
product-xor (x ∷ a) [] e ha hb rows = absurd (omega arith)
product-xor (x ∷ a) (y ∷ b) e ha hb [] = refl
product-xor (x ∷ a) (y ∷ b) e ha hb (row ∷ rows) =
    ap₂ ◌⊕◌ (scaled-xor x y (All-head Byte x a ha) (All-head Byte y b hb) row) (product-xor a b (omega arith) (All-tail Byte x a ha) (All-tail Byte y b hb) rows)
    ∙ ⊕-middle (scaled x row) (scaled y row) (product a rows) (product b rows)

pub θ-bytes : (a : List ℕ) → Bytes 8 a → Bytes 8 (θ a)
unfolding θ
θ-bytes a h = product-bytes a h.1 H H-wide

pub θ-xor : (a b : List ℕ) → Bytes 8 a → Bytes 8 b → θ (a ⊕ b) ≡ θ a ⊕ θ b
unfolding θ
θ-xor a b ha hb = product-xor a b (ha.0 ∙ sym hb.0) ha.1 hb.1 H
