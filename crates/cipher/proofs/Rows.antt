-- Rows of bytes, and ⊕ on them.
use Rattle.std.proofs.Common.{◌≡◌, ℕ, ◌+◌, ◌*◌, ◌^◌, ◌<◌, List, [], ◌∷◌, ◌++◌, length, get_or, take, drop, replicate, sym, refl, ap, ◌∙◌, ap₂, add-zero, arith, lit<, pow_pos, w8, Fits, rules}
use lib.Bits.{bit_xor, xor_assoc, xor_block, xor_comm, xor_self, xor_zero_l, xor_zero_r, xor_lt}
use mir.Val.{Val}
use mir.Facts.{Fits-lt-pow}
use denote.Laws.{Is}
use denote.Plain.{UInt}
use denote.Array.{Array}
use Rattle.std.proofs.lemmas.List.FromFn.{fill_by_all}
use Rattle.std.proofs.lemmas.List.Elements.{All-nil, All-cons, All-head, All-tail, All-replicate, All-from_get_or, All-get_or, All-take, All-drop}
use Rattle.std.proofs.lemmas.List.{length-take-le, length-drop}
use Rattle.std.proofs.lemmas.Simd.{length-zip2}
use Rattle.std.specs.List.{All}
use Rattle.cipher.specs.Block.{Byte, Bytes, ◌⊕◌}

-- what is known of an array of bytes
pub of_array : {n : ℕ} (xs : List ℕ) (vs : List Val) → Is (Array (UInt w8) n) xs vs → Bytes n xs
of_array xs vs g = (g.1.0.1, All-from_get_or Byte xs 0 (λ i h. let f : Fits w8 (get_or xs i 0) = search rules in Fits-lt-pow f))

-- what is known of a slice of bytes
pub of_slice : (xs : List ℕ) → ((i : ℕ) → Fits w8 (get_or xs i 0)) → All Byte xs
of_slice xs fits = All-from_get_or Byte xs 0 (λ i h. Fits-lt-pow (fits i))

-- a row of eight is its eight places
pub eight_places : (xs : List ℕ) → length xs ≡ 8 →
    xs ≡ get_or xs 0 0 ∷ get_or xs 1 0 ∷ get_or xs 2 0 ∷ get_or xs 3 0 ∷ get_or xs 4 0 ∷ get_or xs 5 0 ∷ get_or xs 6 0 ∷ get_or xs 7 0 ∷ []
eight_places xs h = fill_by_all (λ i. get_or xs i 0) xs 8 0 h (λ k l. refl)

-- a byte at each place
pub byte_at : (n : ℕ) (xs : List ℕ) → Bytes n xs → (i : ℕ) → i < n → get_or xs i 0 < 256
byte_at n xs h i l = All-get_or Byte xs i 0 (omega (arith, h.0)) h.1

pub bytes_by_place : (n : ℕ) (xs : List ℕ) → length xs ≡ n → ((i : ℕ) → i < n → get_or xs i 0 < 256) → Bytes n xs
bytes_by_place n xs h each = (h, All-from_get_or Byte xs 0 (λ i l. each i (omega arith)))

pub zeros : (n : ℕ) → All Byte (replicate n 0)
zeros n = All-replicate Byte n 0 (lit< tt)

-- the first m bytes of a row, and the rest
pub take-bytes : (m n : ℕ) (xs : List ℕ) → Bytes (m + n) xs → Bytes m (take m xs)
take-bytes m n xs h = (length-take-le m xs (omega (arith, h.0)), All-take Byte m xs h.1)

pub drop-bytes : (m n : ℕ) (xs : List ℕ) → Bytes (m + n) xs → Bytes n (drop m xs)
drop-bytes m n xs h = (omega (arith, length-drop m xs, h.0), All-drop Byte m xs h.1)

-- ---- ⊕ of numbers

pub xor_twice : (x k : ℕ) → bit_xor (bit_xor x k) k ≡ x
xor_twice x k = xor_assoc x k k ∙ ap (bit_xor x) (xor_self k) ∙ xor_zero_r x

xor_again : (x b : ℕ) → bit_xor x (bit_xor x b) ≡ b
xor_again x b = sym (xor_assoc x x b) ∙ ap (λ (z : ℕ). bit_xor z b) (xor_self x) ∙ xor_zero_l b

-- ⊕ with one number keeps others apart
pub xor_cancel : (x b c : ℕ) → bit_xor x b ≡ bit_xor x c → b ≡ c
xor_cancel x b c e = sym (xor_again x b) ∙ ap (bit_xor x) e ∙ xor_again x c

pub xor_cancel_right : (x y b : ℕ) → bit_xor x b ≡ bit_xor y b → x ≡ y
xor_cancel_right x y b e = xor_cancel b x y (xor_comm b x ∙ e ∙ xor_comm y b)

pub xor_middle : (a b c d : ℕ) → bit_xor (bit_xor a b) (bit_xor c d) ≡ bit_xor (bit_xor a c) (bit_xor b d)
xor_middle a b c d =
    xor_assoc a b (bit_xor c d)
    ∙ ap (bit_xor a) (sym (xor_assoc b c d) ∙ ap (λ (z : ℕ). bit_xor z d) (xor_comm b c) ∙ xor_assoc c b d)
    ∙ sym (xor_assoc a c (bit_xor b d))

-- a number above k bits and one of k bits
pub xor_over : (k p y : ℕ) → y < 2 ^ k → bit_xor (p * 2 ^ k) y ≡ p * 2 ^ k + y
xor_over k p y h =
    let low : 0 * 2 ^ k + y ≡ y = omega arith in
    ap₂ bit_xor (sym (add-zero (p * 2 ^ k))) (sym low) ∙ xor_block k p 0 0 y (pow_pos k) h ∙ ap (λ q. q * 2 ^ k + y) (xor_zero_r p)

-- ---- ⊕ of rows

each_byte : (a b : List ℕ) → All Byte a → All Byte b → All Byte (a ⊕ b)
each_byte [] b ha hb = All-nil Byte
each_byte (x ∷ a) [] ha hb = All-nil Byte
each_byte (x ∷ a) (y ∷ b) ha hb =
    All-cons Byte (bit_xor x y) (a ⊕ b) (xor_lt 8 x y (All-head Byte x a ha) (All-head Byte y b hb)) (each_byte a b (All-tail Byte x a ha) (All-tail Byte y b hb))

pub ⊕-bytes : (n : ℕ) (a b : List ℕ) → Bytes n a → Bytes n b → Bytes n (a ⊕ b)
⊕-bytes n a b ha hb = (length-zip2 bit_xor a b (ha.0 ∙ sym hb.0) ∙ ha.0, each_byte a b ha.1 hb.1)

pub ⊕-twice : (a k : List ℕ) → length a ≡ length k → (a ⊕ k) ⊕ k ≡ a
⊕-twice [] k h = refl
⊕-twice (x ∷ a) [] h = absurd (omega arith)
⊕-twice (x ∷ a) (y ∷ k) h = ap₂ {C = List ℕ} (λ z zs. z ∷ zs) (xor_twice x y) (⊕-twice a k (omega arith))

pub ⊕-middle : (a b c d : List ℕ) → (a ⊕ b) ⊕ (c ⊕ d) ≡ (a ⊕ c) ⊕ (b ⊕ d)
⊕-middle [] b [] d = refl
⊕-middle [] b (z ∷ c) d = refl
⊕-middle (x ∷ a) [] [] d = refl
⊕-middle (x ∷ a) [] (z ∷ c) [] = refl
⊕-middle (x ∷ a) [] (z ∷ c) (w ∷ d) = refl
⊕-middle (x ∷ a) (y ∷ b) [] d = refl
⊕-middle (x ∷ a) (y ∷ b) (z ∷ c) [] = refl
⊕-middle (x ∷ a) (y ∷ b) (z ∷ c) (w ∷ d) = ap₂ {C = List ℕ} (λ z zs. z ∷ zs) (xor_middle x y z w) (⊕-middle a b c d)

-- one more byte at the end of both rows
pub ⊕-push : (a b : List ℕ) (x y : ℕ) → length a ≡ length b → (a ++ x ∷ []) ⊕ (b ++ y ∷ []) ≡ (a ⊕ b) ++ bit_xor x y ∷ []
⊕-push [] [] x y h = refl
⊕-push [] (q ∷ b) x y h = absurd (omega arith)
⊕-push (p ∷ a) [] x y h = absurd (omega arith)
⊕-push (p ∷ a) (q ∷ b) x y h = ap {B = List ℕ} (λ zs. bit_xor p q ∷ zs) (⊕-push a b x y (omega arith))
