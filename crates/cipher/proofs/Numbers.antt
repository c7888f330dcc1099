-- Numbers and the bytes that write them, first byte most significant, at every width.
use Rattle.std.proofs.Common.{◌≡◌, ℕ, zero, suc, ◌+◌, ◌*◌, ◌/◌, ◌%◌, ◌^◌, ◌<◌, List, [], ◌∷◌, ◌++◌, length, get_or, take, sym, refl, ap, ◌∙◌, append_assoc, append-nil, subst, ap₂, mul_assoc, add-mul, pow-suc, mul-one, add-one, arith}
use native.Mathlib.Nat.{pow-zero, pow-succ', div-div-eq-div-mul}
use lib.Bits.{bit_xor, xor_lt, xor_shr, xor_mod}
use Rattle.std.proofs.lemmas.Nat.{mod_below, pow-add}
use Rattle.std.proofs.lemmas.Int.Digits.{number_push, number_lt}
use Rattle.std.proofs.lemmas.List.Elements.{All-nil, All-push, All-take, recursion_from_All}
use Rattle.std.proofs.lemmas.List.{length_push, take_all, take_more, length-take-le}
use Rattle.std.specs.Int.Digits.{number_from_digits, number_from_digits_after}
use Rattle.std.specs.List.{All}
use Rattle.cipher.specs.Block.{Byte, Bytes, Block, be_bytes, be_number, ◌⊕◌}
use Rattle.cipher.proofs.Rows.{byte_at, eight_places, xor_over, ⊕-push}

pub be_bytes-bytes : (w n : ℕ) → Bytes w (be_bytes w n)
unfolding be_bytes
be_bytes-bytes zero n = (refl, All-nil Byte)
be_bytes-bytes (suc w) n =
    let h = be_bytes-bytes w (n / 256) in (
      length_push (be_bytes w (n / 256)) (n % 256) ∙ add-one _ ∙ ap suc h.0,
      All-push Byte (be_bytes w (n / 256)) (n % 256) h.1 (mod_below n 256 (omega arith)),
    )

pub be_number-below : (w : ℕ) (xs : List ℕ) → Bytes w xs → be_number xs < 256 ^ w
unfolding be_number
be_number-below w xs h = subst (λ (k : ℕ). number_from_digits 256 xs < 256 ^ k) h.0 (number_lt 256 xs (recursion_from_All Byte xs h.1))

-- a number is read back from its bytes
pub number_of_bytes : (w n : ℕ) → n < 256 ^ w → be_number (be_bytes w n) ≡ n
unfolding be_bytes be_number
number_of_bytes zero n h = omega (arith, pow-zero 256)
number_of_bytes (suc w) n h =
    let q : n / 256 < 256 ^ w = omega (arith, pow-suc 256 w) in
    number_push 256 (be_bytes w (n / 256)) (n % 256) ∙ ap (λ k. k * 256 + n % 256) (number_of_bytes w (n / 256) q) ∙ omega arith

-- bytes are written again from their number
pub bytes_of_number : (w : ℕ) (xs : List ℕ) → Bytes w xs → be_bytes w (be_number xs) ≡ xs
unfolding be_bytes be_number
bytes_of_number zero [] h = refl
bytes_of_number zero (x ∷ xs) h = absurd (omega (arith, h.0))
bytes_of_number (suc w) xs h =
    let front = take w xs in
    let last = get_or xs w 0 in
    let split : xs ≡ front ++ last ∷ [] = sym (take_all (w + 1) xs (omega (arith, h.0))) ∙ take_more xs w 0 (omega (arith, h.0)) in
    let front_bytes : Bytes w front = (length-take-le w xs (omega (arith, h.0)), All-take Byte w xs h.1) in
    let last_byte : last < 256 = byte_at (suc w) xs h w (omega arith) in
    let n : number_from_digits 256 xs ≡ number_from_digits 256 front * 256 + last = ap (number_from_digits 256) split ∙ number_push 256 front last in
    let high : number_from_digits 256 xs / 256 ≡ number_from_digits 256 front = omega arith in
    let low : number_from_digits 256 xs % 256 ≡ last = omega arith in
    ap₂ (λ q r. be_bytes w q ++ r ∷ []) high low ∙ ap (λ zs. zs ++ last ∷ []) (bytes_of_number w front front_bytes) ∙ sym split

-- the bytes of a number whose last w bytes write b, and the others a
pub be_bytes-two_parts : (v w a b : ℕ) → b < 256 ^ w → be_bytes (w + v) (a * 256 ^ w + b) ≡ be_bytes v a ++ be_bytes w b
unfolding be_bytes
be_bytes-two_parts v zero a b l =
    let none : b ≡ 0 = omega (arith, pow-zero 256) in
    let whole : a * 256 ^ 0 + b ≡ a = omega (arith, pow-zero 256) in
    let wide : 0 + v ≡ v = omega arith in
    ap₂ be_bytes wide whole ∙ sym (append-nil (be_bytes v a))
be_bytes-two_parts v (suc w) a b l =
    let p = 256 ^ w in
    let more : a * 256 ^ suc w ≡ a * p * 256 = ap (λ q. a * q) (pow-suc 256 w) ∙ sym (mul_assoc a p 256) in
    let high : (a * 256 ^ suc w + b) / 256 ≡ a * p + b / 256 = omega arith in
    let low : (a * 256 ^ suc w + b) % 256 ≡ b % 256 = omega arith in
    let within : b / 256 < p = omega (arith, pow-suc 256 w) in
    let wide : suc w + v ≡ suc (w + v) = omega arith in
    ap (λ k. be_bytes k (a * 256 ^ suc w + b)) wide
    ∙ ap₂ (λ q r. be_bytes (w + v) q ++ r ∷ []) high low
    ∙ ap (λ bs. bs ++ b % 256 ∷ []) (be_bytes-two_parts v w a (b / 256) within)
    ∙ append_assoc (be_bytes v a) (be_bytes w (b / 256)) (b % 256 ∷ [])

-- ---- ⊕ of numbers is ⊕ of their bytes

pub be_bytes-⊕ : (w x y : ℕ) → be_bytes w (bit_xor x y) ≡ be_bytes w x ⊕ be_bytes w y
unfolding be_bytes
be_bytes-⊕ zero x y = refl
be_bytes-⊕ (suc w) x y =
    ap₂ (λ q r. be_bytes w q ++ r ∷ []) (xor_shr x y 8) (xor_mod x y 8)
    ∙ ap (λ zs. zs ++ bit_xor (x % 256) (y % 256) ∷ []) (be_bytes-⊕ w (x / 256) (y / 256))
    ∙ sym (⊕-push (be_bytes w (x / 256)) (be_bytes w (y / 256)) (x % 256) (y % 256) ((be_bytes-bytes w (x / 256)).0 ∙ sym (be_bytes-bytes w (y / 256)).0))

pub be_number-⊕ : (a b : List ℕ) → Bytes 8 a → Bytes 8 b → be_number (a ⊕ b) ≡ bit_xor (be_number a) (be_number b)
be_number-⊕ a b ha hb =
    ap₂ (λ p q. be_number (p ⊕ q)) (sym (bytes_of_number 8 a ha)) (sym (bytes_of_number 8 b hb))
    ∙ ap be_number (sym (be_bytes-⊕ 8 (be_number a) (be_number b)))
    ∙ number_of_bytes 8 (bit_xor (be_number a) (be_number b)) (xor_lt 64 (be_number a) (be_number b) (be_number-below 8 a ha) (be_number-below 8 b hb))

-- ---- a number is the ⊕ of its first byte, moved up by the others, and of the others

bytes_are_bits : (n : ℕ) → 256 ^ n ≡ 2 ^ (8 * n)
bytes_are_bits zero = refl
bytes_are_bits (suc n) =
    let more : 8 * n + 8 ≡ 8 * suc n = omega arith in
    pow-suc 256 n ∙ ap (λ p. p * 256) (bytes_are_bits n) ∙ sym (pow-add 2 (8 * n) 8) ∙ ap (λ k. 2 ^ k) more

after_front : (n : ℕ) (xs : List ℕ) → number_from_digits_after 256 n xs ≡ n * 256 ^ length xs + number_from_digits 256 xs
after_front n [] = omega (arith, pow-zero 256, mul-one n)
after_front n (x ∷ xs) =
    let p = 256 ^ length xs in
    after_front (n * 256 + x) xs
    ∙ omega (arith, after_front (0 * 256 + x) xs, add-mul (n * 256) x p, mul_assoc n 256 p, ap (λ q. n * q) (pow-succ' 256 (length xs)))

pub number_first : (x : ℕ) (xs : List ℕ) → All Byte xs → be_number (x ∷ xs) ≡ bit_xor (x * 256 ^ length xs) (be_number xs)
unfolding be_number
number_first x xs each =
    let bits = bytes_are_bits (length xs) in
    let below : number_from_digits 256 xs < 2 ^ (8 * length xs) = subst (λ (p : ℕ). number_from_digits 256 xs < p) bits (number_lt 256 xs (recursion_from_All Byte xs each)) in
    after_front (0 * 256 + x) xs
    ∙ ap (λ p. (0 * 256 + x) * p + number_from_digits 256 xs) bits
    ∙ sym (xor_over (8 * length xs) (0 * 256 + x) (number_from_digits 256 xs) below)
    ∙ ap₂ (λ n p. bit_xor (n * p) (number_from_digits 256 xs)) (omega arith) (sym bits)

-- ---- a block and its eight bytes

pub block_bytes : (b : ℕ) → Bytes 8 (be_bytes 8 b)
block_bytes b = be_bytes-bytes 8 b

pub block_of_bytes : (b : ℕ) → Block b → be_number (be_bytes 8 b) ≡ b
block_of_bytes b h = number_of_bytes 8 b h

pub bytes_of_block : (xs : List ℕ) → Bytes 8 xs → be_bytes 8 (be_number xs) ≡ xs
bytes_of_block xs h = bytes_of_number 8 xs h

pub number_block : (xs : List ℕ) → Bytes 8 xs → Block (be_number xs)
number_block xs h = be_number-below 8 xs h

-- two rows of eight that write one number are the same
pub same_number : (xs ys : List ℕ) → Bytes 8 xs → Bytes 8 ys → be_number xs ≡ be_number ys → xs ≡ ys
same_number xs ys hx hy e = sym (bytes_of_block xs hx) ∙ ap (be_bytes 8) e ∙ bytes_of_block ys hy

-- a block and its bytes, place by place
pub block_places : (b : ℕ) → be_bytes 8 b ≡
    b / 72057594037927936 % 256 ∷ b / 281474976710656 % 256 ∷ b / 1099511627776 % 256 ∷ b / 4294967296 % 256
    ∷ b / 16777216 % 256 ∷ b / 65536 % 256 ∷ b / 256 % 256 ∷ b % 256 ∷ []
unfolding be_bytes
block_places b = simp div-div-eq-div-mul

spelt : (a b c d e f g h : ℕ) → number_from_digits 256 (a ∷ b ∷ c ∷ d ∷ e ∷ f ∷ g ∷ h ∷ []) ≡
    a * 72057594037927936 + b * 281474976710656 + c * 1099511627776 + d * 4294967296 + e * 16777216 + f * 65536 + g * 256 + h
spelt a b c d e f g h = omega arith

pub number_places : (xs : List ℕ) → length xs ≡ 8 → be_number xs ≡
    get_or xs 0 0 * 72057594037927936 + get_or xs 1 0 * 281474976710656 + get_or xs 2 0 * 1099511627776 + get_or xs 3 0 * 4294967296
    + get_or xs 4 0 * 16777216 + get_or xs 5 0 * 65536 + get_or xs 6 0 * 256 + get_or xs 7 0
unfolding be_number
number_places xs h =
    ap (number_from_digits 256) (eight_places xs h)
    ∙ spelt (get_or xs 0 0) (get_or xs 1 0) (get_or xs 2 0) (get_or xs 3 0) (get_or xs 4 0) (get_or xs 5 0) (get_or xs 6 0) (get_or xs 7 0)
