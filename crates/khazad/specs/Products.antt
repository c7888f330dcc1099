-- Doubling and products of the field: they give bytes, and are additive in the factor that is a byte.
use Rattle.std.specs.Prelude.{◌≡◌, ℕ, zero, suc, ◌+◌, ◌-◌, ◌*◌, ◌/◌, ◌%◌, ◌<◌, ◌≤◌, ◌≢◌, bit_and, bit_xor, refl}
use Rattle.std.proofs.Common.{sym, ap, ap₂, ◌∙◌, subst, add-zero, zero-mul, one-mul, mod-lt, zero-lt-suc, not-suc-le-zero, le_of_suc-le-suc, arith, lit<, pow_pos}
use Rattle.std.proofs.lemmas.Nat.{and_mask, xor_block, xor_lt, xor_shr}
use Rattle.std.specs.Int.Bits.{xor_assoc, xor_zero_r}
use Rattle.cipher.proofs.Rows.{xor_middle}
use Rattle.khazad.specs.Khazad.{dbl, times, mul}
use Rattle.cipher.proofs.Computed.{agree, stay_below}

-- ---- a bit times a number

bit_byte : (b x : ℕ) → b < 2 → x < 256 → b * x < 256
bit_byte zero x h hx = subst (λ (z : ℕ). z < 256) (sym (zero-mul x)) (lit< tt)
bit_byte (suc zero) x h hx = subst (λ (z : ℕ). z < 256) (sym (one-mul x)) hx
bit_byte (suc (suc b)) x h hx = absurd (not-suc-le-zero (le_of_suc-le-suc (le_of_suc-le-suc h)))

bit_times_xor : (b x y : ℕ) → b < 2 → b * bit_xor x y ≡ bit_xor (b * x) (b * y)
bit_times_xor zero x y h = zero-mul (bit_xor x y) ∙ sym (ap₂ bit_xor (zero-mul x) (zero-mul y))
bit_times_xor (suc zero) x y h = one-mul (bit_xor x y) ∙ sym (ap₂ bit_xor (one-mul x) (one-mul y))
bit_times_xor (suc (suc b)) x y h = absurd (not-suc-le-zero (le_of_suc-le-suc (le_of_suc-le-suc h)))

-- ---- doubling

twice-xor : (x y : ℕ) → bit_xor x y * 2 ≡ bit_xor (x * 2) (y * 2)
twice-xor x y =
    sym (add-zero (bit_xor x y * 2)) ∙ sym (xor_block 1 x y 0 0 (pow_pos 1) (pow_pos 1))
    ∙ ap₂ bit_xor (add-zero (x * 2)) (add-zero (y * 2))

-- what is taken away where the top bit was set
reduced_xor : (a b : ℕ) → a < 2 → b < 2 → bit_xor a b * 0x11D ≡ bit_xor (a * 0x11D) (b * 0x11D)
reduced_xor zero b ha hb = refl
reduced_xor (suc zero) zero ha hb = refl
reduced_xor (suc zero) (suc zero) ha hb = refl
reduced_xor (suc zero) (suc (suc b)) ha hb = absurd (not-suc-le-zero (le_of_suc-le-suc (le_of_suc-le-suc hb)))
reduced_xor (suc (suc a)) b ha hb = absurd (not-suc-le-zero (le_of_suc-le-suc (le_of_suc-le-suc ha)))

dbl-xor : (x y : ℕ) → x < 256 → y < 256 → dbl (bit_xor x y) ≡ bit_xor (dbl x) (dbl y)
unfolding dbl
dbl-xor x y hx hy =
    ap₂ bit_xor (twice-xor x y)
    (ap (λ (z : ℕ). z * 0x11D) (xor_shr x y 7) ∙ reduced_xor (x / 128) (y / 128) (omega arith) (omega arith))
    ∙ xor_middle (x * 2) (y * 2) (x / 128 * 0x11D) (y / 128 * 0x11D)

pub dbl-byte : (x : ℕ) → x < 256 → dbl x < 256
unfolding dbl
dbl-byte = stay_below dbl 256 256 tt

-- ---- products

times-xor : (n a x y : ℕ) → x < 256 → y < 256 → times n a (bit_xor x y) ≡ bit_xor (times n a x) (times n a y)
unfolding times
times-xor zero a x y hx hy = refl
times-xor (suc n) a x y hx hy =
    ap₂ bit_xor (bit_times_xor (a % 2) x y (mod-lt a (zero-lt-suc 1)))
    (ap (times n (a / 2)) (dbl-xor x y hx hy) ∙ times-xor n (a / 2) (dbl x) (dbl y) (dbl-byte x hx) (dbl-byte y hy))
    ∙ xor_middle (a % 2 * x) (a % 2 * y) (times n (a / 2) (dbl x)) (times n (a / 2) (dbl y))

times-byte : (n a x : ℕ) → x < 256 → times n a x < 256
unfolding times
times-byte zero a x h = lit< tt
times-byte (suc n) a x h =
    xor_lt 8 (a % 2 * x) (times n (a / 2) (dbl x)) (bit_byte (a % 2) x (mod-lt a (zero-lt-suc 1)) h) (times-byte n (a / 2) (dbl x) (dbl-byte x h))

pub mul-xor : (a x y : ℕ) → x < 256 → y < 256 → mul a (bit_xor x y) ≡ bit_xor (mul a x) (mul a y)
unfolding mul
mul-xor a x y hx hy = times-xor 8 a x y hx hy

pub mul-byte : (a x : ℕ) → x < 256 → mul a x < 256
unfolding mul
mul-byte a x h = times-byte 8 a x h

-- ---- as the code has them

-- the shift loses the bit for x⁸, and adds what it stands for
pub dbl-is : (x : ℕ) → x < 256 → bit_xor (x * 2 % 256) (x / 128 * 0x1D) ≡ dbl x
unfolding dbl
dbl-is = agree (λ x. bit_xor (x * 2 % 256) (x / 128 * 0x1D)) dbl 256 tt

-- one bit of the first factor: `t` is the sum with that bit's share
pub one_bit_more : (i a x s t : ℕ) → i < 8 → t ≡ bit_xor s (a % 2 * x) → bit_xor t (times (8 - (i + 1)) (a / 2) (dbl x)) ≡ bit_xor s (times (8 - i) a x)
unfolding times
one_bit_more i a x s t h e =
    let n : 8 - i ≡ suc (8 - (i + 1)) = omega arith in
    ap (λ z. bit_xor z (times (8 - (i + 1)) (a / 2) (dbl x))) e
    ∙ xor_assoc s (a % 2 * x) (times (8 - (i + 1)) (a / 2) (dbl x))
    ∙ ap (λ m. bit_xor s (times m a x)) (sym n)

pub no_bit_more : (i a x s : ℕ) → 8 ≤ i → bit_xor s (times (8 - i) a x) ≡ s
unfolding times
no_bit_more i a x s h = let n : 8 - i ≡ 0 = omega arith in ap (λ m. bit_xor s (times m a x)) n ∙ xor_zero_r s

-- the share of a bit that stands, and of one that does not
pub share_standing : (a x s : ℕ) → bit_and a 1 ≡ 1 → bit_xor s x ≡ bit_xor s (a % 2 * x)
share_standing a x s h = ap (bit_xor s) (sym (ap (λ b. b * x) (sym (and_mask a 1) ∙ h) ∙ one-mul x))

pub share_clear : (a x s : ℕ) → (bit_and a 1 ≢ 1) → s ≡ bit_xor s (a % 2 * x)
share_clear a x s h =
    let clear : a % 2 ≡ 0 = omega (arith, and_mask a 1, h) in
    sym (xor_zero_r s) ∙ ap (bit_xor s) (sym (ap (λ b. b * x) clear ∙ zero-mul x))
