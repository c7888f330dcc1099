-- θ undoes itself: it is additive, and undoes itself on the 64 blocks that have one bit set.
use Rattle.std.proofs.Common.{⊎_elim, sym, ap, ap₂, ◌∙◌, pow-suc, arith, pow_pos}
use Rattle.std.specs.Prelude.{◌≡◌, ℕ, zero, suc, ◌+◌, ◌-◌, ◌*◌, ◌^◌, ◌<◌, ◌≤◌, List, bit_xor}
use Rattle.std.proofs.Math.Nat.{pow-zero}
use Rattle.std.specs.Int.Bits.{xor_self}
use Rattle.std.proofs.lemmas.Nat.{pow_below}
use Rattle.std.proofs.lemmas.Bool.{cases_lt}
use Rattle.cipher.specs.Block.{Bytes, Block, be_bytes, be_number}
use Rattle.cipher.proofs.Rows.{xor_over}
use Rattle.cipher.proofs.Numbers.{be_bytes-⊕, be_number-⊕, block_bytes, bytes_of_block, number_block}
use Rattle.khazad.specs.Khazad.{dbl, times, mul, scaled, product, θ}
use Rattle.khazad.specs.Layers.{θ-xor, θ-bytes}
use Rattle.cipher.proofs.Computed.{agree}

-- an additive map of numbers of n bits that keeps every power of two keeps every number
module _ (f : ℕ → ℕ) (n : ℕ) (additive : (x y : ℕ) → x < 2 ^ n → y < 2 ^ n → f (bit_xor x y) ≡ bit_xor (f x) (f y)) (powers : (k : ℕ) → k < n → f (2 ^ k) ≡ 2 ^ k) where
  f_zero : f 0 ≡ 0
  f_zero = additive 0 0 (pow_pos n) (pow_pos n) ∙ xor_self (f 0)

  with_top : (k y : ℕ) → y < 2 ^ k → bit_xor (2 ^ k) y ≡ 2 ^ k + y
  with_top k y h =
      let e : 2 ^ k ≡ 1 * 2 ^ k = omega arith in
      ap (λ p. bit_xor p y) e ∙ xor_over k 1 y h ∙ omega arith

  -- with the bit m set and kept, it is enough to keep what is below
  kept_with_top : (m : ℕ) → m < n → ((y : ℕ) → y < 2 ^ m → f y ≡ y) → (x : ℕ) → x < 2 ^ suc m → 2 ^ m ≤ x → f x ≡ x
  kept_with_top m l below x h g =
      let y = x - 2 ^ m in
      let hy : y < 2 ^ m = omega (arith, pow-suc 2 m) in
      let wide : 2 ^ m < 2 ^ n = pow_below m n l in
      let e : x ≡ bit_xor (2 ^ m) y = (let s : x ≡ 2 ^ m + y = omega arith in s ∙ sym (with_top m y hy)) in
      ap f e ∙ additive (2 ^ m) y wide (omega arith) ∙ ap₂ bit_xor (powers m l) (below y hy) ∙ sym e

  kept_below : (m : ℕ) → m ≤ n → (x : ℕ) → x < 2 ^ m → f x ≡ x
  kept_below zero l x h = let e : x ≡ 0 = omega (arith, pow-zero 2) in ap f e ∙ f_zero ∙ sym e
  kept_below (suc m) l x h =
      let below : (y : ℕ) → y < 2 ^ m → f y ≡ y = kept_below m (omega arith) in
      ⊎_elim (below x) (kept_with_top m l below x h) (cases_lt x (2 ^ m))

  pub keeps_all : (x : ℕ) → x < 2 ^ n → f x ≡ x
  keeps_all x h = kept_below n (omega arith) x h

-- θ twice, on blocks as numbers
abbrev twice : ℕ → ℕ
twice b = be_number (θ (θ (be_bytes 8 b)))

twice_bytes : (b : ℕ) → Bytes 8 (θ (θ (be_bytes 8 b)))
twice_bytes b = θ-bytes (θ (be_bytes 8 b)) (θ-bytes (be_bytes 8 b) (block_bytes b))

twice-xor : (x y : ℕ) → twice (bit_xor x y) ≡ bit_xor (twice x) (twice y)
twice-xor x y =
    let hx = block_bytes x in
    let hy = block_bytes y in
    ap (λ a. be_number (θ (θ a))) (be_bytes-⊕ 8 x y)
    ∙ ap (λ a. be_number (θ a)) (θ-xor (be_bytes 8 x) (be_bytes 8 y) hx hy)
    ∙ ap be_number (θ-xor (θ (be_bytes 8 x)) (θ (be_bytes 8 y)) (θ-bytes (be_bytes 8 x) hx) (θ-bytes (be_bytes 8 y) hy))
    ∙ be_number-⊕ (θ (θ (be_bytes 8 x))) (θ (θ (be_bytes 8 y))) (twice_bytes x) (twice_bytes y)

twice_power : (k : ℕ) → k < 64 → twice (2 ^ k) ≡ 2 ^ k
unfolding θ product scaled mul times dbl be_number be_bytes
twice_power = agree (λ k. twice (2 ^ k)) (λ k. 2 ^ k) 64 tt

twice-number : (b : ℕ) → Block b → twice b ≡ b
twice-number = keeps_all twice 64 (λ x y hx hy. twice-xor x y) twice_power

pub θ-twice : (a : List ℕ) → Bytes 8 a → θ (θ a) ≡ a
θ-twice a h =
    let n = be_number a in
    let e : be_bytes 8 n ≡ a = bytes_of_block a h in
    ap (λ b. θ (θ b)) (sym e) ∙ sym (bytes_of_block (θ (θ (be_bytes 8 n))) (twice_bytes n)) ∙ ap (be_bytes 8) (twice-number n (number_block a h)) ∙ e
