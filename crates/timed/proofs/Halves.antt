-- A number of sixteen bytes from its two halves.
use Rattle.std.proofs.Common.{◌≡◌, ℕ, ◌+◌, ◌*◌, ◌%◌, ◌^◌, ◌<◌, ◌++◌, sym, ap, ap₂, ◌∙◌, arith, lit<}
use lib.Bits.{bit_or, or_block, or_zero_l, or_zero_r}
use native.Mathlib.Nat.{div-div-eq-div-mul}
use Rattle.std.specs.Int.{to_be_bytes, w128}
use Rattle.cipher.specs.Block.{be_bytes}
use Rattle.cipher.proofs.Numbers.{be_bytes-two_parts}

sixteen_places : (n : ℕ) → to_be_bytes w128 n ≡ be_bytes 16 n
unfolding be_bytes
sixteen_places n = sym (simp div-div-eq-div-mul)

pub halves : (first second : ℕ) → first < 2 ^ 64 → second < 2 ^ 64 → to_be_bytes w128 (bit_or (first * 2 ^ 64 % 2 ^ 128) second) ≡ be_bytes 8 first ++ be_bytes 8 second
halves first second h l =
    let moved : first * 2 ^ 64 % 2 ^ 128 ≡ first * 2 ^ 64 + 0 = omega arith in
    let low : second ≡ 0 * 2 ^ 64 + second = omega arith in
    let joined : bit_or (first * 2 ^ 64 % 2 ^ 128) second ≡ first * 2 ^ 64 + second =
    ap₂ bit_or moved low ∙ or_block 64 first 0 0 second (lit< tt) l ∙ ap₂ (λ x y. x * 2 ^ 64 + y) (or_zero_r first) (or_zero_l second) in
    ap (to_be_bytes w128) joined ∙ sixteen_places (first * 2 ^ 64 + second) ∙ be_bytes-two_parts 8 8 first second l
