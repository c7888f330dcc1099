-- Khazad, as published by Barreto and Rijmen in its final form, in their order and names. Numbers after 0x are
-- hexadecimal. A block is here a row of eight bytes and a key a row of sixteen; a byte is a number below 256.
--   dbl, mul        twice an element of the field of 256 elements, and a product
--   P, Q, S         the two mini-boxes on nibbles, and the box on bytes that they make up
--   γ, H, θ         the box at every byte; the matrix; the product by it
--   c, K            the round constants; the round keys of a key
--   ρ, α            one round; the cipher under any nine round keys
--   inverse         the nine round keys of the way back
--   encipher, decipher            the two maps, on rows of bytes
--   enciphered, deciphered        the two maps, on blocks as numbers
-- Assumes nothing.
use Rattle.std.specs.Prelude.{ℕ, zero, suc, ◌+◌, ◌-◌, ◌*◌, ◌/◌, ◌%◌, cond, List, [], ◌∷◌, map, take, drop, replicate, ◌==◌, bit_xor, slice_index}
use Rattle.std.specs.List.{range_with_len}
use Rattle.cipher.specs.Block.{◌⊕◌, be_bytes, be_number}

-- ---- the field: bytes as polynomials over two elements, modulo x⁸ + x⁴ + x³ + x² + 1, which is 0x11D

-- twice an element: shifted by one, less 0x11D where the top bit was set
unfoldable pub dbl : ℕ → ℕ
dbl x = bit_xor (x * 2) (x / 128 * 0x11D)

-- the product of x with the number that the n low bits of a write
unfoldable pub times : ℕ → ℕ → ℕ → ℕ
times zero a x = 0
times (suc n) a x = bit_xor (a % 2 * x) (times n (a / 2) (dbl x))

unfoldable pub mul : ℕ → ℕ → ℕ
mul a x = times 8 a x

-- ---- the box S, from the mini-boxes P and Q on nibbles

abbrev pub P : ℕ → ℕ
P n = slice_index (0x3 ∷ 0xF ∷ 0xE ∷ 0x0 ∷ 0x5 ∷ 0x4 ∷ 0xB ∷ 0xC ∷ 0xD ∷ 0xA ∷ 0x9 ∷ 0x6 ∷ 0x7 ∷ 0x8 ∷ 0x2 ∷ 0x1 ∷ []) n

abbrev pub Q : ℕ → ℕ
Q n = slice_index (0x9 ∷ 0xE ∷ 0x5 ∷ 0x6 ∷ 0xA ∷ 0x2 ∷ 0x3 ∷ 0xC ∷ 0xF ∷ 0x0 ∷ 0x4 ∷ 0xD ∷ 0x7 ∷ 0xB ∷ 0x1 ∷ 0x8 ∷ []) n

-- an upper and a lower nibble: one mini-box on each
abbrev pub boxed : (ℕ → ℕ) → (ℕ → ℕ) → ℕ × ℕ → ℕ × ℕ
boxed f g n = (f n.0, g n.1)

-- the two low bits of the upper nibble exchanged with the two high bits of the lower
abbrev pub exchanged : ℕ × ℕ → ℕ × ℕ
exchanged n = (n.0 / 4 * 4 + n.1 / 4, n.0 % 4 * 4 + n.1 % 4)

abbrev pub joined : ℕ × ℕ → ℕ
joined n = n.0 * 16 + n.1

unfoldable pub S : ℕ → ℕ
S x = joined (boxed P Q (exchanged (boxed Q P (exchanged (boxed P Q (x / 16, x % 16))))))

-- ---- the two layers

unfoldable pub γ : List ℕ → List ℕ
γ a = map S a

-- the places of a block's bytes, 0 to 7
abbrev pub places : List ℕ
places = range_with_len 0 8

-- row i of H: at column j the entry i ⊕ j of the first row
abbrev pub H_row : ℕ → List ℕ
H_row i = map (λ j. slice_index (0x01 ∷ 0x03 ∷ 0x04 ∷ 0x05 ∷ 0x06 ∷ 0x08 ∷ 0x0B ∷ 0x07 ∷ []) (bit_xor i j)) places

abbrev pub H : List (List ℕ)
H = map H_row places

-- x times each entry of a row
unfoldable pub scaled : ℕ → List ℕ → List ℕ
scaled x row = map (λ h. mul h x) row

-- a row of bytes times a matrix: the matrix's rows, each times its byte, added up
unfoldable pub product : List ℕ → List (List ℕ) → List ℕ
product [] rows = replicate 8 0
product (x ∷ xs) [] = replicate 8 0
product (x ∷ xs) (row ∷ rows) = scaled x row ⊕ product xs rows

unfoldable pub θ : List ℕ → List ℕ
θ a = product a H

-- ---- the round keys

-- c(r)
unfoldable pub c : ℕ → List ℕ
c r = map (λ i. S (8 * r + i)) places

-- K(r − 2): K(−2) and K(−1) are the halves of the key, and each later one comes from the two before it
unfoldable pub K_from_minus_two : List ℕ → ℕ → List ℕ
K_from_minus_two key zero = take 8 key
K_from_minus_two key (suc zero) = drop 8 key
K_from_minus_two key (suc (suc r)) = c r ⊕ θ (γ (K_from_minus_two key (suc r))) ⊕ K_from_minus_two key r

-- K(r), from 0 to 8
unfoldable pub K : List ℕ → ℕ → List ℕ
K key r = K_from_minus_two key (suc (suc r))

-- ---- the cipher

-- one round under a round key
unfoldable pub ρ : List ℕ → List ℕ → List ℕ
ρ k a = θ (γ a) ⊕ k

-- the rounds from 1 to n, under round keys given by their numbers
unfoldable pub rounds : (ℕ → List ℕ) → ℕ → List ℕ → List ℕ
rounds ks zero a = a
rounds ks (suc n) a = ρ (ks (suc n)) (rounds ks n a)

-- eight rounds, the last with no θ
unfoldable pub α : (ℕ → List ℕ) → List ℕ → List ℕ
α ks a = γ (rounds ks 7 (a ⊕ ks 0)) ⊕ ks 8

-- the keys of the way back: K(8) first and K(0) last, as they are, and between them θ(K(7)) down to θ(K(1))
unfoldable pub inverse : (ℕ → List ℕ) → ℕ → List ℕ
inverse ks r = cond (r == 0) (ks 8) (cond (r == 8) (ks 0) (θ (ks (8 - r))))

unfoldable pub encipher : List ℕ → List ℕ → List ℕ
encipher key a = α (K key) a

unfoldable pub decipher : List ℕ → List ℕ → List ℕ
decipher key a = α (inverse (K key)) a

unfoldable pub enciphered : List ℕ → ℕ → ℕ
enciphered key b = be_number (encipher key (be_bytes 8 b))

unfoldable pub deciphered : List ℕ → ℕ → ℕ
deciphered key b = be_number (decipher key (be_bytes 8 b))
