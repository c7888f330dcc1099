-- The round keys as blocks, for either way.
use Rattle.std.proofs.Common.{◌≡◌, ℕ, suc, ◌+◌, ◌*◌, ◌<◌, List, get_or, take, drop, sym, refl, ap, ◌∙◌, ap₂, arith}
use lib.Bits.{bit_xor, xor_lt}
use Rattle.std.proofs.lemmas.Slice.{between_to_end}
use Rattle.std.specs.List.{between}
use Rattle.cipher.specs.Block.{Block, Key, be_bytes, be_number, ◌⊕◌}
use Rattle.cipher.proofs.Computed.{agree}
use Rattle.cipher.proofs.Numbers.{be_bytes-⊕, block_bytes, block_of_bytes, bytes_of_block}
use Rattle.cipher.proofs.Rows.{take-bytes, drop-bytes}
use Rattle.khazad.specs.Khazad.{S, γ, θ, c, K_from_minus_two, K, inverse}
use Rattle.khazad.specs.Layers.{γ-bytes, θ-bytes}
use Rattle.khazad.specs.Schedule.{c-bytes, K-bytes, K-next, K-counted}
use Rattle.khazad.specs.Undo.{inverse-first, inverse-last}
use Rattle.khazad.specs.Blocks.{on_blocks, rows_of}

-- the bytes of what γ and θ make of a block
pub mixed_bytes : (b : ℕ) → be_bytes 8 (on_blocks (λ a. θ (γ a)) b) ≡ θ (γ (be_bytes 8 b))
mixed_bytes b =
    let a = be_bytes 8 b in
    bytes_of_block (θ (γ a)) (θ-bytes (γ a) (γ-bytes 8 a (block_bytes b)))

pub constant_is_boxed : (r : ℕ) → r < 9 → on_blocks γ (0x0001020304050607 + r * 0x0808080808080808) ≡ be_number (c r)
unfolding γ c S be_bytes be_number
constant_is_boxed = agree (λ r. on_blocks γ (0x0001020304050607 + r * 0x0808080808080808)) (λ r. be_number (c r)) 9 tt

-- a block whose bytes are known
pub block_with_bytes : (b : ℕ) (a : List ℕ) → Block b → be_bytes 8 b ≡ a → b ≡ be_number a
block_with_bytes b a h e = sym (block_of_bytes b h) ∙ ap be_number e

-- ---- the recurrence

-- the halves of a key, as blocks
module _ (key : List ℕ) (h : Key key) where
  pub first_half : (first : ℕ) → first ≡ be_number (between 0 8 key) → be_bytes 8 first ≡ K_from_minus_two key 0
  unfolding K_from_minus_two
  first_half first e = ap (be_bytes 8) e ∙ bytes_of_block (take 8 key) (take-bytes 8 8 key h)

  pub second_half : (second : ℕ) → second ≡ be_number (between 8 16 key) → be_bytes 8 second ≡ K_from_minus_two key 1
  unfolding K_from_minus_two
  second_half second e = ap (be_bytes 8) (e ∙ ap be_number (between_to_end key 8 16 (omega (arith, h.0)))) ∙ bytes_of_block (drop 8 key) (drop-bytes 8 8 key h)

-- what the code adds up is a round key by its rule
pub added_up : (r before last constant mixed : ℕ) → r < 9 → Block before → Block constant → Block mixed → constant ≡ be_number (c r) → mixed ≡ on_blocks (λ a. θ (γ a)) last
    → bit_xor (bit_xor constant mixed) before ≡ be_number (c r ⊕ θ (γ (be_bytes 8 last)) ⊕ be_bytes 8 before)
added_up r before last constant mixed l wb wc wm hc hm =
    block_with_bytes (bit_xor (bit_xor constant mixed) before) (c r ⊕ θ (γ (be_bytes 8 last)) ⊕ be_bytes 8 before)
    (xor_lt 64 (bit_xor constant mixed) before (xor_lt 64 constant mixed wc wm) wb)
    (be_bytes-⊕ 8 (bit_xor constant mixed) before ∙ ap (λ z. z ⊕ be_bytes 8 before)
    (be_bytes-⊕ 8 constant mixed ∙ ap₂ ◌⊕◌ (ap (be_bytes 8) hc ∙ bytes_of_block (c r) (c-bytes r l)) (ap (be_bytes 8) hm ∙ mixed_bytes last)))

-- the next round key, and its bytes, from the two before it
module _ (key : List ℕ) (h : Key key) (r before last next : ℕ) (l : r < 9) (hb : be_bytes 8 before ≡ K_from_minus_two key r) (hl : be_bytes 8 last ≡ K_from_minus_two key (suc r))
    (hn : next ≡ be_number (c r ⊕ θ (γ (be_bytes 8 last)) ⊕ be_bytes 8 before)) where
  pub next_is : next ≡ be_number (K key r)
  next_is = hn ∙ ap be_number (K-next key (be_bytes 8 before) (be_bytes 8 last) (c r ⊕ θ (γ (be_bytes 8 last)) ⊕ be_bytes 8 before) r hb hl refl)

  pub next_counted : be_bytes 8 next ≡ K_from_minus_two key (suc (r + 1))
  next_counted = ap (be_bytes 8) next_is ∙ bytes_of_block (K key r) (K-bytes key h r l) ∙ K-counted key r

-- ---- the way back

module _ (keys : List ℕ) where
  pub first_backward : Block (get_or keys 8 0) → get_or keys 8 0 ≡ be_number (inverse (rows_of keys) 0)
  first_backward h = block_with_bytes (get_or keys 8 0) (inverse (rows_of keys) 0) h (sym (inverse-first (rows_of keys)))

  pub last_backward : Block (get_or keys 0 0) → get_or keys 0 0 ≡ be_number (inverse (rows_of keys) 8)
  last_backward h = block_with_bytes (get_or keys 0 0) (inverse (rows_of keys) 8) h (sym (inverse-last (rows_of keys)))
