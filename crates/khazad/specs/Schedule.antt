-- The round keys of a key: each is a block, and how each comes from those before it.
use Rattle.std.specs.Prelude.{◌≡◌, ℕ, zero, suc, ◌+◌, ◌*◌, ◌<◌, List, ◌++◌, length, slice_index_or}
use Rattle.std.proofs.Common.{sym, ap, ap₂, ◌∙◌, add-one, arith}
use Rattle.std.proofs.lemmas.List.FromFn.{length-map-range_with_len, get_or-range_with_len}
use Rattle.std.proofs.lemmas.List.Elements.{All-map}
use Rattle.std.proofs.lemmas.List.{drop_at, take_at}
use Rattle.cipher.specs.Block.{Byte, Bytes, Key, ◌⊕◌}
use Rattle.cipher.proofs.Rows.{⊕-bytes, take-bytes, drop-bytes}
use Rattle.khazad.specs.Khazad.{S, places, γ, θ, c, K_from_minus_two, K}
use Rattle.khazad.specs.Boxes.{S-byte}
use Rattle.khazad.specs.Layers.{γ-bytes, θ-bytes}

pub c-bytes : (r : ℕ) → r < 9 → Bytes 8 (c r)
unfolding c
c-bytes r h = (
  length-map-range_with_len (λ i. S (8 * r + i)) 0 8,
  All-map Byte (λ i. S (8 * r + i)) places (λ k d l. S-byte (8 * r + slice_index_or places k d) (omega (arith, get_or-range_with_len 0 8 k d l))),
)

from_minus_two_bytes : (key : List ℕ) → Key key → (n : ℕ) → n < 11 → Bytes 8 (K_from_minus_two key n)
unfolding K_from_minus_two
from_minus_two_bytes key h zero l = take-bytes 8 8 key h
from_minus_two_bytes key h (suc zero) l = drop-bytes 8 8 key h
from_minus_two_bytes key h (suc (suc r)) l =
    let before = K_from_minus_two key (suc r) in
    ⊕-bytes 8 (c r ⊕ θ (γ before)) (K_from_minus_two key r)
    (⊕-bytes 8 (c r) (θ (γ before)) (c-bytes r (omega arith)) (θ-bytes (γ before) (γ-bytes 8 before (from_minus_two_bytes key h (suc r) (omega arith)))))
    (from_minus_two_bytes key h r (omega arith))

pub K-bytes : (key : List ℕ) → Key key → (r : ℕ) → r < 9 → Bytes 8 (K key r)
unfolding K
K-bytes key h r l = from_minus_two_bytes key h (suc (suc r)) (omega arith)

-- the next round key from the two before it
pub K-next : (key before last next : List ℕ) (r : ℕ) → before ≡ K_from_minus_two key r → last ≡ K_from_minus_two key (suc r)
    → next ≡ c r ⊕ θ (γ last) ⊕ before → next ≡ K key r
unfolding K K_from_minus_two
K-next key before last next r hb hl hn = hn ∙ ap₂ (λ l b. c r ⊕ θ (γ l) ⊕ b) hl hb

-- K(r), counted from K(−2)
pub K-counted : (key : List ℕ) (r : ℕ) → K key r ≡ K_from_minus_two key (suc (r + 1))
unfolding K
K-counted key r = ap (λ n. K_from_minus_two key (suc n)) (sym (add-one r))

pub K-minus_two : (first second : List ℕ) → length first ≡ 8 → first ≡ K_from_minus_two (first ++ second) 0
unfolding K_from_minus_two
K-minus_two first second h = sym (take_at first second 8 h)

pub K-minus_one : (first second : List ℕ) → length first ≡ 8 → second ≡ K_from_minus_two (first ++ second) 1
unfolding K_from_minus_two
K-minus_one first second h = sym (drop_at first second 8 h)
