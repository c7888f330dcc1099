-- The box S undoes itself and gives bytes, each by one computed test over all bytes.
use Rattle.std.specs.Prelude.{◌≡◌, ℕ, ◌+◌, ◌*◌, ◌/◌, ◌%◌, ◌<◌, List, length, slice_index, bit_and, bit_or}
use Rattle.std.specs.List.{All}
use Rattle.std.proofs.Common.{sym, ap, ap₂, ◌∙◌, subst, T, ltb, arith}
use Rattle.std.proofs.lemmas.List.Elements.{All-from_get_or}
use Rattle.std.proofs.lemmas.Nat.{and_mask}
use Rattle.khazad.specs.Khazad.{P, Q, boxed, exchanged, joined, S}
use Rattle.cipher.proofs.Computed.{upto, agree, agree_pairs, stay_below}

pub S-twice : (x : ℕ) → x < 256 → S (S x) ≡ x
unfolding S
S-twice = agree (λ x. S (S x)) (λ x. x) 256 tt

pub S-byte : (x : ℕ) → x < 256 → S x < 256
unfolding S
S-byte = stay_below S 256 256 tt

-- ---- two nibbles as the code masks, shifts and joins them

pub upper_is : (u l : ℕ) → u < 16 → l < 16 → bit_or (bit_and u 12) (l / 4) ≡ u / 4 * 4 + l / 4
upper_is = agree_pairs 16 16 (λ u l. bit_or (bit_and u 12) (l / 4)) (λ u l. u / 4 * 4 + l / 4) tt

pub lower_is : (u l : ℕ) → u < 16 → l < 16 → bit_or (bit_and u 3 * 4 % 256) (bit_and l 3) ≡ u % 4 * 4 + l % 4
lower_is = agree_pairs 16 16 (λ u l. bit_or (bit_and u 3 * 4 % 256) (bit_and l 3)) (λ u l. u % 4 * 4 + l % 4) tt

pub joined_is : (u l : ℕ) → u < 16 → l < 16 → bit_or (u * 16 % 256) l ≡ u * 16 + l
joined_is = agree_pairs 16 16 (λ u l. bit_or (u * 16 % 256) l) (λ u l. u * 16 + l) tt

-- S, layer by layer
pub S-by_layers : (x a b d e f g : ℕ) (n m : ℕ × ℕ) → a ≡ P (x / 16) → b ≡ Q (bit_and x 15) → n ≡ exchanged (a, b)
    → d ≡ Q n.0 → e ≡ P n.1 → m ≡ exchanged (d, e) → f ≡ P m.0 → g ≡ Q m.1 → f < 16 → g < 16 → bit_or (f * 16 % 256) g ≡ S x
unfolding S
S-by_layers x a b d e f g n m ha hb hn hd he hm hf hg bf bg =
    let first : n ≡ exchanged (boxed P Q (x / 16, x % 16)) = hn ∙ ap₂ (λ p q. exchanged (p, q)) ha (hb ∙ ap Q (and_mask x 4)) in
    let second : m ≡ exchanged (boxed Q P (exchanged (boxed P Q (x / 16, x % 16)))) = hm ∙ ap₂ (λ p q. exchanged (p, q)) hd he ∙ ap (λ k. exchanged (boxed Q P k)) first in
    joined_is f g bf bg ∙ ap₂ (λ p q. joined (p, q)) hf hg ∙ ap (λ k. joined (boxed P Q k)) second

-- ---- two nibbles at a time

P-nibble : (n : ℕ) → n < 16 → P n < 16
P-nibble = stay_below P 16 16 tt

Q-nibble : (n : ℕ) → n < 16 → Q n < 16
Q-nibble = stay_below Q 16 16 tt

-- sixteen entries as they stand, each a nibble, by one computed test
pub all_nibbles : (xs : List ℕ) → length xs ≡ 16 → T (upto (λ n. ltb (slice_index xs n) 16) 0 16) → All (λ n. n < 16) xs
all_nibbles xs e t = All-from_get_or (λ n. n < 16) xs 0 (λ k l. stay_below (slice_index xs) 16 16 t k (omega (arith, e)))

-- two nibbles stay nibbles in two boxes of which each keeps them, and so in the mini-boxes, either way round
boxed-nibbles : (f g : ℕ → ℕ) → ((n : ℕ) → n < 16 → f n < 16) → ((n : ℕ) → n < 16 → g n < 16)
    → (n r : ℕ × ℕ) → n.0 < 16 → n.1 < 16 → r ≡ boxed f g n → (r.0 < 16) × (r.1 < 16)
boxed-nibbles f g hf hg n r h l e = (subst (λ m. m < 16) (sym (ap (λ p. p.0) e)) (hf n.0 h), subst (λ m. m < 16) (sym (ap (λ p. p.1) e)) (hg n.1 l))

pub PQ-nibbles : (n r : ℕ × ℕ) → n.0 < 16 → n.1 < 16 → r ≡ boxed P Q n → (r.0 < 16) × (r.1 < 16)
PQ-nibbles = boxed-nibbles P Q P-nibble Q-nibble

pub QP-nibbles : (n r : ℕ × ℕ) → n.0 < 16 → n.1 < 16 → r ≡ boxed Q P n → (r.0 < 16) × (r.1 < 16)
QP-nibbles = boxed-nibbles Q P Q-nibble P-nibble

pub S-by_pairs : (x : ℕ) (a n b m d : ℕ × ℕ) → m.0 < 16 → m.1 < 16 → a ≡ boxed P Q (x / 16, bit_and x 15) → n ≡ exchanged a → b ≡ boxed Q P n → m ≡ exchanged b → d ≡ boxed P Q m
    → bit_or (d.0 * 16 % 256) d.1 ≡ S x
S-by_pairs x a n b m d h l ha hn hb hm hd =
    let bound = PQ-nibbles m d h l hd in
    S-by_layers x a.0 a.1 b.0 b.1 d.0 d.1 n m (ap (λ p. p.0) ha) (ap (λ p. p.1) ha) hn (ap (λ p. p.0) hb) (ap (λ p. p.1) hb) hm (ap (λ p. p.0) hd) (ap (λ p. p.1) hd) bound.0 bound.1
