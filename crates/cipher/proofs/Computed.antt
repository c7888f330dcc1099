-- A test that passes at each number below a bound, computed, and what that says.
use Rattle.std.proofs.Common.{◌≡◌, ℕ, zero, suc, ◌+◌, ◌*◌, ◌/◌, ◌%◌, ◌<◌, Bool, true, false, ◌&&◌, T, eqb, ltb, sym, ◌∙◌, subst, le_of_suc-le-suc, not-suc-le-zero, add-zero, add-suc, suc-add, zero-add, eqb→eq, ltb→lt}
use Rattle.std.proofs.lemmas.Nat.{div-mul-add, mod-mul-add, mul-add-lt}

left : (a b : Bool) → T (a && b) → T a
left true b t = tt
left false b t = t

right : (a b : Bool) → T (a && b) → T b
right true b t = t
right false b t = absurd t

-- f passes at i, i + 1, .. i + n - 1
abbrev pub upto : (ℕ → Bool) → ℕ → ℕ → Bool
upto f i zero = true
upto f i (suc n) = f i && upto f (suc i) n

upto_from : (f : ℕ → Bool) (n i : ℕ) → T (upto f i n) → (k : ℕ) → k < n → T (f (i + k))
upto_from f zero i t k h = absurd (not-suc-le-zero h)
upto_from f (suc n) i t zero h = subst (λ (m : ℕ). T (f m)) (sym (add-zero i)) (left (f i) (upto f (suc i) n) t)
upto_from f (suc n) i t (suc k) h =
    subst (λ (m : ℕ). T (f m)) (suc-add i k ∙ sym (add-suc i k))
    (upto_from f n (suc i) (right (f i) (upto f (suc i) n) t) k (le_of_suc-le-suc h))

pub upto_at : (f : ℕ → Bool) (n : ℕ) → T (upto f 0 n) → (k : ℕ) → k < n → T (f k)
upto_at f n t k h = subst (λ (m : ℕ). T (f m)) (zero-add k) (upto_from f n 0 t k h)

-- two functions that agree, and one that stays below a bound, at each number below another
module _ (f g : ℕ → ℕ) (n : ℕ) where
  pub agree : T (upto (λ x. eqb (f x) (g x)) 0 n) → (x : ℕ) → x < n → f x ≡ g x
  agree t x h = eqb→eq (f x) (g x) (upto_at (λ x. eqb (f x) (g x)) n t x h)

module _ (f : ℕ → ℕ) (bound n : ℕ) where
  pub stay_below : T (upto (λ x. ltb (f x) bound) 0 n) → (x : ℕ) → x < n → f x < bound
  stay_below t x h = ltb→lt (f x) bound (upto_at (λ x. ltb (f x) bound) n t x h)

-- the same of pairs, u below h and l below w, by one test over the numbers that they make up
module _ (w h : ℕ) (f g : ℕ → ℕ → ℕ) where
  pub agree_pairs : T (upto (λ n. eqb (f (n / w) (n % w)) (g (n / w) (n % w))) 0 (w * h)) → (u l : ℕ) → u < h → l < w → f u l ≡ g u l
  agree_pairs t u l hu hl =
      let both = agree (λ n. f (n / w) (n % w)) (λ n. g (n / w) (n % w)) (w * h) t (u * w + l) (mul-add-lt u w l h hu hl) in
      subst (λ (v : ℕ). f v l ≡ g v l) (div-mul-add u w l hl)
      (subst (λ (m : ℕ). f ((u * w + l) / w) m ≡ g ((u * w + l) / w) m) (mod-mul-add u w l hl) both)
