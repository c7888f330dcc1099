-- What an array holds that the library made by calls of a closure: by `array::from_fn`, and by `map`.
use Rattle.std.proofs.Common.{◌≡◌, ℕ, zero, suc, ◌+◌, ◌<◌, List, length, map, get_or, ap, ◌∙◌, sym, subst, arith}
use Rattle.std.proofs.lemmas.List.{ext_get_or, get_or-map, length-map}
use Rattle.std.proofs.lemmas.List.FromFn.{fill_by_all}
use Rattle.std.specs.List.{range_with_len}
use Rattle.std.specs.Fn.{Called}
use Rattle.std.specs.Array.{IsFromFnResult, IsFromFnResultFrom, IsMapOf, MapsFrom}
use denote.Param.Members.{Mut}

-- h says what each call gives, and P what is known of the closure before each
module _ {F B : Type 0} (g : Mut F (ℕ × Unit {0}) B) (P : ℕ → F → Type 0) (h : ℕ → B) (n : ℕ) (ys : List B)
    (call : (i : ℕ) (f : F) (y : B) (q : F) → i < n → P i f → Called g f (i, tt) y q → (y ≡ h i) × P (i + 1) q) where
  from_calls : (m i : ℕ) (f : F) → i + m ≡ n → P i f → IsFromFnResultFrom g f ys i m → (k : ℕ) → k < m → (d : B) → get_or ys (i + k) d ≡ h (i + k)
  from_calls zero i f e p made k l d = absurd (omega arith)
  from_calls (suc m) i f e p made zero l d =
      let here : i + 0 ≡ i = omega arith in
      rw here (made.2.1 d ∙ (call i f made.1 made.0 (omega arith) p made.3).0)
  from_calls (suc m) i f e p made (suc k) l d =
      let on : i + suc k ≡ i + 1 + k = omega arith in
      rw on (from_calls m (i + 1) made.0 (omega arith) (call i f made.1 made.0 (omega arith) p made.3).1 made.4 k (omega arith) d)

  pub made_by_calls : (f : F) (d : B) → P 0 f → IsFromFnResult g f ys n → ys ≡ map h (range_with_len 0 n)
  made_by_calls f d p made = fill_by_all h ys n d made.long (λ k l.
      let from : 0 + k ≡ k = omega arith in
      rw from at (from_calls n 0 f (omega arith) p made.each k l d))

-- h says what each call gives, which leaves the closure as it was
module _ {F A B : Type 0} (g : Mut F (A × Unit {0}) B) (h : A → B) (xs : List A) (ys : List B) (f : F)
    (call : (x : A) (y : B) (q : F) → Called g f (x, tt) y q → (y ≡ h x) × (q ≡ f)) where
  from_items : (m i : ℕ) → MapsFrom g f xs ys i m → (k : ℕ) → k < m → (d : A) (e : B) → get_or ys (i + k) e ≡ h (get_or xs (i + k) d)
  from_items zero i made k l d e = absurd (omega arith)
  from_items (suc m) i made zero l d e =
      let here : i + 0 ≡ i = omega arith in
      rw here (made.4.1 e ∙ (call made.1 made.2 made.0 made.5).0 ∙ ap h (sym (made.3.1 d)))
  from_items (suc m) i made (suc k) l d e =
      let on : i + suc k ≡ i + 1 + k = omega arith in
      let rest : MapsFrom g f xs ys (i + 1) m = subst (λ (q : F). MapsFrom g q xs ys (i + 1) m) (call made.1 made.2 made.0 made.5).1 made.6 in
      rw on (from_items m (i + 1) rest k (omega arith) d e)

  pub mapped_by_calls : (n : ℕ) → length xs ≡ n → (d : A) (e : B) → IsMapOf g f xs ys n → ys ≡ map h xs
  mapped_by_calls n long d e made =
      ext_get_or e ys (map h xs) (made.long ∙ sym (length-map xs h ∙ long))
      (λ k l.
      let within : k < n = omega (arith, made.long) in
      let here : k < length xs = omega arith in
      let from : 0 + k ≡ k = omega arith in
      rw from at (from_items n 0 made.each k within d e) ∙ sym (get_or-map h xs k d e here))
