-- When a word is not a name.
use Rattle.std.proofs.Common.{◌≡◌, ℕ, false, List, get_or, ap, ⊎_elim}
use Rattle.std.proofs.lemmas.Bool.{cases_Bool}
use Rattle.std.proofs.lemmas.Slice.Eq.{bytes_eq-Decides}
use Rattle.std.specs.Str.{bytes_eq}

-- a word that differs from a name at one place is not that name
pub differs : (word name : List ℕ) (i : ℕ) → (get_or word i 0 ≡ get_or name i 0 → ⊥) → bytes_eq word name ≡ false
differs word name i other =
    ⊎_elim (λ same. absurd (other (ap (λ bytes. get_or bytes i 0) ((bytes_eq-Decides word name).0 same)))) (λ not_same. not_same) (cases_Bool (bytes_eq word name))
