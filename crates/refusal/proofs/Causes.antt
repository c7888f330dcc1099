-- No two causes have one number, and `==` of two refusals tells whether they are the same cause.
use Rattle.std.proofs.Common.{◌≡◌, ◌==◌, ap, refl, ◌∙◌, rules}
use Rattle.std.proofs.lemmas.Bool.{eq-eqb, eqb-true}
use Rattle.std.specs.Bool.{Decides}
use denote.Enum.Bare.{same_true, sameb}
use Rattle.refusal.specs.Numbers.{number_of}
use Rattle.refusal.specs.contracts.cause.Refusal.{the_type}
use Rattle.refusal.specs.contracts.cause.RefusalPartialEq.TheImpl.{ghosts}
use Rattle.refusal.specs.declared.cause.Refusal.{Refusal}

-- whether two values are of one variant agrees with their numbers
same_variant-number_of : (x y : Refusal) → sameb the_type x y ≡ (number_of x == number_of y)
same_variant-number_of x y = search rules

pub number_of-injective : (x y : Refusal) → number_of x ≡ number_of y → x ≡ y
number_of-injective x y e = same_true the_type tt x y (same_variant-number_of x y ∙ eq-eqb (number_of x) (number_of y) e)

-- comparing the numbers tells whether the causes are the same
pub number_of-Decides : (x y : Refusal) → Decides (number_of x == number_of y) (x ≡ y)
number_of-Decides x y = (λ e. number_of-injective x y (eqb-true (number_of x) (number_of y) e), λ e. eq-eqb (number_of x) (number_of y) (ap number_of e))

-- `ghosts.eq` is what `==` of two refusals answers; it agrees with their numbers
pub eq-number_of : (x y : Refusal) → ghosts.eq x y ≡ (number_of x == number_of y)
eq-number_of x y = refl

-- and it tells whether they are the same cause
pub eq-Decides : (x y : Refusal) → Decides (ghosts.eq x y) (x ≡ y)
eq-Decides x y = number_of-Decides x y
