-- A mode in place is granted just where the text is whole blocks.
use Rattle.std.proofs.Common.{◌≡◌, ℕ, Bool, true, false, cond, List, is_ok, Ok, Err, Result, refl, ap, ◌∙◌}
use Rattle.cipher.specs.Block.{is_whole}
use Rattle.modes.specs.InPlace.{answered}
use Rattle.refusal.specs.declared.cause.Refusal.{Refusal}
use Rattle.refusal.specs.declared.cause.Refusal.TheVariants.{NotWholeBlocks}

by_test : (whole : Bool) → is_ok {T = Unit {0}} {E = Refusal} (cond whole (Ok tt) (Err NotWholeBlocks)) ≡ whole
by_test true = refl
by_test false = refl

pub granted_where_whole : (text : List ℕ) (answer : Result (Unit {0}) Refusal) (granted : Bool) → answer ≡ answered text → granted ≡ is_ok answer → granted ≡ is_whole text
granted_where_whole text answer granted e g = g ∙ ap is_ok e ∙ by_test (is_whole text)
