-- What is said to a question by the engine that it names.
use Rattle.std.proofs.Common.{◌≡◌, List, ℕ, Some}
use Rattle.khazad.specs.Khazad as khazad
use Rattle.questions.specs.Answer.{Said, said_by, said_to}
use Rattle.questions.specs.declared.question.Engine.{Engine}
use Rattle.questions.specs.declared.question.Engine.TheVariants.{KhazadField}
use Rattle.questions.specs.declared.question.Operation.{Operation}

-- the maps of the field engine, which is the only one there is
pub by_field_engine : (engine : Engine) (key text : List ℕ) (operation : Operation) (said : Said) → said ≡ said_by (khazad.enciphered key) (khazad.deciphered key) operation text
    → said ≡ said_to (Some (record { engine = engine; operation = operation; key = key; text = text }))
by_field_engine KhazadField key text operation said e = e
