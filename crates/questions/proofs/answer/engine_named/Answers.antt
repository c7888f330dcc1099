-- A word of these bytes is the name, and one that is another at the last byte but one is not.
use Rattle.std.proofs.Common.{◌≡◌, codes, rules, sym, ap}
use Rattle.std.proofs.lemmas.Slice.Eq.{text_from_reads}
use Rattle.std.proofs.lemmas.Bool.{cond-false}
use Rattle.questions.specs.Answer.{engine_of}
use Rattle.questions.proofs.Names.{differs}
use Rattle.questions.proofs.answer.engine_named.Goals as goal

pub returns-in-107 : goal.returns-in-107
returns-in-107 c =
    let name : c.args.word.now ≡ codes "khazad-field" = text_from_reads _ _ (search rules) (search rules) in
    sym (ap engine_of name)

pub returns-in_default-3 : goal.returns-in_default-3
returns-in_default-3 c = sym (cond-false _ _ _ (differs c.args.word.now (codes "khazad-field") 10 (search rules)))
