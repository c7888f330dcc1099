-- A word of these bytes is the name.
use Rattle.std.proofs.Common.{◌≡◌, codes, rules, sym, ap}
use Rattle.std.proofs.lemmas.Slice.Eq.{text_from_reads}
use Rattle.questions.specs.Answer.{chained_of}
use Rattle.questions.proofs.answer.chained_named.Goals as goal

pub returns-in-99 : goal.returns-in-99
returns-in-99 c =
    let name : c.args.word.now ≡ codes "cbc-encipher" = text_from_reads _ _ (search rules) (search rules) in
    sym (ap (λ word. chained_of word c.args.start) name)

pub returns-in-99-2 : goal.returns-in-99-2
returns-in-99-2 c =
    let name : c.args.word.now ≡ codes "cbc-decipher" = text_from_reads _ _ (search rules) (search rules) in
    sym (ap (λ word. chained_of word c.args.start) name)
