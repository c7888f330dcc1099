-- A word of these bytes is the name.
use Rattle.std.proofs.Common.{◌≡◌, codes, rules, sym, ap}
use Rattle.std.proofs.lemmas.Slice.Eq.{text_from_reads}
use Rattle.questions.specs.Answer.{unchained_of}
use Rattle.questions.proofs.answer.unchained_named.Goals as goal

pub returns-in-101 : goal.returns-in-101
returns-in-101 c =
    let name : c.args.word.now ≡ codes "ecb-encipher" = text_from_reads _ _ (search rules) (search rules) in
    sym (ap unchained_of name)

pub returns-in-101-2 : goal.returns-in-101-2
returns-in-101-2 c =
    let name : c.args.word.now ≡ codes "ecb-decipher" = text_from_reads _ _ (search rules) (search rules) in
    sym (ap unchained_of name)
