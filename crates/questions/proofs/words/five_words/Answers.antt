-- A sixth word is one too many.
use Rattle.std.proofs.Common.{rules}
use Rattle.questions.proofs.Splitting.{six_or_more}
use Rattle.questions.proofs.words.five_words.Goals as goal

pub returns-in-Some : goal.returns-in-Some
returns-in-Some c =
    six_or_more c.args.line.now c.in_ok-cipher.cipher.now c.in_ok-operation.operation.now c.in_ok-key.key.now c.in_ok-start.start.now c.in-Some.field-0.0.now c.in-Some.field-0.1.now (search rules)
