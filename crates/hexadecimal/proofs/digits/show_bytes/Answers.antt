-- No bytes are a dash and some bytes are digits, and either is read back.
use Rattle.std.proofs.Common.{ap, ◌∙◌, true-eqb, false-eqb}
use Rattle.std.proofs.lemmas.Result.{IfOk-weaker}
use Rattle.hexadecimal.specs.Hex.{word_bytes}
use Rattle.hexadecimal.proofs.Laws.{no_bytes_are_a_dash, some_bytes_are_digits, all_bytes, reading_undoes_showing}
use Rattle.hexadecimal.proofs.digits.show_bytes.Goals as goal

pub returns-then-is_empty-clause-read_back : goal.returns-then-is_empty-clause-read_back
returns-then-is_empty-clause-read_back c =
    let bytes = c.args.bytes.now in
    let dash = no_bytes_are_a_dash bytes (true-eqb _ 0 c.if-is_empty.ensures) in
    IfOk-weaker c.from_str.result _ _ (λ s text. ap word_bytes (text ∙ dash) ∙ reading_undoes_showing bytes (all_bytes bytes c.type_inv.bytes)) c.from_str.ensures.ok

pub returns-clause-read_back : goal.returns-clause-read_back
returns-clause-read_back c =
    let bytes = c.args.bytes.now in
    let digits = some_bytes_are_digits bytes (false-eqb _ 0 c.if-is_empty.ensures) in
    IfOk-weaker c.encode.result _ _ (λ s text. ap word_bytes (text ∙ digits) ∙ reading_undoes_showing bytes (all_bytes bytes c.type_inv.bytes)) c.encode.ensures.written
