-- The first space ends the first word.
use Rattle.std.proofs.Common.{◌≡◌, rules, tests, sym, ◌∙◌, Some, None}
use Rattle.std.proofs.lemmas.Iterator.{YieldsList-from_slice}
use Rattle.std.proofs.lemmas.Iterator.Search.{position_from_yields_List}
use Rattle.std.specs.List.{position}
use Rattle.questions.proofs.Splitting.{is_space, at_first_space}
use Rattle.questions.proofs.words.cut.Goals as goal

pub returns-in_err-i : goal.returns-in_err-i
returns-in_err-i c =
    let found : c.position.result ≡ position is_space c.args.text.now = position_from_yields_List is_space _ _ c.position.result c.position.ensures.ran (YieldsList-from_slice _ c.iter.ensures.rest) (λ x b q k. search (rules, tests)) in
    rw c.from_residual.ensures (at_first_space c.args.text.now None (sym c.in_err-i.was ∙ found))

pub returns : goal.returns
returns c =
    let found : c.position.result ≡ position is_space c.args.text.now = position_from_yields_List is_space _ _ c.position.result c.position.ensures.ran (YieldsList-from_slice _ c.iter.ensures.rest) (λ x b q k. search (rules, tests)) in
    at_first_space c.args.text.now (Some c.in_ok-i.i) (sym c.in_ok-i.was ∙ found)
