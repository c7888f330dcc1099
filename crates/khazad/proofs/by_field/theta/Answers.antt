use Rattle.std.proofs.Common.{◌≡◌, get_or, sym, ◌∙◌, refl, rules}
use Rattle.std.proofs.lemmas.List.FromFn.{fill_by_all}
use Rattle.cipher.proofs.Rows.{of_array}
use Rattle.khazad.specs.Khazad.{θ}
use Rattle.khazad.specs.Layers.{θ-bytes}
use Rattle.khazad.proofs.Made.{made_by_calls}
use Rattle.khazad.proofs.by_field.theta.Goals as goal

pub returns : goal.returns
returns c =
    let a = c.args.a in
    made_by_calls _ (λ j f. f.0.now ≡ a) (λ j. get_or (θ a) j 0) 8 c.from_fn.result
    (λ j f y q l p called. (search rules, search rules)) _ 0 refl c.from_fn.ensures.items
    ∙ sym (fill_by_all (λ j. get_or (θ a) j 0) (θ a) 8 0 (θ-bytes a (of_array _ _ c.well_formed.0)).0 (λ j l. refl))
