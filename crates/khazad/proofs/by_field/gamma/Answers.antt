use Rattle.std.proofs.Common.{◌≡◌, get_or, sym, ◌∙◌, refl, rules}
use Rattle.std.proofs.lemmas.List.FromFn.{fill_by_all}
use Rattle.cipher.proofs.Rows.{of_array}
use Rattle.khazad.specs.Khazad.{S, γ}
use Rattle.khazad.specs.Layers.{γ-bytes, γ-at}
use Rattle.khazad.proofs.Made.{made_by_calls}
use Rattle.khazad.proofs.by_field.gamma.Goals as goal

pub returns : goal.returns
returns c =
    let a = c.args.a in
    let h = of_array _ _ c.well_formed.0 in
    made_by_calls _ (λ i f. f.0.now ≡ a) (λ i. S (get_or a i 0)) 8 c.from_fn.result
    (λ i f y q l p called. (search rules, search rules)) _ 0 refl c.from_fn.ensures.items
    ∙ sym (fill_by_all (λ i. S (get_or a i 0)) (γ a) 8 0 (γ-bytes 8 a h).0 (γ-at 8 a h.0))
