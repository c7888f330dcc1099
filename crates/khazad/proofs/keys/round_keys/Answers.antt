use Rattle.std.proofs.Common.{◌≡◌, suc, sym, ap, add-one, ◌∙◌, rules}
use Rattle.cipher.specs.Block.{be_bytes, be_number, ◌⊕◌}
use Rattle.cipher.proofs.Rows.{of_array}
use Rattle.khazad.specs.Khazad.{γ, θ, c, K, K_from_minus_two}
use Rattle.khazad.proofs.Made.{made_by_calls}
use Rattle.khazad.proofs.Schedules.{first_half, second_half, next_is, next_counted}
use Rattle.khazad.specs.contracts.keys.fn.round_keys.from_fn as closure
use Rattle.khazad.proofs.keys.round_keys.Goals as goal

-- what the closure holds before the call at r is `before`, K(r − 2), and `last`, K(r − 1)
pub returns : goal.returns
returns g x =
    let over : closure.Over = record { L = g.row.L; L-Layers = g.L.Layers; L-Layers-dict = g.L.Layers-dict } in
    let key = x.args.key in
    let h = of_array _ _ x.well_formed.0 in
    made_by_calls _ (λ r f. (be_bytes 8 (closure.captures over f).before ≡ K_from_minus_two key r) × (be_bytes 8 (closure.captures over f).last ≡ K_from_minus_two key (suc r))) (λ r. be_number (K key r)) 9 x.from_fn.result
    (λ r f y q l p called.
    let before = (closure.captures over f).before in
    let last = (closure.captures over f).last in
    let next : y ≡ be_number (c r ⊕ θ (γ (be_bytes 8 last)) ⊕ be_bytes 8 before) = search rules in
    let moved : (closure.captures over q).before ≡ last = search rules in
    let kept : (closure.captures over q).last ≡ y = search rules in
    (next_is key h r before last y l p.0 p.1 next, (ap (be_bytes 8) moved ∙ p.1 ∙ ap (K_from_minus_two key) (sym (add-one r)), ap (be_bytes 8) kept ∙ next_counted key h r before last y l p.0 p.1 next)))
    _ 0 (first_half key h x.block_at-before.result x.block_at-before.ensures, second_half key h x.block_at-last.result x.block_at-last.ensures) x.from_fn.ensures.items
