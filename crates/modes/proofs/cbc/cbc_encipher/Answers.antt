use Rattle.std.proofs.Common.{◌≡◌, refl, rules, arith}
use Rattle.cipher.proofs.Rows.{of_slice}
use Rattle.modes.specs.contracts.cbc.fn.cbc_encipher.in_place as closure
use Rattle.modes.proofs.Undone.{left_undone, cbc_undone}
use Rattle.modes.proofs.Over.{enciphering_goes_over}
use Rattle.modes.proofs.Walk.{left_by_mode}
use Rattle.modes.proofs.cbc.cbc_encipher.Goals as goal

pub returns-clause-written : goal.returns-clause-written
returns-clause-written g c =
    let o : closure.Over = record { C = g.row.C; C-Cipher = g.C.Cipher; C-Cipher-dict = g.C.Cipher-dict } in
    left_by_mode (enciphering_goes_over _) (λ f before. let l = closure.captures o f in (l.cipher.now ≡ c.args.cipher.now) × (l.before ≡ before)) (λ f before block made next at call. search rules)
    c.args.start c.args.buffer.now (refl, refl) c.in_place.ensures.result c.in_place.ensures.written c.in_place.ensures.refused

pub returns-clause-undone : goal.returns-clause-undone
returns-clause-undone g c =
    let law = g.met.C.Cipher.lawful _ (g.met.C.Cipher.keyed c.args.cipher.now) in
    left_undone (cbc_undone _ _ law c.args.start (omega arith)) (of_slice _ (λ i. search rules)) (returns-clause-written g c)
