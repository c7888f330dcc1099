use Rattle.std.proofs.Common.{◌≡◌, refl, rules}
use Rattle.cipher.proofs.Rows.{of_slice}
use Rattle.modes.specs.contracts.ecb.fn.ecb_encipher.in_place as closure
use Rattle.modes.proofs.Undone.{left_undone, ecb-undone}
use Rattle.modes.proofs.Over.{ecb-goes_over}
use Rattle.modes.proofs.Walk.{left_by_mode}
use Rattle.modes.proofs.ecb.ecb_encipher.Goals as goal

pub returns-clause-written : goal.returns-clause-written
returns-clause-written g c =
    let o : closure.Over = record { C = g.row.C; C-Cipher = g.C.Cipher; C-Cipher-dict = g.C.Cipher-dict } in
    left_by_mode (ecb-goes_over _) (λ f state. let l = closure.captures o f in l.cipher.now ≡ c.args.cipher.now) (λ f state block made next at call. search rules)
    0 c.args.buffer.now refl c.in_place.ensures.result c.in_place.ensures.written c.in_place.ensures.refused

pub returns-clause-undone : goal.returns-clause-undone
returns-clause-undone g c =
    let law = g.met.C.Cipher.lawful _ (g.met.C.Cipher.keyed c.args.cipher.now) in
    left_undone (ecb-undone _ _ law) (of_slice _ (λ i. search rules)) (returns-clause-written g c)
