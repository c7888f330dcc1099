use Rattle.cipher.proofs.Rows.{of_array}
use Rattle.khazad.proofs.Rounds.{backward_of_key}
use Rattle.khazad.proofs.engine.KhazadCipher.prepare.Goals as goal

pub invariant_of-result : goal.invariant_of-result
invariant_of-result g c =
    let key = c.args.bytes in
    let h = of_array _ _ c.well_formed.0 in
    let of_key = c.round_keys-forward.ensures in
    record {
      key_is_sixteen_bytes = h;
      forward_is_of_key = of_key;
      backward_is_of_key = backward_of_key key h c.round_keys-forward.result c.inverse_keys-backward.result of_key c.inverse_keys-backward.ensures;
    }
