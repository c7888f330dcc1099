use Rattle.std.proofs.Common.{◌∙◌}
use Rattle.khazad.proofs.Rounds.{runs_backward}
use Rattle.khazad.proofs.engine.KhazadCipher.decipher.Goals as goal

pub returns : goal.returns
returns g c =
    let s = c.args.self.now in
    c.run.ensures ∙ runs_backward s.key s.key_is_sixteen_bytes s.backward s.backward_is_of_key c.args.block
