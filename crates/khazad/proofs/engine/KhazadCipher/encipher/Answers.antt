use Rattle.std.proofs.Common.{◌∙◌}
use Rattle.khazad.proofs.Rounds.{runs_forward}
use Rattle.khazad.proofs.engine.KhazadCipher.encipher.Goals as goal

pub returns : goal.returns
returns g c =
    let s = c.args.self.now in
    c.run.ensures ∙ runs_forward s.key s.key_is_sixteen_bytes s.forward s.forward_is_of_key c.args.block
