use Rattle.std.proofs.Common.{◌∙◌, arith}
use Rattle.khazad.proofs.Schedules.{constant_is_boxed, added_up}
use Rattle.khazad.proofs.keys.next_key.Goals as goal

pub returns : goal.returns
returns g c =
    added_up c.args.r c.args.before c.args.last c.gamma-constant.result c.theta_gamma.result c.requires (omega arith)
    c.gamma-constant.type_inv c.theta_gamma.type_inv (c.gamma-constant.ensures ∙ constant_is_boxed c.args.r c.requires) c.theta_gamma.ensures
