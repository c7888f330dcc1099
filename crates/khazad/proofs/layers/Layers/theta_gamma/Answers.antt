use Rattle.std.proofs.Common.{ap, ◌∙◌}
use Rattle.cipher.specs.Block.{be_bytes, be_number}
use Rattle.cipher.proofs.Numbers.{block_bytes, bytes_of_block}
use Rattle.khazad.specs.Khazad.{γ, θ}
use Rattle.khazad.specs.Layers.{γ-bytes}
use Rattle.khazad.specs.Blocks.{on_blocks}
use Rattle.khazad.proofs.layers.Layers.theta_gamma.Goals as goal

pub returns : goal.returns
returns g c =
    let a = be_bytes 8 c.args.block in
    c.theta.ensures ∙ ap (on_blocks θ) c.gamma.ensures ∙ ap (λ b. be_number (θ b)) (bytes_of_block (γ a) (γ-bytes 8 a (block_bytes c.args.block)))
