use Rattle.std.proofs.Common.{refl, sym, ap, ◌∙◌, rules}
use Rattle.cipher.proofs.Rows.{of_slice}
use Rattle.modes.specs.Cmac.{CMAC}
use Rattle.modes.proofs.Tags.{short_tag, long_tag, one_block_tells, tag_of_header_and_body}
use Rattle.modes.proofs.tag.cmac.Goals as goal

pub loop-block-init : goal.loop-block-init
unfolding CMAC
loop-block-init g c = refl

pub loop-block-preserved : goal.loop-block-preserved
loop-block-preserved g c = search (rules, long_tag)

pub returns-clause-value : goal.returns-clause-value
returns-clause-value g c = search (rules, short_tag)

pub returns-clause-one_block_tells : goal.returns-clause-one_block_tells
returns-clause-one_block_tells g c =
    let law = g.met.C.Cipher.lawful _ (g.met.C.Cipher.keyed c.args.cipher.now) in
    λ other each d same. one_block_tells _ _ law c.args.message.now other (of_slice _ c.type_inv.message) each d (sym (returns-clause-value g c) ∙ same)

pub returns-clause-from_header : goal.returns-clause-from_header
returns-clause-from_header g c = λ header body h some split. returns-clause-value g c ∙ ap (CMAC _) split ∙ tag_of_header_and_body _ header body h some
