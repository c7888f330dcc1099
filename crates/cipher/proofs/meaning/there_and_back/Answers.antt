use Rattle.std.proofs.Common.{arith, rules}
use Rattle.cipher.proofs.meaning.there_and_back.Goals as goal

pub returns : goal.returns
returns g c =
    let prepared = c.args.cipher.now in
    let undoes = (g.met.C.Cipher.lawful (g.C.Cipher.key prepared) (g.met.C.Cipher.keyed prepared)).back_undoes c.args.block (omega arith) in
    search rules
