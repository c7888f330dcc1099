use Rattle.std.proofs.Common.{ap, ◌∙◌, rules}
use Rattle.khazad.specs.Khazad.{enciphered}
use Rattle.modes.specs.Cbc.{cbc_enciphered}
use Rattle.modes.specs.InPlace.{left_by}
use Rattle.timed.proofs.Granted.{granted_where_whole}
use Rattle.timed.proofs.buzhnika_khazad_lookup_cbc.Goals as goal

pub returns : goal.returns
returns c =
    record {
      result = search (rules, granted_where_whole);
      written = c.cbc_encipher.ensures.written ∙ ap (λ k. left_by (cbc_enciphered (enciphered k) c.args.start) c.args.text.now) (c.prepare-cipher.ensures ∙ c.key_of.ensures);
    }
