use Rattle.std.proofs.Common.{ap, ◌∙◌, rules}
use Rattle.khazad.specs.Khazad.{enciphered}
use Rattle.modes.specs.Ecb.{ecb}
use Rattle.modes.specs.InPlace.{left_by}
use Rattle.timed.proofs.Granted.{granted_where_whole}
use Rattle.timed.proofs.buzhnika_khazad_lookup_ecb.Goals as goal

pub returns : goal.returns
returns c =
    record {
      result = search (rules, granted_where_whole);
      written = c.ecb_encipher.ensures.written ∙ ap (λ k. left_by (ecb (enciphered k)) c.args.text.now) (c.prepare-cipher.ensures ∙ c.key_of.ensures);
    }
