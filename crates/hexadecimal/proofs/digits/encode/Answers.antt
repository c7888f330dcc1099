-- Each turn writes the digits of one piece, and what is written is read back.
use Rattle.std.proofs.Common.{List, ℕ, ◌≡◌, ◌++◌, string_bytes, ap, ◌∙◌, append_assoc, append-nil, rules}
use Rattle.std.proofs.lemmas.List.{nil_from_length}
use Rattle.std.specs.Slice.Iter.{chunks_rest}
use Rattle.hexadecimal.specs.Hex.{hex, unhex}
use Rattle.hexadecimal.proofs.Laws.{hex-pieces, all_bytes, unhex-undoes_hex}
use Rattle.hexadecimal.proofs.digits.encode.Goals as goal

pub loop-piece-preserved : goal.loop-piece-preserved
loop-piece-preserved c =
    let steps = c.in-Some.ensures.steps in
    let front = string_bytes c.loop-piece.text in
    let rest = hex (chunks_rest c.next.new.self) in (
      search rules,
      tt,
      steps.0 ∙ c.loop-piece.invariant.2,
      ap (λ (t : List ℕ). t ++ rest) c.in_ok-push_str.ensures.bytes
          ∙ append_assoc front _ rest
          ∙ ap (λ (t : List ℕ). front ++ t) (rw c.digits_of.ensures (hex-pieces _ c.in-Some.piece.now (chunks_rest c.next.new.self) steps.1.0))
          ∙ c.loop-piece.invariant.3,
    )

pub returns-clause-written : goal.returns-clause-written
unfolding hex
returns-clause-written c =
    let none = nil_from_length _ c.in-None.ensures.steps.1.0 in
    rw (none, append-nil) at c.loop-piece.invariant.3

pub returns-clause-read_back : goal.returns-clause-read_back
unfolding hex
returns-clause-read_back c =
    let bytes = c.args.bytes.now in
    let none = nil_from_length _ c.in-None.ensures.steps.1.0 in
    let written : string_bytes c.loop-piece.text ≡ hex bytes = rw (none, append-nil) at c.loop-piece.invariant.3 in
    ap unhex written ∙ unhex-undoes_hex bytes (all_bytes bytes c.type_inv.bytes)
