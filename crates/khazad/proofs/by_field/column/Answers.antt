use Rattle.std.proofs.Common.{rules, arith, ◌≡◌, ◌*◌, ◌++◌, ◌∷◌, List, ℕ, length, sym, ap, ap₂, ◌∙◌, ⊎_elim}
use lib.Bits.{bit_xor}
use Rattle.std.proofs.lemmas.List.{length-append}
use Rattle.std.specs.List.{flat_map}
use Rattle.cipher.proofs.Rows.{of_array}
use Rattle.khazad.specs.Khazad.{H}
use Rattle.khazad.proofs.Columns.{dot_flat, θ-flat, one_byte_more, no_byte_more}
use Rattle.khazad.proofs.by_field.column.Goals as goal

pub loop-row-init : goal.loop-row-init
loop-row-init c =
    let h = of_array _ _ c.well_formed.0 in
    let entries : c.into_iter-row-iterator.result.a.rest.now ≡ flat_map (λ (row : List ℕ). row) H = search rules in
    let bytes : c.into_iter-row-iterator.result.b.rest.now ≡ c.args.a = search rules in
    record {
      size = search rules;
      long = ap length entries ∙ ap (λ n. 8 * n) (sym (ap length bytes ∙ h.0));
      sum = ap₂ (λ xs es. dot_flat xs es c.args.j) bytes entries ∙ θ-flat c.args.a h c.args.j c.requires;
    }

pub loop-row-preserved : goal.loop-row-preserved
loop-row-preserved c =
    let split : c.loop-row.row-iterator.a.rest.now ≡ c.in-Some.row.now ++ c.next.new.self.a.rest.now = search rules in
    let first : c.loop-row.row-iterator.b.rest.now ≡ c.in-Some.x.now ∷ c.next.new.self.b.rest.now = search rules in
    let eight : length c.in-Some.row.now ≡ 8 = search rules in
    record {
      size = search rules;
      long = omega (arith, simp length-append at (ap length split), ap length first);
      sum =
          ap (λ p. bit_xor (bit_xor c.loop-row.sum p) (dot_flat c.next.new.self.b.rest.now c.next.new.self.a.rest.now c.args.j)) c.product-sum.ensures
          ∙ one_byte_more c.next.new.self.b.rest.now c.in-Some.row.now c.next.new.self.a.rest.now c.in-Some.x.now c.args.j c.loop-row.sum eight c.requires
          ∙ sym (ap₂ (λ xs es. bit_xor c.loop-row.sum (dot_flat xs es c.args.j)) first split)
          ∙ c.loop-row.invariant.sum;
    }

pub returns : goal.returns
returns c =
    let none : length c.loop-row.row-iterator.b.rest.now ≡ 0 = ⊎_elim (λ w. omega (arith, w.1.1.0)) (λ w. w.1.0) c.in-None.ensures.steps in
    sym (no_byte_more c.loop-row.row-iterator.b.rest.now c.loop-row.row-iterator.a.rest.now c.args.j c.loop-row.sum none) ∙ c.loop-row.invariant.sum
