-- A walk over a buffer, block after block, that writes what a step makes of each.
use Rattle.std.proofs.Common.{◌≡◌, ℕ, ◌+◌, ◌-◌, ◌*◌, ◌≤◌, List, [], ◌∷◌, ◌++◌, length, take, drop, sym, refl, ap, ◌∙◌, ap₂, subst, Ok, Err, Result, ⊎_elim, OnOk, OnErr, arith}
use Rattle.std.proofs.lemmas.List.{append_assoc, append-nil, length-append, length-drop, take_all, drop-drop, drop_all}
use Rattle.std.proofs.lemmas.List.Edits.{take-paste, drop-paste}
use Rattle.std.specs.List.{between}
use lib.Seq.{paste}
use Rattle.std.proofs.lemmas.Bool.{cond-true, cond-false, cases_Bool}
use Rattle.refusal.specs.declared.cause.Refusal.{Refusal}
use Rattle.refusal.specs.declared.cause.Refusal.TheVariants.{NotWholeBlocks}
use Rattle.cipher.specs.Block.{be_bytes, be_number, as_blocks, as_bytes, is_whole}
use Rattle.cipher.proofs.Numbers.{block_bytes}
use Rattle.cipher.proofs.Wholes.{as_blocks-first, as_blocks-none, as_bytes-append, as_bytes-one}
use Rattle.modes.specs.InPlace.{answered, left_by}
use Rattle.modes.specs.Steps.{Makes, LeftByCalls}
use Rattle.modes.proofs.Over.{GoesOver}

-- What the walk keeps, of the bytes as they were and as they are: from `at` on they are the same, before it stand the blocks
-- that were made, and behind these comes what the step, as it is now, makes of the others.
pub record Walked {F : Type 0} (calls : F → ℕ → ℕ → F → Type 0) (start : F) (was : List ℕ) (at : ℕ) (now : F) (is : List ℕ) : Type 0 where
  pub made : List ℕ
  pub place : at ≡ 8 * length made
  pub rest : drop at is ≡ drop at was
  pub front : take at is ≡ as_bytes made
  pub on : (more : List ℕ) → Makes calls now (as_blocks (drop at was)) more → Makes calls start (as_blocks was) (made ++ more)

module _ {F : Type 0} {calls : F → ℕ → ℕ → F → Type 0} {start : F} {was : List ℕ} where
  pub walk_none : Walked calls start was 0 start was
  unfolding as_bytes
  walk_none = record { made = []; place = refl; rest = refl; front = refl; on = λ more h. h }

  -- one block more
  pub walk_more : {at : ℕ} {now next : F} {is written : List ℕ} {block made : ℕ} → Walked calls start was at now is → length is ≡ length was → at + 8 ≤ length is
      → block ≡ be_number (between at (at + 8) is) → calls now block made next → written ≡ paste is at (be_bytes 8 made) 8
      → Walked calls start was (at + 8) next written
  walk_more {at} {now} {next} {is} {written} {block} {made} w same room read call wrote =
      let bytes = be_bytes 8 made in
      let fits : 8 ≤ length bytes = omega (arith, (block_bytes made).0) in
      let eight : at + 8 - at ≡ 8 = omega arith in
      let here : be_number (take 8 (drop at was)) ≡ block = ap₂ (λ n z. be_number (take n z)) (sym eight) (sym w.rest) ∙ sym read in
      let blocks : as_blocks (drop at was) ≡ block ∷ as_blocks (drop (at + 8) was) =
      as_blocks-first (drop at was) (omega (arith, length-drop at was)) ∙ ap₂ (λ b rest. b ∷ as_blocks rest) here (drop-drop 8 at was) in
      record {
        made = w.made ++ made ∷ [];
        place = omega (arith, w.place, length-append w.made (made ∷ []));
        rest = ap (drop (at + 8)) wrote ∙ drop-paste is at bytes 8 (omega arith) fits ∙ sym (drop-drop 8 at is) ∙ ap (drop 8) w.rest ∙ drop-drop 8 at was;
        front =
            ap (take (at + 8)) wrote ∙ take-paste is at bytes 8 (omega arith) fits
            ∙ ap₂ (λ x y. x ++ y) w.front (take_all 8 bytes (omega (arith, (block_bytes made).0)) ∙ sym (as_bytes-one made)) ∙ sym (as_bytes-append w.made (made ∷ []));
        on = λ more h.
            let all = w.on (made ∷ more) (subst (λ bs. Makes calls now bs (made ∷ more)) (sym blocks) (next, call, h)) in
            subst (Makes calls start (as_blocks was)) (sym (append_assoc w.made (made ∷ []) more)) all;
      }

  -- at the end of the buffer
  pub walk_all : {at : ℕ} {now : F} {is left : List ℕ} → Walked calls start was at now is → length is ≡ length was → length was ≤ at → left ≡ is → LeftByCalls calls start was left
  walk_all {at} {now} {is} {left} w same done e =
      let none : as_blocks (drop at was) ≡ [] = ap as_blocks (drop_all at was done) ∙ as_blocks-none [] (omega arith) in
      let all = w.on [] (subst (λ bs. Makes calls now bs []) (sym none) tt) in
      (w.made, subst (Makes calls start (as_blocks was)) (append-nil w.made) all, e ∙ sym (take_all at is (omega arith)) ∙ w.front)

-- ---- what a step makes, where it does as a mode

-- `At` ties the step, as it is, to the state of a mode: a call makes what the mode makes, and leaves the step at the next state.
module _ {F : Type 0} {calls : F → ℕ → ℕ → F → Type 0} {mode : ℕ → List ℕ → List ℕ} {makes next : ℕ → ℕ → ℕ} (over : GoesOver mode makes next)
    (At : F → ℕ → Type 0) (steps : (f : F) (state block made : ℕ) (g : F) → At f state → calls f block made g → (made ≡ makes state block) × At g (next state block)) where
  pub made_by_mode : (blocks made : List ℕ) (f : F) (state : ℕ) → At f state → Makes calls f blocks made → made ≡ mode state blocks
  made_by_mode [] [] f state at m = sym (over.none state)
  made_by_mode [] (c ∷ cs) f state at m = absurd m
  made_by_mode (b ∷ bs) [] f state at m = absurd m
  made_by_mode (b ∷ bs) (c ∷ cs) f state at (g, call, m) =
      let on = steps f state b c g at call in
      ap₂ {C = List ℕ} (λ z zs. z ∷ zs) on.0 (made_by_mode bs cs g (next state b) on.1 m) ∙ sym (over.more state b bs)

  -- the buffer is then left as by the mode
  pub left_by_mode : (state : ℕ) (buffer : List ℕ) {f : F} {left : List ℕ} {result : Result (Unit {0}) Refusal} → At f state → result ≡ answered buffer
      → OnOk result (LeftByCalls calls f buffer left) → OnErr result (left ≡ buffer)
      → left ≡ left_by (mode state) buffer
  left_by_mode state buffer {f} {left} {result} at e ok err =
      let blocks = as_blocks buffer in
      let walked = as_bytes (mode state blocks) in
      ⊎_elim
      (λ whole.
      let m = subst (λ r. OnOk r (LeftByCalls calls f buffer left)) (e ∙ cond-true (is_whole buffer) (Ok tt) (Err NotWholeBlocks) whole) ok in
      m.2 ∙ ap as_bytes (made_by_mode blocks m.0 f state at m.1) ∙ sym (cond-true (is_whole buffer) walked buffer whole))
      (λ ragged.
      subst (λ r. OnErr r (left ≡ buffer)) (e ∙ cond-false (is_whole buffer) (Ok tt) (Err NotWholeBlocks) ragged) err
      ∙ sym (cond-false (is_whole buffer) walked buffer ragged))
      (cases_Bool (is_whole buffer))
