-- Two maps of blocks that undo each other.
use Rattle.std.proofs.Common.{◌≡◌, ℕ, sym, ap, ◌∙◌}
use Rattle.cipher.specs.Block.{Block}
use Rattle.cipher.specs.Inverse.{Inverse}

-- either way round
pub turned : {there back : ℕ → ℕ} → Inverse there back → Inverse back there
turned law = record { there_to_blocks = law.back_to_blocks; back_to_blocks = law.there_to_blocks; back_undoes = law.there_undoes; there_undoes = law.back_undoes }

-- different blocks have different images
pub apart : {there back : ℕ → ℕ} → Inverse there back → (a b : ℕ) → Block a → Block b → there a ≡ there b → a ≡ b
apart {there} {back} law a b ha hb e = sym (law.back_undoes a ha) ∙ ap back e ∙ law.back_undoes b hb
