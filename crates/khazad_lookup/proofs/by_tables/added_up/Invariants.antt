use Rattle.std.proofs.Common.{◌≡◌, ℕ, ◌<◌, drop}
use lib.Bits.{bit_xor}
use Rattle.khazad_lookup.specs.Table.{added}
use Rattle.khazad_lookup.proofs.by_tables.added_up.Given as goal

-- the sum so far and what the bytes that are left will add
abbrev pub invariant-loop-k : goal.invariant-loop-k
invariant-loop-k g l =
    (f : ℕ → ℕ → ℕ) → ((k x r : ℕ) → k < 8 → x < 256 → goal.F-post g l.part k x r → r ≡ f k x) → bit_xor l.sum (added f l.k (drop l.k l.x-items)) ≡ added f 0 l.x-items
