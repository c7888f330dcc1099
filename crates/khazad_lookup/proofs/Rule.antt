-- The rule of the tables: from one computed test over all their entries, and at each entry.
use Rattle.std.proofs.Common.{◌≡◌, ℕ, ◌<◌, Bool, true, false, ◌&&◌, List, [], ◌∷◌, map, get_or, refl, ap, ◌∙◌, ap₂, arith}
use Rattle.std.proofs.lemmas.List.FromFn.{get_or-map-range_with_len}
use Rattle.std.proofs.lemmas.Slice.Eq.{bytes_eq-Decides}
use Rattle.std.proofs.lemmas.Bool.{and_parts}
use Rattle.std.specs.List.{range_with_len}
use Rattle.std.specs.Str.{bytes_eq}
use Rattle.khazad_lookup.specs.Table.{table_entry, tables_by_rule}

-- whether some tables and others have the same entries, each at each place
abbrev pub same_entries : List (List ℕ) → List (List ℕ) → Bool
same_entries [] [] = true
same_entries [] (u ∷ us) = false
same_entries (t ∷ ts) [] = false
same_entries (t ∷ ts) (u ∷ us) = bytes_eq t u && same_entries ts us

-- tables that pass the test are the same
pub tested_tables : (ts us : List (List ℕ)) → same_entries ts us ≡ true → ts ≡ us
tested_tables [] [] h = refl
tested_tables [] (u ∷ us) h = absurd (let no : ◌≡◌ {A = ℕ} 0 1 = cc in omega arith)
tested_tables (t ∷ ts) [] h = absurd (let no : ◌≡◌ {A = ℕ} 0 1 = cc in omega arith)
tested_tables (t ∷ ts) (u ∷ us) h =
    let both = and_parts (bytes_eq t u) (same_entries ts us) h in
    ap₂ {C = List (List ℕ)} (λ v vs. v ∷ vs) ((bytes_eq-Decides t u).0 both.0) (tested_tables ts us both.1)

pub each_entry : (tables : List (List ℕ)) → tables ≡ tables_by_rule → (k x : ℕ) → k < 8 → x < 256 → get_or (get_or tables k []) x 0 ≡ table_entry k x
unfolding tables_by_rule
each_entry tables rule k x hk hx =
    ap (λ ts. get_or (get_or ts k []) x 0) rule
    ∙ ap (λ t. get_or t x 0) (get_or-map-range_with_len (λ k. map (table_entry k) (range_with_len 0 256)) 0 8 k k [] hk (omega arith))
    ∙ get_or-map-range_with_len (table_entry k) 0 256 x x 0 hx (omega arith)
