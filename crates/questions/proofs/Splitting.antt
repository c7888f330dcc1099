-- Laws of a line that is split at its spaces: where its first word ends, and that six words are no five.
use Rattle.std.proofs.Common.{◌≡◌, ℕ, ◌+◌, ◌-◌, ◌<◌, ◌≤◌, Bool, false, eqb, List, [], ◌∷◌, length, take, drop, Some, None, Option, sym, refl, ap, ◌∙◌, subst, cond, ltb, arith}
use Rattle.std.proofs.lemmas.Bool.{cond-false, cond_both, ltb-true, ltb-false, ne_eqb, and_left}
use Rattle.std.proofs.lemmas.List.{take_rest}
use Rattle.std.proofs.lemmas.List.Elements.{All-from_get_or}
use Rattle.std.proofs.lemmas.List.Splits.{slice_split_first, slice_split_none, length-slice_split}
use Rattle.std.proofs.lemmas.List.Sums.{fails_before_first}
use Rattle.std.specs.List.{slice_split, position, position_or_len}
use Rattle.std.specs.List as std
use Rattle.questions.specs.Words.{onto_first, split_words, all_filled, five_words}

-- whether a byte is a space
abbrev pub is_space : ℕ → Bool
is_space c = eqb c 32

-- the library puts one byte in front of the first word as this crate does
onto_first-same : (c : ℕ) (words : List (List ℕ)) → onto_first (c ∷ []) words ≡ std.onto_first c words
onto_first-same c [] = refl
onto_first-same c (word ∷ words) = refl

-- the words of a line are its parts between spaces, in the library's words
split_words-slice_split : (line : List ℕ) → split_words line ≡ slice_split is_space line
unfolding split_words
split_words-slice_split [] = refl
split_words-slice_split (c ∷ line) =
    ap (λ words. cond (is_space c) ([] ∷ words) (onto_first (c ∷ []) words)) (split_words-slice_split line)
    ∙ ap (λ words. cond (is_space c) ([] ∷ slice_split is_space line) words) (onto_first-same c (slice_split is_space line))

-- the first space ends the first word
space_ends_the_word : (line : List ℕ) → position_or_len is_space line < length line
    → split_words line ≡ take (position_or_len is_space line) line ∷ split_words (take (length line - (position_or_len is_space line + 1)) (drop (position_or_len is_space line + 1) line))
space_ends_the_word line h =
    let i = position_or_len is_space line in
    split_words-slice_split line ∙ slice_split_first is_space line 0 h ∙ ap (λ words. take i line ∷ words) (sym (split_words-slice_split (drop (i + 1) line)))
    ∙ ap (λ rest. take i line ∷ split_words rest) (sym (take_rest line (i + 1)))

-- with no space the line is one word
no_space_is_one_word : (line : List ℕ) → length line ≤ position_or_len is_space line → split_words line ≡ line ∷ []
no_space_is_one_word line h =
    split_words-slice_split line ∙ slice_split_none is_space line (All-from_get_or (λ c. is_space c ≡ false) line 0 (λ k below. fails_before_first is_space line k 0 (omega arith)))

-- what the words of a line are where its first space is at a place, or where it has none
abbrev pub CutAt : List ℕ → Option ℕ → Type 0
CutAt line None = split_words line ≡ line ∷ []
CutAt line (Some i) = split_words line ≡ take i line ∷ split_words (take (length line - (i + 1)) (drop (i + 1) line))

-- and `position` finds the first space
pub at_first_space : (line : List ℕ) (found : Option ℕ) → found ≡ position is_space line → CutAt line found
at_first_space line found e =
    let n = position_or_len is_space line in
    subst (CutAt line) (sym e)
    (cond_both (ltb n (length line)) (Some n) None (CutAt line) (λ t. space_ends_the_word line (ltb-true n (length line) t)) (λ t. no_space_is_one_word line (ltb-false n (length line) t)))

-- five words and a space are more than five words
pub six_or_more : (line a b c d e rest : List ℕ) → split_words line ≡ a ∷ b ∷ c ∷ d ∷ e ∷ split_words rest → None ≡ five_words line
unfolding five_words
six_or_more line a b c d e rest same =
    let more : length (split_words rest) ≡ std.count_by is_space rest + 1 = ap length (split_words-slice_split rest) ∙ length-slice_split is_space rest in
    let long = ap length same in
    let no : eqb (length (split_words line)) 5 ≡ false = ne_eqb (length (split_words line)) 5 (λ five. omega arith) in
    sym (cond-false _ _ _ (and_left _ (all_filled (split_words line)) no))
