-- The words of a line, which a space parts from one another.
-- Words: onto_first, split_words, filled, all_filled, five_words, parts, unended.
use Rattle.std.specs.Prelude.{ℕ, ◌-◌, Bool, true, false, cond, ◌&&◌, List, [], ◌∷◌, ◌++◌, length, take, Some, None, Option, ◌==◌, slice_index}
use Rattle.questions.specs.declared.words.Words.{Words}

-- some bytes in front of the first of some words
abbrev pub onto_first : List ℕ → List (List ℕ) → List (List ℕ)
onto_first front [] = front ∷ []
onto_first front (word ∷ words) = (front ++ word) ∷ words

-- a line split at every space: one word more than it has spaces, and some of them may be empty
unfoldable pub split_words : List ℕ → List (List ℕ)
split_words [] = [] ∷ []
split_words (c ∷ line) = cond (c == 32) ([] ∷ split_words line) (onto_first (c ∷ []) (split_words line))

abbrev pub filled : List ℕ → Bool
filled [] = false
filled (c ∷ word) = true

abbrev pub all_filled : List (List ℕ) → Bool
all_filled [] = true
all_filled (word ∷ words) = filled word && all_filled words

-- the words of a line where they are five and none is empty
unfoldable pub five_words : List ℕ → Option (List (List ℕ))
five_words line = cond (length (split_words line) == 5 && all_filled (split_words line)) (Some (split_words line)) None

-- which field holds which word
abbrev pub parts : Words → List (List ℕ)
parts words = words.cipher.now ∷ words.operation.now ∷ words.key.now ∷ words.start.now ∷ words.text.now ∷ []

-- a line without the newline, byte 10, that may end it
abbrev pub unended : List ℕ → List ℕ
unended line = cond (slice_index line (length line - 1) == 10) (take (length line - 1) line) line
