-- The text of a reply, and the count of replies.
-- Words: shown, none_counted, one_more, counted, tally_line.
use Rattle.std.specs.Prelude.{ℕ, ◌+◌, ◌-◌, ◌^◌, min, List, ◌++◌, vec_items, codes, decimal}
use Rattle.hexadecimal.specs.Hex.{shown_bytes}
use Rattle.refusal.specs.Numbers.{number_of}
use Rattle.questions.specs.declared.reply.Reply.{Reply}
use Rattle.questions.specs.declared.reply.Reply.TheVariants.{Bytes, Refused, NotUnderstood}
use Rattle.questions.specs.declared.reply.Tally.{Tally}

-- the text of a reply: its bytes as a word, `!` and the number of a refusal, or `?`
abbrev pub shown : Reply → List ℕ
shown (Bytes bytes) = shown_bytes (vec_items bytes)
shown (Refused refusal) = codes "!" ++ decimal (number_of refusal)
shown NotUnderstood = codes "?"

abbrev pub none_counted : Tally
none_counted = record { answered = 0; refused = 0; not_understood = 0 }

-- one more, as far as 64 bits can count
abbrev pub one_more : ℕ → ℕ
one_more n = min (n + 1) (2 ^ 64 - 1)

-- a tally with one reply more, which is counted as what it is and as nothing else
abbrev pub counted : Tally → Reply → Tally
counted tally (Bytes bytes) = record { answered = one_more tally.answered; refused = tally.refused; not_understood = tally.not_understood }
counted tally (Refused refusal) = record { answered = tally.answered; refused = one_more tally.refused; not_understood = tally.not_understood }
counted tally NotUnderstood = record { answered = tally.answered; refused = tally.refused; not_understood = one_more tally.not_understood }

-- the line that a tally prints
abbrev pub tally_line : Tally → List ℕ
tally_line tally = decimal tally.answered ++ (codes " answered, " ++ (decimal tally.refused ++ (codes " refused, " ++ (decimal tally.not_understood ++ codes " not understood"))))
