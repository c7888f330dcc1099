-- Bytes written as hexadecimal digits, and read back.
-- Words: digit, pair, before, unhex, mark, hex, word_bytes, shown_bytes.
use Rattle.std.specs.Prelude.{ℕ, ◌+◌, ◌-◌, ◌*◌, ◌/◌, ◌%◌, cond, List, [], ◌∷◌, Some, None, codes, Option, nat_lt}
use Rattle.std.specs.Int.{is_in_range}
use Rattle.std.specs.Str.{bytes_eq}

-- the value of a digit: `0` to `9`, `a` to `f` and `A` to `F`
abbrev pub digit : ℕ → Option ℕ
digit c = cond (is_in_range 48 57 c) (Some (c - 48)) (cond (is_in_range 97 102 c) (Some (c - 87)) (cond (is_in_range 65 70 c) (Some (c - 55)) None))

-- the byte of a high and a low digit, where both are digits
abbrev pub pair : Option ℕ → Option ℕ → Option ℕ
pair None low = None
pair (Some high) None = None
pair (Some high) (Some low) = Some (high * 16 + low)

-- a byte in front of other bytes, where both are known
abbrev pub before : Option ℕ → Option (List ℕ) → Option (List ℕ)
before None rest = None
before (Some byte) None = None
before (Some byte) (Some rest) = Some (byte ∷ rest)

-- the bytes that a text of digits writes, two digits a byte
unfoldable pub unhex : List ℕ → Option (List ℕ)
unhex [] = Some []
unhex (c ∷ []) = None
unhex (high ∷ low ∷ rest) = before (pair (digit high) (digit low)) (unhex rest)

-- the digit of a value below 16, in lower case
abbrev pub mark : ℕ → ℕ
mark value = cond (nat_lt value 10) (48 + value) (87 + value)

-- bytes as text, two digits a byte
unfoldable pub hex : List ℕ → List ℕ
hex [] = []
hex (byte ∷ rest) = mark (byte / 16) ∷ mark (byte % 16) ∷ hex rest

-- the bytes of a word: `-` stands for none, and an empty word for nothing at all
unfoldable pub word_bytes : List ℕ → Option (List ℕ)
word_bytes [] = None
word_bytes (c ∷ cs) = cond (bytes_eq (c ∷ cs) (codes "-")) (Some []) (unhex (c ∷ cs))

-- the word of some bytes
unfoldable pub shown_bytes : List ℕ → List ℕ
shown_bytes [] = codes "-"
shown_bytes (byte ∷ rest) = hex (byte ∷ rest)
