-- Laws of hexadecimal digits: reading pair by pair, writing byte by byte, and that reading undoes writing.
use Rattle.std.proofs.Common.{◌≡◌, ℕ, zero, suc, ◌+◌, ◌-◌, ◌*◌, ◌/◌, ◌%◌, ◌^◌, ◌<◌, ◌≤◌, false, eqb, List, [], ◌∷◌, ◌++◌, length, length-set, get_or, set, take, drop, Some, None, codes, Option, sym, refl, ap, ap₂, ◌∙◌, append_assoc, arith, w8, Fits}
use Rattle.std.proofs.lemmas.Grind.{take-set_at}
use mir.Facts.{Fits-lt-pow}
use Rattle.std.proofs.lemmas.List.Elements.{All-from_get_or, All-head, All-tail}
use Rattle.std.specs.List.{All}
use Rattle.std.specs.Str.{IsAscii}
use Rattle.std.proofs.lemmas.Fmt.{hex_byte}
use Rattle.std.proofs.lemmas.List.{take_rest, take_more, take_all}
use Rattle.std.proofs.lemmas.Bool.{cond-false, and_right}
use Rattle.std.proofs.lemmas.Bool.Decides.{nat_tests}
use Rattle.std.specs.Fmt.{digits, padded_integral, format_spec}
use Rattle.std.specs.Option.{option_map}
use Rattle.hexadecimal.specs.Hex.{digit, pair, before, unhex, mark, hex, word_bytes, shown_bytes}

-- ---- reading

-- bytes that are read already, in front of those that are to come
abbrev pub behind : List ℕ → Option (List ℕ) → Option (List ℕ)
behind front rest = option_map (λ bytes. front ++ bytes) rest

behind_before : (front : List ℕ) (byte : ℕ) (rest : Option (List ℕ)) → behind (front ++ byte ∷ []) rest ≡ behind front (before (Some byte) rest)
behind_before front byte None = refl
behind_before front byte (Some bytes) = ap Some (append_assoc front (byte ∷ []) bytes)

first_two : (text : List ℕ) → 2 ≤ length text → unhex text ≡ before (pair (digit (get_or text 0 0)) (digit (get_or text 1 0))) (unhex (drop 2 text))
unfolding unhex
first_two [] h = absurd (omega arith)
first_two (high ∷ []) h = absurd (omega arith)
first_two (high ∷ low ∷ rest) h = refl

-- a pair of digits is one byte more
pub pair-is_a_byte_more : (front more text : List ℕ) (byte : ℕ) → 2 ≤ length text → Some byte ≡ pair (digit (get_or text 0 0)) (digit (get_or text 1 0)) → more ≡ front ++ byte ∷ [] → behind more (unhex (take (length text - 2) (drop 2 text))) ≡ behind front (unhex text)
pair-is_a_byte_more front more text byte h e pushed =
    ap (λ bytes. behind bytes (unhex (take (length text - 2) (drop 2 text)))) pushed ∙ ap (λ rest. behind (front ++ byte ∷ []) (unhex rest)) (take_rest text 2) ∙ behind_before front byte (unhex (drop 2 text)) ∙ ap (λ o. behind front (before o (unhex (drop 2 text)))) e ∙ ap (behind front) (sym (first_two text h))

-- ---- writing

hex-append : (front bytes : List ℕ) → hex (front ++ bytes) ≡ hex front ++ hex bytes
unfolding hex
hex-append [] bytes = refl
hex-append (byte ∷ front) bytes = ap (λ digits. mark (byte / 16) ∷ mark (byte % 16) ∷ digits) (hex-append front bytes)

-- one byte more is two digits more, as a `write!` of `{:02x}` would write them
pub hex-more : (bytes : List ℕ) (i : ℕ) → i < length bytes → get_or bytes i 0 < 256
    → hex (take i bytes) ++ padded_integral (format_spec 32 0 4 2 (2 ^ 64 - 1)) false [] (digits 16 false (get_or bytes i 0)) ≡ hex (take (i + 1) bytes)
unfolding hex
hex-more bytes i h small =
    ap (λ digits. hex (take i bytes) ++ digits) (hex_byte false (get_or bytes i 0) small) ∙
    sym (hex-append (take i bytes) (get_or bytes i 0 ∷ [])) ∙ ap hex (sym (take_more bytes i 0 h))

-- two marks more at the front of a text are one byte more
pub two_marks_more : (bytes text : List ℕ) (i high low : ℕ) → i < length bytes → 2 * i + 1 < length text → take (2 * i) text ≡ hex (take i bytes)
    → high ≡ mark (get_or bytes i 0 / 16) → low ≡ mark (get_or bytes i 0 % 16) → take (2 * (i + 1)) (set (set text (2 * i) high) (2 * i + 1) low) ≡ hex (take (i + 1) bytes)
unfolding hex
two_marks_more bytes text i high low h room so_far up down =
    let once = set text (2 * i) high in
    let same : length once ≡ length text = length-set text (2 * i) high in
    take-set_at once (2 * i + 1) (2 * (i + 1)) low (omega arith) (omega arith)
    ∙ ap (λ front. front ++ low ∷ []) (take-set_at text (2 * i) (2 * i + 1) high (omega arith) (omega arith))
    ∙ append_assoc (take (2 * i) text) (high ∷ []) (low ∷ [])
    ∙ ap₂ ◌++◌ so_far (ap₂ (λ x y. x ∷ y ∷ []) up down)
    ∙ sym (hex-append (take i bytes) (get_or bytes i 0 ∷ [])) ∙ ap hex (sym (take_more bytes i 0 h))

-- a piece of the bytes and those behind it
pub hex-pieces : (bytes piece rest : List ℕ) → bytes ≡ piece ++ rest → hex piece ++ hex rest ≡ hex bytes
hex-pieces bytes piece rest e = sym (hex-append piece rest) ∙ ap hex (sym e)

pub hex-all : (bytes : List ℕ) (i : ℕ) → length bytes ≤ i → hex (take i bytes) ≡ hex bytes
hex-all bytes i h = ap hex (take_all i bytes h)

-- after the last byte of a piece, all its digits stand at the front of the text
pub whole_piece : (piece text : List ℕ) (i : ℕ) → length piece ≤ i → i ≤ length piece → take (2 * i) text ≡ hex (take i piece) → take (2 * length piece) text ≡ hex piece
whole_piece piece text i h l so_far =
    let all : length piece ≡ i = omega arith in
    ap (λ n. take (2 * n) text) all ∙ so_far ∙ hex-all piece i h

-- ---- digits are ASCII

mark-small : (value : ℕ) → value < 16 → mark value < 128
mark-small value h = grind (arith, nat_tests)

pub hex-ascii : (bytes : List ℕ) → All (λ byte. byte < 256) bytes → IsAscii (hex bytes)
unfolding hex
hex-ascii [] h i = omega arith
hex-ascii (byte ∷ rest) h zero = mark-small (byte / 16) (omega (arith, All-head (λ b. b < 256) byte rest h))
hex-ascii (byte ∷ rest) h (suc zero) = mark-small (byte % 16) (omega arith)
hex-ascii (byte ∷ rest) h (suc (suc i)) = hex-ascii rest (All-tail (λ b. b < 256) byte rest h) i

-- ---- reading what was written

digit-of_mark : (value : ℕ) → value < 16 → digit (mark value) ≡ Some value
digit-of_mark value h = grind (arith, nat_tests)

pair-of_byte : (byte : ℕ) → byte < 256 → pair (digit (mark (byte / 16))) (digit (mark (byte % 16))) ≡ Some byte
pair-of_byte byte h =
    let high : byte / 16 < 16 = omega arith in
    let low : byte % 16 < 16 = omega arith in
    let whole : byte / 16 * 16 + byte % 16 ≡ byte = omega arith in
    ap (λ o. pair o (digit (mark (byte % 16)))) (digit-of_mark (byte / 16) high) ∙ ap (pair (Some (byte / 16))) (digit-of_mark (byte % 16) low) ∙ ap Some whole

pub all_bytes : (bytes : List ℕ) → ((i : ℕ) → Fits w8 (get_or bytes i 0)) → All (λ byte. byte < 256) bytes
all_bytes bytes fits = All-from_get_or (λ byte. byte < 256) bytes 0 (λ i h. Fits-lt-pow (fits i))

-- what is written as digits is read back
pub unhex-undoes_hex : (bytes : List ℕ) → All (λ byte. byte < 256) bytes → unhex (hex bytes) ≡ Some bytes
unfolding unhex hex
unhex-undoes_hex [] h = refl
unhex-undoes_hex (byte ∷ rest) h =
    ap (λ o. before o (unhex (hex rest))) (pair-of_byte byte (All-head (λ b. b < 256) byte rest h))
    ∙ ap (before (Some byte)) (unhex-undoes_hex rest (All-tail (λ b. b < 256) byte rest h))

pub no_bytes_are_a_dash : (bytes : List ℕ) → length bytes ≡ 0 → codes "-" ≡ shown_bytes bytes
unfolding shown_bytes
no_bytes_are_a_dash [] h = refl
no_bytes_are_a_dash (byte ∷ bytes) h = absurd (omega arith)

pub some_bytes_are_digits : (bytes : List ℕ) → (length bytes ≡ 0 → ⊥) → hex bytes ≡ shown_bytes bytes
unfolding shown_bytes
some_bytes_are_digits [] h = absurd (h refl)
some_bytes_are_digits (byte ∷ bytes) h = refl

-- what is written as a word is read back: of some bytes it is two digits or more, and no dash
pub reading_undoes_showing : (bytes : List ℕ) → All (λ byte. byte < 256) bytes → word_bytes (shown_bytes bytes) ≡ Some bytes
unfolding shown_bytes word_bytes hex
reading_undoes_showing [] h = refl
reading_undoes_showing (byte ∷ bytes) h = cond-false _ _ _ (and_right (eqb (mark (byte / 16)) 45) _ refl) ∙ unhex-undoes_hex (byte ∷ bytes) h
