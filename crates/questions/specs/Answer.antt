-- What is answered to a line of five words: cipher, operation, key, starting block and text.
--   engine_of                 the engine that a word names
--   operation_of              the operation that a word names, with the bytes of its starting block
--   exactly                   the bytes of a word that writes just as many
--   question_of               the question that five words ask, if they ask one
--   mode_of                   what a mode does to blocks, under a cipher's two maps at a key
--   Said, said                a reply by its contents
--   said_by                   what is said to an operation on a text, under a cipher's two maps
--   answer_to                 what is said to a line
-- Assumes nothing.
use Rattle.std.specs.Prelude.{ℕ, cond, List, [], length, Some, None, Ok, Err, vec_items, codes, Option, Result, ◌==◌, slice_index_or}
use Rattle.std.specs.Str.{bytes_eq}
use Rattle.cipher.specs.Block.{be_bytes, be_number}
use Rattle.hexadecimal.specs.Hex.{word_bytes}
use Rattle.khazad.specs.Khazad as khazad
use Rattle.modes.specs.Cbc.{cbc_enciphered, cbc_deciphered}
use Rattle.modes.specs.Cmac.{CMAC}
use Rattle.modes.specs.Ecb.{ecb}
use Rattle.modes.specs.InPlace.{answered, left_by}
use Rattle.refusal.specs.declared.cause.Refusal.{Refusal}
use Rattle.questions.specs.Words.{five_words}
use Rattle.questions.specs.declared.question.Engine.{Engine}
use Rattle.questions.specs.declared.question.Engine.TheVariants.{KhazadField}
use Rattle.questions.specs.declared.question.Mode.{Mode}
use Rattle.questions.specs.declared.question.Mode.TheVariants.{EcbEncipher, EcbDecipher, CbcEncipher, CbcDecipher}
use Rattle.questions.specs.declared.question.Operation.{Operation}
use Rattle.questions.specs.declared.question.Operation.TheVariants.{InPlace, Cmac}
use Rattle.questions.specs.declared.question.Question.{Question}
use Rattle.questions.specs.declared.reply.Reply.{Reply}
use Rattle.questions.specs.declared.reply.Reply.TheVariants.{Bytes, Refused, NotUnderstood}

-- ---- what words say

abbrev pub engine_of : List ℕ → Option Engine
engine_of word = cond (bytes_eq word (codes "khazad-field")) (Some KhazadField) None

-- the operations that take no starting block
abbrev pub unchained_of : List ℕ → Option Operation
unchained_of word =
    cond (bytes_eq word (codes "ecb-encipher")) (Some (InPlace EcbEncipher))
    (cond (bytes_eq word (codes "ecb-decipher")) (Some (InPlace EcbDecipher)) (cond (bytes_eq word (codes "cmac")) (Some Cmac) None))

-- those that take one, at that block
abbrev pub chained_of : List ℕ → ℕ → Option Operation
chained_of word start =
    cond (bytes_eq word (codes "cbc-encipher")) (Some (InPlace (CbcEncipher start)))
    (cond (bytes_eq word (codes "cbc-decipher")) (Some (InPlace (CbcDecipher start))) None)

-- a starting block is eight bytes; any other number of bytes but none is no starting block of any operation
unfoldable pub operation_of : List ℕ → List ℕ → Option Operation
operation_of word start =
    cond (length start == 0) (unchained_of word) (cond (length start == 8) (chained_of word (be_number start)) None)

-- bytes that are n
abbrev pub of_length : ℕ → Option (List ℕ) → Option (List ℕ)
of_length n None = None
of_length n (Some bytes) = cond (length bytes == n) (Some bytes) None

abbrev pub exactly : ℕ → List ℕ → Option (List ℕ)
exactly n word = of_length n (word_bytes word)

-- ---- the question

-- a question by its contents
pub record Asked : Type 0 where
  pub engine : Engine
  pub operation : Operation
  pub key : List ℕ
  pub text : List ℕ

abbrev pub contents : Question → Asked
contents q = record { engine = q.engine; operation = q.operation; key = q.key; text = vec_items q.text }

-- a question has all its parts
abbrev pub asked : Option Engine → Option Operation → Option (List ℕ) → Option (List ℕ) → Option Asked
asked None operation key text = None
asked (Some engine) None key text = None
asked (Some engine) (Some operation) None text = None
asked (Some engine) (Some operation) (Some key) None = None
asked (Some engine) (Some operation) (Some key) (Some text) = Some (record { engine = engine; operation = operation; key = key; text = text })

-- the operation that two words ask for, if the second writes bytes
abbrev pub operation_in : List ℕ → Option (List ℕ) → Option Operation
operation_in word None = None
operation_in word (Some start) = operation_of word start

unfoldable pub question_of : List (List ℕ) → Option Asked
question_of words =
    asked (engine_of (slice_index_or words 0 [])) (operation_in (slice_index_or words 1 []) (word_bytes (slice_index_or words 3 []))) (exactly 16 (slice_index_or words 2 [])) (word_bytes (slice_index_or words 4 []))

-- ---- the answer

-- a reply by its contents
pub data Said : Type 0 where
  bytes : List ℕ → Said
  refused : Refusal → Said
  not_understood : Said

abbrev pub said : Reply → Said
said (Bytes row) = bytes (vec_items row)
said (Refused refusal) = refused refusal
said NotUnderstood = not_understood

-- what is said where a call answered so and left these bytes
abbrev pub said_of : Result (Unit {0}) Refusal → List ℕ → Said
said_of (Ok _) left = bytes left
said_of (Err refusal) left = refused refusal

module _ (there back : ℕ → ℕ) where
  abbrev pub mode_of : Mode → List ℕ → List ℕ
  mode_of EcbEncipher = ecb there
  mode_of EcbDecipher = ecb back
  mode_of (CbcEncipher start) = cbc_enciphered there start
  mode_of (CbcDecipher start) = cbc_deciphered back start

  abbrev pub said_by : Operation → List ℕ → Said
  said_by (InPlace mode) text = said_of (answered text) (left_by (mode_of mode) text)
  said_by Cmac text = bytes (be_bytes 8 (CMAC there text))

-- the two maps of an engine
abbrev pub enciphered_by : Engine → List ℕ → ℕ → ℕ
enciphered_by KhazadField = khazad.enciphered

abbrev pub deciphered_by : Engine → List ℕ → ℕ → ℕ
deciphered_by KhazadField = khazad.deciphered

abbrev pub said_to : Option Asked → Said
said_to None = not_understood
said_to (Some q) = said_by (enciphered_by q.engine q.key) (deciphered_by q.engine q.key) q.operation q.text

abbrev pub said_to_words : Option (List (List ℕ)) → Said
said_to_words None = not_understood
said_to_words (Some words) = said_to (question_of words)

unfoldable pub answer_to : List ℕ → Said
answer_to line = said_to_words (five_words line)
