-- The refusals in words, as they are printed.
-- Words: reason_of, text_of.
-- Assumes nothing.
use Rattle.std.specs.Prelude.{ℕ, List, ◌++◌, codes, decimal}
use Rattle.refusal.specs.Numbers.{number_of}
use Rattle.refusal.specs.declared.cause.Refusal.{Refusal}
use Rattle.refusal.specs.declared.cause.Refusal.TheVariants.{CapOutOfRange, IdleLimitOutOfRange, LastSessionOutOfRange, ClientIsZero, KeysEqual, SessionOutOfRange, StratumOrLeapOutOfRange, WorkBufferTooShort, FrameBufferTooShort, FrameLengthWrong, FrameNumberOutOfRange, TagDiffers, BodyIsNoRecord, NotWholeBlocks, TimeBeforeLatest, ClientHasSession, Full, SessionNumbersUsedUp, SessionNotStanding, FrameNumbersUsedUp, OtherSessionOrKeys, NumberTaken, NumberTooOld}

-- the cause in words
abbrev pub reason_of : Refusal → List ℕ
reason_of CapOutOfRange = codes "the cap of a head is outside 1 to 256"
reason_of IdleLimitOutOfRange = codes "the idle limit is outside 1 to 86,400 seconds"
reason_of LastSessionOutOfRange = codes "the last session number used is above 1,099,511,627,775"
reason_of ClientIsZero = codes "the client number is 0"
reason_of KeysEqual = codes "the sealing key and the check key have equal bytes"
reason_of SessionOutOfRange = codes "the session number is 0 or above 1,099,511,627,775"
reason_of StratumOrLeapOutOfRange = codes "the stratum is outside 1 to 16, or the leap indicator outside 0 to 3"
reason_of WorkBufferTooShort = codes "the work buffer has under 40 bytes"
reason_of FrameBufferTooShort = codes "the frame buffer is too short for this frame"
reason_of FrameLengthWrong = codes "the length of a frame is outside 24 to 56 bytes, or not whole blocks"
reason_of FrameNumberOutOfRange = codes "the frame number is outside 1 to 1,048,576"
reason_of TagDiffers = codes "the tag is not that of the frame"
reason_of BodyIsNoRecord = codes "the body is no record"
reason_of NotWholeBlocks = codes "the buffer is not whole blocks"
reason_of TimeBeforeLatest = codes "the time is before the latest time"
reason_of ClientHasSession = codes "the client has a standing session"
reason_of Full = codes "as many sessions stand as the cap allows"
reason_of SessionNumbersUsedUp = codes "the session numbers are used up"
reason_of SessionNotStanding = codes "the session does not stand"
reason_of FrameNumbersUsedUp = codes "1,048,576 frames were posted in the session"
reason_of OtherSessionOrKeys = codes "the frame is of another session, or was vouched for under other keys"
reason_of NumberTaken = codes "a frame of this number was taken already"
reason_of NumberTooOld = codes "the number is 64 or more below the highest taken"

-- what is printed: the number of the refusal, and its cause in words
abbrev pub text_of : Refusal → List ℕ
text_of refusal = codes "refusal " ++ (decimal (number_of refusal) ++ (codes ": " ++ reason_of refusal))
