-- The numbers of the refusals. 1 to 14 are refused because of what came in, 21 to 29 because of how things stand.
-- Assumes nothing.
use Rattle.std.specs.Prelude.{ℕ}
use Rattle.refusal.specs.declared.cause.Refusal.{Refusal}
use Rattle.refusal.specs.declared.cause.Refusal.TheVariants.{CapOutOfRange, IdleLimitOutOfRange, LastSessionOutOfRange, ClientIsZero, KeysEqual, SessionOutOfRange, StratumOrLeapOutOfRange, WorkBufferTooShort, FrameBufferTooShort, FrameLengthWrong, FrameNumberOutOfRange, TagDiffers, BodyIsNoRecord, NotWholeBlocks, TimeBeforeLatest, ClientHasSession, Full, SessionNumbersUsedUp, SessionNotStanding, FrameNumbersUsedUp, OtherSessionOrKeys, NumberTaken, NumberTooOld}

abbrev pub number_of : Refusal → ℕ
number_of CapOutOfRange = 1
number_of IdleLimitOutOfRange = 2
number_of LastSessionOutOfRange = 3
number_of ClientIsZero = 4
number_of KeysEqual = 5
number_of SessionOutOfRange = 6
number_of StratumOrLeapOutOfRange = 7
number_of WorkBufferTooShort = 8
number_of FrameBufferTooShort = 9
number_of FrameLengthWrong = 10
number_of FrameNumberOutOfRange = 11
number_of TagDiffers = 12
number_of BodyIsNoRecord = 13
number_of NotWholeBlocks = 14
number_of TimeBeforeLatest = 21
number_of ClientHasSession = 22
number_of Full = 23
number_of SessionNumbersUsedUp = 24
number_of SessionNotStanding = 25
number_of FrameNumbersUsedUp = 26
number_of OtherSessionOrKeys = 27
number_of NumberTaken = 28
number_of NumberTooOld = 29
