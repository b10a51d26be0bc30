-- What was read of a stream, and which items it has (profile).
use Rattle.std.specs.Prelude.{◌≡◌, ℕ, ◌<◌, ◌≤◌, List, [], ◌++◌, length, Option, Some, None, Result, Ok, Err, MatchOption}
use Rattle.std.specs.Io.KnownBytes.{Consumes, IsAtEnd}
use Rattle.tspkt.specs.Framed.{FramerState, framed, seen, packets_of, still_to_tell, HasToldAll, IsFramedSoFar}
use Rattle.tspkt.specs.declared.item.Item.{Item}
use Rattle.reading.specs.Failures.{FailsOnce}
use Rattle.reading.specs.declared.stop.Stop.{Stop}
use Rattle.reading.specs.declared.stop.Stop.TheVariants.{Gate, ReadFailed, TooMuch}
use Rattle.reading.specs.declared.stream_reader.StreamReader.{StreamReader}

-- A stream that is or was read: the most bytes that it may have, its framer while it is still read, the items that were told,
-- the bytes that were read, those that its source has left, where they are known, and what stopped it, if anything.
pub record StreamState : Type 0 where
  pub limit : ℕ
  pub framer : Option FramerState
  pub told : List Item
  pub bytes : List ℕ
  pub left : Option (List ℕ)
  pub stopped : Option Stop

-- Packets stand `stride` bytes apart.

-- The packets of these items begin those of the bytes, whatever follows them.
abbrev pub BeginsPackets : ℕ → List ℕ → List Item → Type 0
BeginsPackets stride bytes items =
    (more : List ℕ) → (later : List (ℕ × List ℕ)) × (packets_of items ++ later ≡ packets_of (framed stride (bytes ++ more)))

-- These items begin the framing of the bytes, whatever follows them; at the end nothing does.
abbrev pub BeginsFramed : ℕ → List ℕ → Type 0 → List Item → Type 0
BeginsFramed stride bytes at_end items =
    (more : List ℕ) → (at_end → more ≡ []) → (later : List Item) × (items ++ later ≡ framed stride (bytes ++ more))

-- These items are all that the bytes decide: whichever begin their framing whatever follows them are among them, from the
-- first on.
abbrev pub AreAllDecided : ℕ → List ℕ → List Item → Type 0
AreAllDecided stride bytes told = (items : List Item) → BeginsFramed stride bytes ⊥ items → (later : List Item) × (told ≡ items ++ later)

-- It is still read: what was told is, with what the framer has left to tell, the framing of the bytes so far and of whatever
-- follows them; no packet of the bytes so far is left to tell, nor any other item that they decide.
pub record IsReading (stride : ℕ) (s : StreamState) (f : FramerState) : Type 0 where
  pub stride_is : f.stride ≡ stride
  pub seen_is : seen f ≡ length s.bytes
  pub within : length s.bytes ≤ s.limit
  pub same : IsFramedSoFar f s.told s.bytes
  pub prompt : packets_of (still_to_tell f []) ≡ []
  pub told_all : HasToldAll f
  pub goes_on : s.stopped ≡ None

-- All packets of these bytes were told, and all items that they decide.
pub record IsAllTold (stride : ℕ) (bytes : List ℕ) (told : List Item) : Type 0 where
  pub packets : packets_of told ≡ packets_of (framed stride bytes)
  pub all : AreAllDecided stride bytes told

-- It is read no more: what was told is all of the framing of its bytes where nothing stopped it, and it is at its end then;
-- else it is a beginning.
pub record IsOver (stride : ℕ) (s : StreamState) : Type 0 where
  pub packets : BeginsPackets stride s.bytes s.told
  pub begun : BeginsFramed stride s.bytes (IsAtEnd s.left) s.told
  pub inside : (inside : List ℕ) × (later : List Item) × (length inside ≤ s.limit) × (s.told ++ later ≡ framed stride inside)
  pub ended : s.stopped ≡ None → (s.told ≡ framed stride s.bytes) × IsAtEnd s.left
  -- it is told as too long exactly where more bytes were read than it may have
  pub too_much : s.stopped ≡ Some TooMuch → s.limit < length s.bytes
  pub within : (s.stopped ≡ Some TooMuch → ⊥) → length s.bytes ≤ s.limit
  -- a failed read loses no packet of the bytes before it, nor any other item that they decide
  pub failed : s.stopped ≡ Some ReadFailed → IsAllTold stride s.bytes s.told

abbrev pub HasTold : ℕ → StreamState → Type 0
HasTold stride s = MatchOption s.framer (IsOver stride s) (IsReading stride s)

-- Of the stream these bytes were read and these items were taken, and this stopped it, if anything.
abbrev pub HasPassed : {R : Type 0} → (R → Option (List ℕ)) → ℕ → StreamReader R → List ℕ → Option Stop → List Item → Type 0
HasPassed remaining stride x bytes stopped passed = HasTold stride (record {
  limit = x.items.limit;
  framer = x.items.framer;
  told = passed ++ x.items.ahead;
  bytes = bytes;
  left = remaining x.source;
  stopped = stopped;
})

-- what stops a stream once a read has this result
abbrev pub stopped_by : Result (Unit {0}) Stop → Option Stop → Option Stop
stopped_by (Ok done) stopped = stopped
stopped_by (Err stop) stopped = Some stop

-- Some bytes more were read of the stream, and no item was taken.
abbrev pub ReadsMore : {R : Type 0} → (R → Option (List ℕ)) → StreamReader R → StreamReader R → Result (Unit {0}) Stop → Type 0
ReadsMore remaining old new result =
    (stride : ℕ) (bytes : List ℕ) (stopped : Option Stop) (passed : List Item) → HasPassed remaining stride old bytes stopped passed
    → (more : List ℕ) × Consumes (remaining old.source) (remaining new.source) more
    × HasPassed remaining stride new (bytes ++ more) (stopped_by result stopped) passed

-- A failed read is told exactly where the source failed once more, and a run's end stops no read.
pub record ToldOfRead {R : Type 0} (failures : R → ℕ) (old new : StreamReader R) (result : Result (Unit {0}) Stop) : Type 0 where
  pub failed : result ≡ Err ReadFailed → FailsOnce (failures old.source) (failures new.source)
  pub unfailed : (result ≡ Err ReadFailed → ⊥) → failures new.source ≡ failures old.source
  pub going : result ≡ Err Gate → ⊥
