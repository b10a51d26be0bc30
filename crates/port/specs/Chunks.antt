-- What is taken out of a ring in chunks, and handed on one by one (profile).
use Rattle.std.specs.Prelude.{◌≡◌, ℕ, ◌-◌, ◌<◌, List, [], ◌∷◌, ◌++◌, length, take, get_or}
use Rattle.rtrb.specs.Fifo.{Allowed}
use Rattle.port.specs.Arrivals.{CarriedValue, End, marks_of}
use Rattle.port.specs.Rings.{RingId}

-- a ring's receiving end: which ring it is, and what was handed on, oldest first
pub record ReaderValue : Type 0 where
  pub ring : RingId
  pub handed : List CarriedValue

-- what was handed on of what came out of a ring, where these, the last of it, wait still
abbrev pub handed_on : List CarriedValue → List CarriedValue → List CarriedValue
handed_on received waiting = take (length received - length waiting) received

-- Those that wait are the last that came out, and none of them stands behind an end mark.
pub record AreWaiting (received waiting : List CarriedValue) : Type 0 where
  pub last : received ≡ handed_on received waiting ++ waiting
  pub unmarked : Allowed (λ before _. marks_of before ≡ 0) (handed_on received waiting) waiting

-- What was handed on last stands in the chunk right before those that wait; nothing was handed on where nothing stands there.
pub record IsLastOf (chunk : List CarriedValue) (passed : ℕ) (handed : List CarriedValue) : Type 0 where
  pub none : passed ≡ 0 → handed ≡ []
  pub last : 0 < passed → (before : List CarriedValue) × (handed ≡ before ++ get_or chunk (passed - 1) End ∷ [])
