-- How a station goes on as far as its rings show (profile).
use Rattle.std.specs.Prelude.{◌≡◌, ◌⊎◌, ℕ, zero, suc, ◌≤◌, List, [], ◌∷◌, ◌++◌, Some, None, slice_set}
use Rattle.std.specs.List.{slice_get}
use Rattle.mux.specs.Answers.{IsRunning, IsUnswitched, IsLeastUnready, SendAnswers, SlotAnswers}
use Rattle.mux.specs.declared.sending.Sending.{Sending}
use Rattle.mux.specs.declared.sending.Sending.TheVariants as sending
use Rattle.mux.specs.declared.slot.Slot.TheVariants as slot
use Rattle.station.specs.Stations.{Input, StationValue}
use Rattle.station.specs.Moving.{TakesNext, ComesUntaken}

-- the next slot was sent, and carried this packet
pub record SendsSlot (old new : StationValue) (packet : List ℕ) : Type 0 where
  pub slot : SlotAnswers old.history (slot.Sent packet) new.history
  pub inputs : new.inputs ≡ old.inputs

-- The multiplex waited for this input, the first that isn't ready. Of it the packet that comes next was taken, or is held back, or
-- it was closed at its end mark. So each step changes the station.
pub record Pulls (i : ℕ) (old new : StationValue) : Type 0 where
  pub running : IsRunning old.history
  pub unswitched : IsUnswitched old.history
  pub unready : IsLeastUnready old.history i
  pub before : Input
  pub after : Input
  pub input : slice_get old.inputs i ≡ Some before
  pub inputs : new.inputs ≡ slice_set old.inputs i after
  pub pulled : TakesNext i old.history before new.history after ⊎ ComesUntaken i old.history before new.history after

-- the next plan came into force, and nothing was sent
pub record Switches (old new : StationValue) : Type 0 where
  pub switch : SendAnswers old.history sending.Switched new.history
  pub inputs : new.inputs ≡ old.inputs

-- one step, and what went out in it
abbrev pub IsStep : StationValue → StationValue → List (List ℕ) → Type 0
IsStep old new packets =
    ((packet : List ℕ) × (packets ≡ packet ∷ []) × SendsSlot old new packet)
    ⊎ ((packets ≡ []) × Switches old new)
    ⊎ ((i : ℕ) × (packets ≡ []) × Pulls i old new)

-- so many steps, one behind the other, and what went out in them
abbrev pub Steps : ℕ → StationValue → StationValue → List (List ℕ) → Type 0
Steps zero old new packets = (new ≡ old) × (packets ≡ [])
Steps (suc n) old new packets =
    (between : StationValue) × (earlier : List (List ℕ)) × (last : List (List ℕ))
    × Steps n old between earlier × IsStep between new last × (packets ≡ earlier ++ last)

-- No step can be done: nothing is left to send, or the run has all its slots, or the multiplex waits for an input of which no
-- packet is shown, and nothing is seen in its ring.
pub record IsStuck (answer : Sending) (s : StationValue) : Type 0 where
  pub answers : SendAnswers s.history answer s.history
  pub unheld : (i : ℕ) (x : Input) → answer ≡ sending.NotReady i → slice_get s.inputs i ≡ Some x → x.inlet.head ≡ None

-- A station went on by at most so many steps: by all of them, which is answered as `Sent`, or until no step can be done.
pub record Advances (most : ℕ) (old : StationValue) (answer : Sending) (new : StationValue) (packets : List (List ℕ)) : Type 0 where
  pub count : ℕ
  pub within : count ≤ most
  pub steps : Steps count old new packets
  pub ends : ((answer ≡ sending.Sent) × (count ≡ most)) ⊎ IsStuck answer new

-- The same, and the packets that went out stand behind those before.
pub record AdvancesBehind (most : ℕ) (old : StationValue) (before : List (List ℕ)) (answer : Sending) (new : StationValue) (after : List (List ℕ)) : Type 0 where
  pub packets : List (List ℕ)
  pub behind : after ≡ before ++ packets
  pub advances : Advances most old answer new packets
