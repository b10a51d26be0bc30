-- What a tick does (profile).
use Rattle.std.specs.Prelude.{◌≡◌, ℕ, suc, List, [], ◌∷◌, MatchBool}
use Rattle.mux.specs.History.{History}
use Rattle.mux.specs.Answers.{SendAnswers, SlotAnswers}
use Rattle.mux.specs.declared.sending.Sending.{Sending}
use Rattle.mux.specs.declared.slot.Slot.{Slot}
use Rattle.station.specs.Stations.{Input, StationValue}
use Rattle.station.specs.Moving.{MovesIn}

-- of an open input packets were moved in, and nothing of a closed one
abbrev pub Moves : ℕ → ℕ → History → Input → History → Input → Type 0
Moves i most old x new y = MatchBool x.is_closed ((new ≡ old) × (y ≡ x)) (MovesIn i most old x new y)

-- the same of these inputs in turn, of which the first has the number i
abbrev pub MovesAll : ℕ → ℕ → History → List Input → History → List Input → Type 0
MovesAll i most old [] new ys = (new ≡ old) × (ys ≡ [])
MovesAll i most old (x ∷ xs) new ys =
    (between : History) × (y : Input) × (rest : List Input) × (ys ≡ y ∷ rest) × Moves i most old x between y × MovesAll (suc i) most between xs new rest

-- What the rings showed was moved in, input 0 first, at most as many packets an input as a ring has room for; and then the
-- multiplex answered for the next slot.
pub record Ticks (old : StationValue) (answer : Sending) (new : StationValue) : Type 0 where
  pub between : History
  pub moves : MovesAll 0 old.history.run.schedule.first.request.ring old.history old.inputs between new.inputs
  pub sends : SendAnswers between answer new.history

-- The same where the answer has the packet of a slot that is sent.
pub record TicksWith (old : StationValue) (answer : Slot) (new : StationValue) : Type 0 where
  pub between : History
  pub moves : MovesAll 0 old.history.run.schedule.first.request.ring old.history old.inputs between new.inputs
  pub sends : SlotAnswers between answer new.history
