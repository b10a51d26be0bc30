-- A step of a run (profile).
use Rattle.std.specs.Prelude.{◌≡◌, ◌≢◌, ℕ, List, Option, Some, slice_set}
use Rattle.std.specs.List.{slice_get}
use Rattle.tspkt.specs.declared.stamped.Stamped.{Stamped}
use Rattle.schedule.specs.Schedule.{ScheduleValue}
use Rattle.mux.specs.History.{History}
use Rattle.mux.specs.Answers.{IsRunning, IsUnswitched, IsLeastUnready, SendAnswers}
use Rattle.mux.specs.declared.sending.Sending.TheVariants as sending
use Rattle.inlets.specs.declared.entry.Entry.{Entry}
use Rattle.inlets.specs.declared.step.Step.{Step}
use Rattle.inlets.specs.declared.step.Step.TheVariants as steps
use Rattle.inlets.specs.declared.taking.Taking.{Taking}
use Rattle.inlets.specs.declared.taking.Taking.TheVariants as turn
use Rattle.inlets.specs.Turns.{Turns}

-- The multiplex waits for this input, the first that isn't ready, and the input had its turn.
pub record HasTurn {I : Type 0} (shown : I → Option Stamped) (is_over is_waiting : I → Type 0) (looks : ScheduleValue → I → I → Type 0) (released : I → I) (i : ℕ) (old : History) (xs : List (Entry I)) (answer : Taking) (new : History) (ys : List (Entry I)) : Type 0 where
  pub running : IsRunning old
  pub unswitched : IsUnswitched old
  pub unready : IsLeastUnready old i
  pub before : Entry I
  pub after : Entry I
  pub there : slice_get xs i ≡ Some before
  pub entries : ys ≡ slice_set xs i after
  pub turns : Turns shown is_over is_waiting looks released i old before answer new after

-- What the multiplex answered for the next slot; or what came of the input's turn that it waits for.
abbrev pub Steps : {I : Type 0} → (I → Option Stamped) → (I → Type 0) → (I → Type 0) → (ScheduleValue → I → I → Type 0) → (I → I) → History → List (Entry I) → Step → History → List (Entry I) → Type 0
Steps shown is_over is_waiting looks released old xs steps.Sent new ys = SendAnswers old sending.Sent new × (ys ≡ xs)
Steps shown is_over is_waiting looks released old xs steps.Switched new ys = SendAnswers old sending.Switched new × (ys ≡ xs)
Steps shown is_over is_waiting looks released old xs steps.Turned new ys =
    (i : ℕ) × (answer : Taking) × (answer ≢ turn.Waits) × HasTurn shown is_over is_waiting looks released i old xs answer new ys
Steps shown is_over is_waiting looks released old xs (steps.Waits i) new ys = HasTurn shown is_over is_waiting looks released i old xs turn.Waits new ys
Steps shown is_over is_waiting looks released old xs steps.Done new ys = SendAnswers old sending.Done new × (ys ≡ xs)
Steps shown is_over is_waiting looks released old xs steps.RunFull new ys = SendAnswers old sending.RunFull new × (ys ≡ xs)
