-- Steps of a run.
use Rattle.std.proofs.Common.{ℕ, ◌≡◌, ◌≢◌, ◌<◌, ◌⊎◌, Bool, true, false, ◌||◌, List, length, set, slice_get, get_or, Option, Some, refl, ap, sym, subst, ◌∙◌, arith, inl, inr}
use Rattle.std.proofs.lemmas.Option.{slice_get_read}
use Rattle.tspkt.specs.declared.stamped.Stamped.{Stamped}
use Rattle.schedule.specs.Schedule.{ScheduleValue}
use Rattle.mux.specs.declared.event.Event.{Event}
use Rattle.mux.specs.History.{History, is_closed, full_noted, early_noted}
use Rattle.mux.specs.Lawful.{input_count, is_ready}
use Rattle.mux.specs.Answers.{SendAnswers}
use Rattle.mux.specs.declared.sending.Sending.TheVariants as sending
use Rattle.inlets.specs.declared.entry.Entry.{Entry}
use Rattle.inlets.specs.declared.taking.Taking.{Taking}
use Rattle.inlets.specs.declared.taking.Taking.TheVariants as turn
use Rattle.inlets.specs.Turns.{Turns}
use Rattle.inlets.specs.Stepping.{HasTurn}

-- An input that isn't ready is open.

or_left : (a b : Bool) → (a || b) ≡ false → a ≡ false
or_left true b e = e
or_left false b e = refl

pub unready_open : (s : ScheduleValue) (i : ℕ) (h : List Event) → is_ready s i h ≡ false → is_closed i h ≡ false
unready_open s i h e = or_left (is_closed i h) _ (or_left _ (full_noted i h) (or_left _ (early_noted i h) e))

-- something was seen of it
pub not_waiting : (answer : Taking) → (answer ≡ turn.Took) ⊎ (answer ≡ turn.HeldBack) ⊎ (answer ≡ turn.Closed) → answer ≢ turn.Waits
not_waiting answer (inl e) waits = let bad : turn.Took ≡ turn.Waits = sym e ∙ waits in cc
not_waiting answer (inr (inl e)) waits = let bad : turn.HeldBack ≡ turn.Waits = sym e ∙ waits in cc
not_waiting answer (inr (inr e)) waits = let bad : turn.Closed ≡ turn.Waits = sym e ∙ waits in cc

-- the input for which the multiplex waits had its turn
pub had_turn : {I : Type 0} (shown : I → Option Stamped) (is_over is_waiting : I → Type 0) (looks : ScheduleValue → I → I → Type 0) (released : I → I) (i : ℕ) (old between : History) (xs : List (Entry I)) (x y : Entry I) (answer : Taking) (new : History)
    → SendAnswers old (sending.NotReady i) between → length xs ≡ input_count old.run.schedule → x ≡ get_or xs i x → Turns shown is_over is_waiting looks released i between x answer new y
    → HasTurn shown is_over is_waiting looks released i old xs answer new (set xs i y)
had_turn {I} shown is_over is_waiting looks released i old between xs x y answer new waits count value turns =
    let within : i < length xs = omega (arith, count, waits.3.input) in
    let T : History → Type 0 = λ h. Turns shown is_over is_waiting looks released i h x answer new y in
    record {
      running = waits.1;
      unswitched = waits.2;
      unready = waits.3;
      before = x;
      after = y;
      there = slice_get_read xs (length xs) i x refl within value;
      entries = refl;
      turns = subst T waits.0 turns;
    }
