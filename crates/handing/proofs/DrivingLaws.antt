-- How a run goes on, and breaks off.
use Rattle.std.proofs.Common.{ℕ, zero, suc, ◌⊎◌, List, Bool, true, false, Option, refl, sym, subst, ◌∙◌, inl, inr}
use Rattle.std.specs.Prelude.{Result, Ok, Err, OnOk, OnErr}
use Rattle.tspkt.specs.declared.stamped.Stamped.{Stamped}
use Rattle.mux.specs.declared.event.Event.TheVariants.{Took, Close}
use Rattle.mux.specs.History.{History}
use Rattle.inlets.proofs.NoteLaws.{IsOneOf, put_off_one}
use Rattle.outcome.specs.Taking.{WaitsFor, TakesAsNeeded}
use Rattle.outlet.specs.declared.slot_writer.SlotWriter.{SlotWriter}
use Rattle.outcome.proofs.NeededLaws.{needed_of}
use Rattle.outcome.proofs.WrittenLaws.{all_begun}
use Rattle.station.specs.Stations.{Input, StationValue}
use Rattle.station.specs.Moving.{TakesNext, ComesUntaken, EndsBy, Ending, Nothing, Mark, HeldBack, IsHeldBack}
use Rattle.station.specs.Advancing.{IsStep, Steps}
use Rattle.outlet.specs.declared.outlet.Outlet.{Outlet}
use Rattle.outlet.specs.declared.run_fault.RunFault.TheVariants.{Memory, Write}
use Rattle.outlet.proofs.SendingLaws.{same_err}
use Rattle.outcome.proofs.ResultLaws.{not_write}
use Rattle.handing.specs.Driving.{output_of, IsSameRun, BreaksOff, IsDriven, Drives}

-- What comes of an input comes where the multiplex waits for it.

held_back : (i : ℕ) (a b : History) (item : Stamped) (is_closed : Bool) → IsHeldBack i a item b is_closed → IsOneOf i a b
held_back i a b item true is = inr (Close i, is.1, refl)
held_back i a b item false is = put_off_one i a b item is

ends : (i : ℕ) (a : History) (x : Input) (b : History) (y : Input) (ending : Ending) → EndsBy i a x b y ending → IsOneOf i a b
ends i a x b y Nothing is = inl is.1
ends i a x b y Mark is = inr (Close i, is.1, refl)
ends i a x b y (HeldBack item came) is = held_back i a b item y.is_closed is.1

pulled : (i : ℕ) (a : History) (x : Input) (b : History) (y : Input) → (TakesNext i a x b y ⊎ ComesUntaken i a x b y) → IsOneOf i a b
pulled i a x b y (inl takes) = inr (Took i takes.item, takes.history, refl)
pulled i a x b y (inr ending) = ends i a x b y ending.0 ending.2

needed_one : (i : ℕ) (a b : History) → WaitsFor a.run a.events i → IsOneOf i a b → TakesAsNeeded a.run a.events → TakesAsNeeded b.run b.events
needed_one i a b waits (inl same) is = (let P : History → Type 0 = λ h. TakesAsNeeded h.run h.events in subst P (sym same) is)
needed_one i a b waits (inr one) is =
    let P : History → Type 0 = λ h. TakesAsNeeded h.run h.events in
    subst P (sym one.1) (needed_of a.run i one.0 a.events one.2 waits, is)

needed_step : (old new : StationValue) (packets : List (List ℕ)) → IsStep old new packets → TakesAsNeeded old.history.run old.history.events → TakesAsNeeded new.history.run new.history.events
needed_step old new packets (inl sent) is =
    let P : History → Type 0 = λ h. TakesAsNeeded h.run h.events in
    subst P (sym sent.2.slot.1.2.0) (tt, is)
needed_step old new packets (inr (inl switch)) is =
    let P : History → Type 0 = λ h. TakesAsNeeded h.run h.events in
    subst P (sym switch.1.switch.2) (tt, is)
needed_step old new packets (inr (inr pull)) is =
    let p = pull.2 in
    needed_one pull.0 old.history new.history (p.running.within, p.unready) (pulled pull.0 old.history p.before new.history p.after p.pulled) is

pub needed_steps : (n : ℕ) (old new : StationValue) (packets : List (List ℕ)) → Steps n old new packets → TakesAsNeeded old.history.run old.history.events → TakesAsNeeded new.history.run new.history.events
needed_steps zero old new packets steps is = (let P : StationValue → Type 0 = λ s. TakesAsNeeded s.history.run s.history.events in subst P (sym steps.0) is)
needed_steps (suc n) old new packets steps is = needed_step steps.0 new steps.2 steps.4 (needed_steps n old steps.0 steps.1 steps.3 is)

-- A run that breaks off.

breaks_nowhere : (s : StationValue) (a : SlotWriter) (before : Option (List ℕ)) → BreaksOff s s a before before
breaks_nowhere s a before = record { same = record { run = refl; rings = refl; needed = λ is. is }; begun = λ first is. (a.writer, is) }

-- where there was no memory, it is driven nowhere
pub drives_nowhere : {W : Type 0} (contents : W → Option (List ℕ)) (failures : W → ℕ) (s : StationValue) (a : Outlet W) → Drives contents failures s s a a (Err Memory)
drives_nowhere contents failures s a = record {
  driven = tt;
  broken = breaks_nowhere s a.output (contents a.sink);
  unfailed = tt;
  memory = λ e. refl;
  failed = λ e. absurd (not_write (same_err _ Memory Write refl e));
}

pub same_same : (a b c : StationValue) → IsSameRun a b → IsSameRun b c → IsSameRun a c
same_same a b c s t = record { run = t.run ∙ s.run; rings = t.rings ∙ s.rings; needed = λ is. t.needed (s.needed is) }

pub same_either : {T E : Type 0} (r : Result T E) (x y : StationValue) (a b : SlotWriter) (u v : Option (List ℕ)) → OnOk r (IsDriven x y a b u v) → OnErr r (BreaksOff x y a u v) → IsSameRun x y
same_either (Ok t) x y a b u v driven broken = driven.same
same_either (Err t) x y a b u v driven broken = broken.same

-- a run that went on to its end may be answered as one that failed
pub breaks_driven : (x y : StationValue) (a b : SlotWriter) (u v : Option (List ℕ)) → IsDriven x y a b u v → BreaksOff x y a u v
breaks_driven x y a b u v driven = record { same = driven.same; begun = λ first sends. all_begun first v (output_of y.history) (driven.written first sends) }

-- and so may each
pub breaks_either : {T E : Type 0} (r : Result T E) (x y : StationValue) (a b : SlotWriter) (u v : Option (List ℕ)) → OnOk r (IsDriven x y a b u v) → OnErr r (BreaksOff x y a u v) → BreaksOff x y a u v
breaks_either (Ok t) x y a b u v driven broken = breaks_driven x y a b u v driven
breaks_either (Err t) x y a b u v driven broken = broken
