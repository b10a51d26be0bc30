-- What a run takes as it is needed.
use Rattle.std.proofs.Common.{ℕ, List, sym, subst}
use Rattle.mux.specs.declared.event.Event.{Event}
use Rattle.mux.specs.declared.event.Event.TheVariants.{Took, Full, Early, Close, Slot, Switch}
use Rattle.mux.specs.History.{Run}
use Rattle.inlets.specs.Notes.{IsOfInput}
use Rattle.outcome.specs.Taking.{WaitsFor, IsNeeded}

-- what comes of the input that the multiplex waits for is needed
pub needed_of : (run : Run) (i : ℕ) (e : Event) (h : List Event) → IsOfInput i e → WaitsFor run h i → IsNeeded run e h
needed_of run i (Took j item) h is waits = subst (WaitsFor run h) (sym is) waits
needed_of run i (Full j st) h is waits = subst (WaitsFor run h) (sym is) waits
needed_of run i (Early j) h is waits = subst (WaitsFor run h) (sym is) waits
needed_of run i (Switch number) h is waits = absurd is
needed_of run i (Close j) h is waits = subst (WaitsFor run h) (sym is) waits
needed_of run i (Slot c) h is waits = absurd is
