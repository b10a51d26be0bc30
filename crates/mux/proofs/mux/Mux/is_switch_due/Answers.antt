use Rattle.std.proofs.Common.{nat_eq, ap, ◌∙◌, arith}
use Rattle.std.specs.List.{slice_get}
use Rattle.mux.specs.SlotClock.{ClockValue}
use Rattle.mux.specs.History.{History, in_force, slots}
use Rattle.mux.specs.Lawful.{is_switch_due}
use Rattle.mux.proofs.SpanOf.{due_by}
use Rattle.mux.proofs.mux.Mux.is_switch_due.Goals as goal

pub returns : goal.returns
returns c =
    let s = c.self.inside.schedule in
    let h = c.self.inside.past in
    let k = c.self.invariant.0.agrees in
    let within = k.within in
    let limit = k.limit in
    let slot = c.slot.ensures ∙ ap (λ (x : ClockValue). x.slot) c.self.invariant.0.clock_is in
    ap (λ n. nat_eq n c.self.inside.span.next_slot) slot
    ∙ due_by (slice_get s.later (in_force h)) (slots h) c.self.inside.span.next_slot c.self.invariant.1.next_slot (omega arith)
    ∙ ap (λ (x : History). is_switch_due x.run.schedule x.events) c.self.view_is
