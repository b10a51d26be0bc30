use Rattle.std.proofs.Common.{◌<◌, List, length, subst, ap, ◌∙◌, sym}
use Rattle.tspkt.specs.declared.stamped.Stamped.{Stamped}
use Rattle.port.specs.Arrivals.{mark_count}
use Rattle.port.specs.Rings.{RingEndValue}
use Rattle.port.proofs.ring_end.RingEnd.last.Goals as goal

pub last_packet-requires-clause-came : goal.last_packet-requires-clause-came
last_packet-requires-clause-came c =
    let P : List Stamped → Type 0 = λ xs. 0 < length xs in
    subst P (sym (ap (λ (e : RingEndValue). e.received) c.self.view_is)) c.requires.came

pub last_packet-requires-clause-unmarked : goal.last_packet-requires-clause-unmarked
last_packet-requires-clause-unmarked c = c.self.invariant.0 ∙ ap (λ (e : RingEndValue). mark_count e.is_ended) c.self.view_is ∙ ap mark_count c.requires.unmarked

pub returns : goal.returns
returns c = (c.last_packet.ensures.0, sym (ap (λ (e : RingEndValue). e.received) c.self.view_is) ∙ c.last_packet.ensures.1)
