use Rattle.std.proofs.Common.{◌≡◌, true, ap, ◌∙◌, sym, subst}
use Rattle.std.specs.Prelude.{IsSome}
use Rattle.port.specs.Arrivals.{packets_of, mark_count}
use Rattle.port.specs.Rings.{RingEndValue}
use Rattle.port.proofs.ShowingLaws.{is_shown_of, head_of_last}
use Rattle.port.proofs.ring_end.RingEnd.head.Goals as goal

pub last_packet-requires-clause-came : goal.last_packet-requires-clause-came
last_packet-requires-clause-came c =
    let shown = is_shown_of c.self.inside.is_shown (packets_of c.self.inside.reader.handed) (subst IsSome (sym (ap (λ (e : RingEndValue). e.head) c.self.view_is)) c.requires) in
    (c.self.invariant.1 shown).1

pub last_packet-requires-clause-unmarked : goal.last_packet-requires-clause-unmarked
last_packet-requires-clause-unmarked c =
    let shown = is_shown_of c.self.inside.is_shown (packets_of c.self.inside.reader.handed) (subst IsSome (sym (ap (λ (e : RingEndValue). e.head) c.self.view_is)) c.requires) in
    c.self.invariant.0 ∙ ap mark_count (c.self.invariant.1 shown).0

pub returns : goal.returns
returns c =
    let packets = packets_of c.self.inside.reader.handed in
    let shown : c.self.inside.is_shown ≡ true = is_shown_of c.self.inside.is_shown packets (subst IsSome (sym (ap (λ (e : RingEndValue). e.head) c.self.view_is)) c.requires) in
    sym (ap (λ (e : RingEndValue). e.head) c.self.view_is) ∙ head_of_last c.self.inside.is_shown packets c.last_packet.ensures.0 c.last_packet.result.now shown c.last_packet.ensures.1
