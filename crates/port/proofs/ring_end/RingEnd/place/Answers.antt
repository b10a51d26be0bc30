use Rattle.std.proofs.Common.{ap, sym, subst, arith}
use Rattle.std.specs.Prelude.{IsSome}
use Rattle.port.specs.Arrivals.{packets_of}
use Rattle.port.specs.Rings.{RingEndValue}
use Rattle.port.proofs.ArrivalLaws.{length_arrivals}
use Rattle.port.proofs.ShowingLaws.{is_shown_of}
use Rattle.port.proofs.ring_end.RingEnd.place.Goals as goal

pub last-requires : goal.last-requires
last-requires c =
    let handed = c.self.inside.reader.handed in
    let shown = is_shown_of c.self.inside.is_shown (packets_of handed) (subst IsSome (sym (ap (λ (e : RingEndValue). e.head) c.self.view_is)) c.requires) in
    let some = (c.self.invariant.1 shown).1 in
    omega (arith, some, length_arrivals handed)
