use Rattle.std.proofs.Common.{◌++◌, ◌∷◌, [], ap, ◌∙◌, arith}
use Rattle.tspkt.specs.declared.stamped.Stamped.{Stamped}
use Rattle.port.specs.Arrivals.{CarriedValue, marks_of, packets_of}
use Rattle.port.proofs.ArrivalLaws.{length_arrivals, packets_of_snoc, marks_of_mark}
use Rattle.port.proofs.ring_end.last_packet.Goals as goal

pub last-requires : goal.last-requires
last-requires c = omega (arith, c.requires.came, length_arrivals c.args.reader.now.handed)

pub unreachable-requires : goal.unreachable-requires
unreachable-requires c =
    let before = c.last.ensures.0 in
    let mark = ap (λ (x : CarriedValue). marks_of (before ++ x ∷ [])) c.in-None.ensures in
    omega (arith, c.requires.unmarked, ap marks_of c.last.ensures.1, mark, marks_of_mark before)

pub returns : goal.returns
returns c =
    let before = c.last.ensures.0 in
    let item : Stamped = c.in-Some.item.now in
    let packet = ap (λ (x : CarriedValue). packets_of (before ++ x ∷ [])) c.in-Some.ensures.1 in
    (packets_of before, ap packets_of c.last.ensures.1 ∙ (packet ∙ packets_of_snoc before item c.in-Some.ensures.0))
