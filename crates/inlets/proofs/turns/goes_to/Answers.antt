use Rattle.std.proofs.Common.{rules, ◌≡◌, List, length, refl, Some, ap, sym, ◌∙◌}
use Rattle.std.specs.List.{slice_get}
use Rattle.std.proofs.lemmas.Option.{slice_get_read}
use Rattle.request.specs.declared.stream.Stream.{Stream}
use Rattle.tspkt.specs.Packet.{pid_of}
use Rattle.schedule.specs.Streams.{all_streams}
use Rattle.inlets.proofs.FaithfulLaws.{same_number}
use Rattle.inlets.proofs.PlaceLaws.{goes_here}
use Rattle.inlets.proofs.turns.goes_to.Goals as goal

pub returns-then-stream-number : goal.returns-then-stream-number
returns-then-stream-number c is =
    let st = c.in-Some.stream.now in
    let streams : List Stream = c.streams.result.now in
    let found = c.in-Some.ensures.lookup in
    let read : slice_get streams c.args.place ≡ Some st = slice_get_read streams (length streams) c.args.place st refl found.3.0 found.1 in
    let there : slice_get (all_streams c.args.schedule.now) c.args.place ≡ Some st = ap (λ (v : List Stream). slice_get v c.args.place) (sym c.streams.ensures) ∙ read in
    let input : st.input ≡ c.args.number = search rules in
    let pid : st.pid ≡ pid_of c.args.item.now.packet = same_number st.pid c.pid.result is ∙ c.pid.ensures.value in
    (st, there, input, goes_here c.args.schedule.now c.args.place st c.args.number c.args.item.now (search rules) there input pid)
