use Rattle.std.proofs.Common.{arith, ◌≡◌, length}
use Rattle.section.specs.Packetized.{packet_count_of}
use Rattle.section.proofs.FoundAgainLaws.{payloads_are, found_again}
use Rattle.section.proofs.packets.packets_of.Goals as goal

pub returns-clause-payloads : goal.returns-clause-payloads
returns-clause-payloads c =
    let count : length c.loop-place.packets.items ≡ packet_count_of c.args.section.now = omega arith in
    payloads_are c.args.section.now c.args.pid c.args.first_counter c.loop-place.packets.items count c.loop-place.invariant.parts

pub returns-clause-found_again : goal.returns-clause-found_again
returns-clause-found_again c = λ good.
    let count : length c.loop-place.packets.items ≡ packet_count_of c.args.section.now = omega arith in
    found_again c.args.section.now c.args.pid c.args.first_counter c.loop-place.packets.items good c.requires.whole count c.loop-place.invariant.parts
