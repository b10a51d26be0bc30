use Rattle.std.proofs.Common.{ℕ, List, sym, ◌∙◌, ap}
use Rattle.tspkt.specs.Packet.{IsPacket}
use Rattle.tspkt.specs.Counted.{with_counter}
use Rattle.tspkt.proofs.CountedLaws.{written, is_packet-with_counter, continuity_counter_of-with_counter, pid_of-with_counter, payload_of-with_counter, bit-with_counter}
use Rattle.tspkt.proofs.packet.Packet.with_counter.Goals as goal

pub invariant_of-result : goal.invariant_of-result
invariant_of-result c =
    let p = c.self.inside.bytes in
    let k : IsPacket p = c.self.invariant in
    rw (sym (written p c.args.counter k)) (is_packet-with_counter p c.args.counter c.requires k)

pub returns-clause-value : goal.returns-clause-value
returns-clause-value c =
    let p = c.self.inside.bytes in
    let k : IsPacket p = c.self.invariant in
    sym (written p c.args.counter k) ∙ ap (λ (q : List ℕ). with_counter q c.args.counter) c.self.view_is

pub returns-clause-counter : goal.returns-clause-counter
returns-clause-counter c =
    let p = c.self.inside.bytes in
    let k : IsPacket p = c.self.invariant in
    rw (sym (written p c.args.counter k)) (continuity_counter_of-with_counter p c.args.counter c.requires k)

pub returns-clause-pid : goal.returns-clause-pid
returns-clause-pid c =
    let p = c.self.inside.bytes in
    let k : IsPacket p = c.self.invariant in
    rw (sym (written p c.args.counter k), sym c.self.view_is) (pid_of-with_counter p c.args.counter c.requires k)

pub returns-clause-payload : goal.returns-clause-payload
returns-clause-payload c =
    let p = c.self.inside.bytes in
    let k : IsPacket p = c.self.invariant in
    rw (sym (written p c.args.counter k), sym c.self.view_is) (payload_of-with_counter p c.args.counter c.requires k)

pub returns-clause-others : goal.returns-clause-others
returns-clause-others c =
    let p = c.self.inside.bytes in
    let k : IsPacket p = c.self.invariant in
    rw (sym (written p c.args.counter k), sym c.self.view_is) (λ i l o. bit-with_counter p c.args.counter c.requires k i o)
