use Rattle.std.proofs.Common.{rules, ◌≡◌, ℕ, List, length}
use Rattle.tspkt.specs.Rewritten.{rewritten}
use Rattle.mux.proofs.Pushed.{made_last}
use Rattle.mux.proofs.outgoing.VecPacketOutgoing.add_rewritten.Goals as goal

pub returns-clause-packets : goal.returns-clause-packets
returns-clause-packets c =
    let count : c.len-last.result ≡ length c.add.new.self.items = search rules in
    let f : List ℕ → List ℕ = λ q. rewritten q c.args.pid c.args.delay in
    made_last c.args.self.now.items c.add.new.self.items c.args.packet.now c.len-last.result c.index_mut.result.now f c.move_on.new.self c.add.ensures.packets count c.index_mut.ensures.value c.move_on.ensures
