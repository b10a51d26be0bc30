use Rattle.std.proofs.Common.{◌≡◌, ℕ, List, subst}
use Rattle.tspkt.specs.Packet.{IsPacket}
use Rattle.tspkt.specs.Rewritten.{rewritten}
use Rattle.tspkt.proofs.RewrittenLaws.{is_packet-rewritten, written}
use Rattle.tspkt.proofs.packet.Packet.move_on.Goals as goal

pub invariant_of-self : goal.invariant_of-self
invariant_of-self c =
    let p = c.args.self.now in
    let is : c.add_to_pcr.new.p ≡ rewritten p c.args.pid c.args.delay = written p _ _ _ _ _ _ c.self.view_is c.set_pid.ensures c.pcr-pcr.ensures c.add_to_pcr.ensures in
    let R : List ℕ → Type 0 = λ q. IsPacket q in
    let packet : IsPacket p = subst R c.self.view_is c.self.invariant in
    rw is (is_packet-rewritten p c.args.pid c.args.delay c.requires packet)

pub returns : goal.returns
returns c = written c.args.self.now _ _ _ _ _ _ c.self.view_is c.set_pid.ensures c.pcr-pcr.ensures c.add_to_pcr.ensures
