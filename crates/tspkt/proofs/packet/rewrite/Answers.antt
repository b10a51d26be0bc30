use Rattle.std.proofs.Common.{◌≡◌, ℕ, List, subst}
use Rattle.tspkt.specs.Packet.{IsPacket}
use Rattle.tspkt.specs.Rewritten.{rewritten}
use Rattle.tspkt.proofs.RewrittenLaws.{written, is_packet-rewritten, pid_of-rewritten, pcr_of-rewritten, pcr_extension_of-rewritten, bit-rewritten}
use Rattle.tspkt.proofs.packet.rewrite.Goals as goal

pub invariant_of-result : goal.invariant_of-result
invariant_of-result c =
    let p = c.args.packet.now in
    let is : c.add_to_pcr.new.p ≡ rewritten p c.args.pid c.args.delay = written p _ _ _ _ _ _ c.packet.view_is c.set_pid.ensures c.pcr.ensures c.add_to_pcr.ensures in
    let R : List ℕ → Type 0 = λ q. IsPacket q in
    let packet : IsPacket p = subst R c.packet.view_is c.packet.invariant in
    rw is (is_packet-rewritten p c.args.pid c.args.delay c.requires packet)

pub returns : goal.returns
returns c =
    let p = c.args.packet.now in
    let pid = c.args.pid in
    let delay = c.args.delay in
    let is : c.add_to_pcr.new.p ≡ rewritten p pid delay = written p _ _ _ _ _ _ c.packet.view_is c.set_pid.ensures c.pcr.ensures c.add_to_pcr.ensures in
    let R : List ℕ → Type 0 = λ q. IsPacket q in
    let packet : IsPacket p = subst R c.packet.view_is c.packet.invariant in
    record {
      value = is;
      pid = rw is (pid_of-rewritten p pid delay c.requires packet);
      pcr = rw is (pcr_of-rewritten p pid delay c.requires packet);
      pcr_form = λ t. rw is (pcr_extension_of-rewritten p pid delay c.requires packet t);
      others = λ i l o. rw is (bit-rewritten p pid delay c.requires packet i o);
    }
