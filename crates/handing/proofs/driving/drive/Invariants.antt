use Rattle.std.proofs.Common.{◌≡◌, ◌≤◌, vec_capacity}
use Rattle.handing.specs.declared.passage.TheConstants.{STEPS}
use Rattle.handing.specs.Handing.{HandsAllBut}
use Rattle.handing.proofs.driving.drive.Given as goal

abbrev pub invariant-loop : goal.invariant-loop
invariant-loop g l = record {
  all : HandsAllBut l.fn.station l.station l.sender.sent l.packets.items;
  relay : l.sender.relay ≡ l.fn.sender.relay;
  room : STEPS ≤ vec_capacity l.packets;
}
