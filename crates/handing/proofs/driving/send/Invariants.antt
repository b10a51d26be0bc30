use Rattle.std.proofs.Common.{◌≡◌, ◌≤◌, vec_capacity}
use Rattle.handing.specs.declared.passage.TheConstants.{STEPS}
use Rattle.handing.proofs.driving.send.Given as goal

abbrev pub invariant-loop : goal.invariant-loop
invariant-loop g l = record {
  sender : l.sender ≡ l.fn.sender;
  packets : l.packets.items ≡ l.fn.packets.items;
  room : STEPS ≤ vec_capacity l.packets;
}
