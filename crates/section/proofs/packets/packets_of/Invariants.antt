use Rattle.std.proofs.Common.{◌≡◌, length, vec_len, vec_capacity}
use Rattle.section.proofs.FoundAgainLaws.{PartsFrom}
use Rattle.section.proofs.packets.packets_of.Given as goal

abbrev pub invariant-loop-place : goal.invariant-loop-place
invariant-loop-place l = record {
  len : vec_len l.packets ≡ l.place;
  count : length l.packets.items ≡ l.place;
  room : vec_capacity l.packets ≡ l.count;
  parts : PartsFrom l.section l.pid l.first_counter 0 l.packets.items;
}
