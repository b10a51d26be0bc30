use Rattle.std.proofs.Common.{◌≡◌, ◌*◌, length, take}
use Rattle.plan.proofs.StreamPlaceLaws.{SaysWhere}
use Rattle.plan.proofs.stream_map.StreamMap.new.Given as goal

abbrev pub invariant-loop-number : goal.invariant-loop-number
invariant-loop-number l = record {
  cells : length l.numbers.items ≡ l.inputs * 8192;
  says : SaysWhere l.inputs l.numbers.items (take l.number l.streams);
}
