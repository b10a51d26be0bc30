use Rattle.std.proofs.Common.{◌≡◌, ◌+◌, ◌-◌, ◌*◌, ◌≤◌, ◌++◌, [], length, drop, vec_len, vec_capacity}
use Rattle.section.specs.Assembled.{sections_from}
use Rattle.section.proofs.reading.read_sections.Given as goal

abbrev pub invariant-loop-at : goal.invariant-loop-at
invariant-loop-at l = record {
  none : l.begun.items ≡ [];
  inside : l.at ≤ length l.bytes;
  begun : (sections_from 0 (drop l.at l.bytes)).begun ≡ (sections_from 0 l.bytes).begun;
  told : l.out.items ++ (sections_from 0 (drop l.at l.bytes)).told ≡ l.fn.out.items ++ (sections_from 0 l.bytes).told;
  room : 3 * vec_len l.out + (length l.bytes - l.at) ≤ 3 * vec_capacity l.out;
  capacity : vec_capacity l.out ≡ vec_capacity l.fn.out;
}

abbrev pub decreases-loop-at : goal.decreases-loop-at
decreases-loop-at l = length l.bytes - l.at
