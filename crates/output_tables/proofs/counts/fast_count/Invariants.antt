use Rattle.std.proofs.Common.{◌≡◌, ◌+◌, ◌*◌, ◌≤◌, map, drop, length}
use Rattle.std.specs.List.{sum}
use Rattle.output_tables.specs.Output.{packets_for}
use Rattle.output_tables.proofs.SdtCountLaws.{pmt_packets}
use Rattle.output_tables.proofs.counts.fast_count.Given as goal

abbrev pub invariant-loop-service : goal.invariant-loop-service
invariant-loop-service l = record {
  counted : l.packets + sum (map pmt_packets (drop l.service-index l.chosen)) ≡ packets_for (9 + 4 * (1 + length l.chosen)) + sum (map pmt_packets l.chosen);
  few : l.packets ≤ 6 + 6 * l.service-index;
}
