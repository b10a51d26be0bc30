use Rattle.std.proofs.Common.{◌≡◌, drop}
use Rattle.output_tables.proofs.StreamLaws.{stream_on}
use Rattle.output_tables.proofs.mapped_pid.mapped_pid.Given as goal

abbrev pub invariant-loop-number : goal.invariant-loop-number
invariant-loop-number l = record {
  items : l.number-items ≡ l.service.streams.items;
  rest : stream_on l.request.streams l.pid (drop l.number-index l.service.streams.items) ≡ stream_on l.request.streams l.pid l.service.streams.items;
}
