use Rattle.std.proofs.Common.{◌≡◌, ◌++◌, take, map}
use Rattle.request.specs.declared.stream_row.StreamRow.{StreamRow}
use Rattle.request.specs.Parts.{ServicePartsValue, service_parts_value}
use Rattle.request.proofs.taken.output_pids.Given as goal

abbrev pub invariant-loop-stream : goal.invariant-loop-stream
invariant-loop-stream l = l.pids.items ≡ map (λ (r : StreamRow). r.out) (take l.stream-index l.streams)

abbrev pub invariant-loop-service : goal.invariant-loop-service
invariant-loop-service l =
    l.pids.items ≡ map (λ (r : StreamRow). r.out) l.streams ++ map (λ (s : ServicePartsValue). s.pmt) (map service_parts_value (take l.service-index l.services))
