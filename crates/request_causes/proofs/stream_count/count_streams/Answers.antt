use Rattle.std.proofs.Common.{List, length, map, ap, ◌∙◌}
use Rattle.request.specs.declared.stream_row.StreamRow.{StreamRow}
use Rattle.request.specs.Request.{without_repeats}
use Rattle.request_causes.specs.Causes.{stream_row}
use Rattle.request_causes.specs.declared.placed_row.PlacedRow.{PlacedRow}
use Rattle.request_causes.proofs.FaultLaws.{answer_then}
use Rattle.request_causes.proofs.stream_count.count_streams.Goals as goal

pub returns : goal.returns
returns c =
    answer_then c.count_sources.result c.count_sources.ensures (λ n e. e
    ∙ ap (λ (xs : List PlacedRow). length (without_repeats (map stream_row xs))) c.deref.ensures.value
    ∙ ap (λ (xs : List StreamRow). length (without_repeats xs)) c.in_ok-rows.ensures.all)
