use Rattle.std.proofs.Common.{pos, subst, length, List, ◌<◌}
use Rattle.request.specs.declared.limits.TheConstants.{MAX_STREAMS}
use Rattle.request.specs.declared.stream_row.StreamRow.{StreamRow}
use Rattle.request.specs.Request.{row_of}
use Rattle.request.specs.Collected.{with_row}
use Rattle.request.proofs.StreamLaws.{row_full}
use Rattle.request.proofs.streams.add_rows.Goals as goal

pub returns-then-not-add_row-clause-full : goal.returns-then-not-add_row-clause-full
returns-then-not-add_row-clause-full c = λ _.
    subst (λ (xs : List StreamRow). MAX_STREAMS < length xs) c.loop-stream.invariant
    (row_full (row_of c.args.service.now.input) c.loop-stream.found.items c.deref-stream-items.result.now c.loop-stream.stream-index (record { pid = pos 0; out = pos 0; leak = pos 0 }) MAX_STREAMS c.loop-stream-test.true
    (subst (λ (row : StreamRow). MAX_STREAMS < length (with_row c.loop-stream.found.items row)) c.new.ensures (c.add_row.ensures.full c.if-not-add_row.true)))
