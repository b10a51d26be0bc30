use Rattle.std.proofs.Common.{◌∙◌, length, get_or, sym}
use Rattle.std.proofs.lemmas.List.{get_or_default}
use Rattle.std.proofs.lemmas.List.Elements.{AllWithin-more, AllWithin-upto, All-from_all_within, at_read}
use Rattle.request.specs.declared.stream.Stream.{Stream}
use Rattle.schedule.specs.Switches.{KeepsStream}
use Rattle.schedule.proofs.JudgeLaws.{always}
use Rattle.schedule.proofs.output_pids.keeps_streams.Goals as goal

pub returns-then-not-keeps_stream : goal.returns-then-not-keeps_stream
returns-then-not-keeps_stream c = (
  λ e. cc,
  λ all. sym c.if-not-keeps_stream.true ∙ c.keeps_stream.ensures.1 (all c.loop-stream.stream-index _ c.loop-stream-test.true),
)

pub loop-stream-preserved : goal.loop-stream-preserved
loop-stream-preserved c =
    let P = KeepsStream c.args.earlier.now c.args.before.now in
    let xs = c.args.streams.now in
    let i = c.loop-stream.stream-index in
    let none : Stream = record { input = 0; pid = 0; output_pid = 0; leak = 0 } in
    let st = get_or xs i none in
    AllWithin-more P xs 0 i c.loop-stream.invariant
    (at_read xs P i st c.loop-stream-test.true (get_or_default xs i none st c.loop-stream-test.true) (c.keeps_stream.ensures.0 c.if-not-keeps_stream.false))

pub returns : goal.returns
returns c =
    let P = KeepsStream c.args.earlier.now c.args.before.now in
    let xs = c.args.streams.now in
    always (All-from_all_within P xs (AllWithin-upto P xs 0 c.loop-stream.stream-index (length xs) c.loop-stream-test.false c.loop-stream.invariant))
