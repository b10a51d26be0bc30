use Rattle.std.proofs.Common.{◌+◌, List, arith, subst, sym, ◌∙◌}
use Rattle.mux.specs.declared.peak.Peak.{Peak}
use Rattle.outcome.proofs.ReportLaws.{ArePeaksOfFirst, peaks_push}
use Rattle.outcome.proofs.ending.end_streams.Goals as goal

pub loop-stream-preserved : goal.loop-stream-preserved
loop-stream-preserved c =
    let l = c.loop-stream in
    let p = c.args.mux.now.run.schedule in
    let h = c.args.mux.now.events in
    let P : List Peak → Type 0 = ArePeaksOfFirst p h (l.stream + 1) in
    subst P (sym {A = List Peak} c.in_ok-push.ensures.items) (peaks_push p h l.stream l.peaks.items c.peak.result l.invariant c.peak.ensures)

pub returns : goal.returns
returns c =
    let l = c.loop-stream in
    record { length_is = l.invariant.length_is ∙ omega arith; each = l.invariant.each }
