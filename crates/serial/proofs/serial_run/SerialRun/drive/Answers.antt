use Rattle.std.proofs.Common.{Err, ap, ◌∙◌, sym, refl}
use Rattle.std.proofs.lemmas.Result.{err_from_is_err_and}
use Rattle.outlet.specs.declared.slot_writer.SlotWriter.{SlotWriter}
use Rattle.outlet.proofs.SendingLaws.{on_ok_always}
use Rattle.serial.proofs.GoingLaws.{fine, goes_nowhere, goes_then, goes_fine, goes_failed, goes_flushed}
use Rattle.serial.proofs.serial_run.SerialRun.drive.Goals as goal

pub loop-init : goal.loop-init
loop-init g c = record {
  running = c.requires;
  run = refl;
  goes = goes_nowhere g.R.Source.remaining g.R.Source.failures g.W.Sink.contents g.W.Sink.failures c.args.self.now c.args.sink.now;
}

pub loop-preserved : goal.loop-preserved
loop-preserved g c =
    let step = goes_fine g.R.Source.remaining g.R.Source.failures g.W.Sink.contents g.W.Sink.failures c.loop.self c.step.new.self c.loop.sink c.step.new.sink c.step.result c.in_ok-step.field-0 c.in_ok-step.was c.step.ensures.goes in
    let is = c.loop.invariant.running in
    record {
      running = (is.0, is.1, is.2, step.runs is.0 is.1 is.2 is.3);
      run = c.step.ensures.goes.run ∙ c.loop.invariant.run;
      goes = goes_then g.R.Source.remaining g.R.Source.failures g.W.Sink.contents g.W.Sink.failures c.args.self.now c.loop.self c.step.new.self c.args.sink.now c.loop.sink c.step.new.sink fine c.loop.invariant.goes step;
    }

pub returns-in_err-step-clause-goes : goal.returns-in_err-step-clause-goes
returns-in_err-step-clause-goes g c =
    let passed = err_from_is_err_and c.from_residual.result c.from_residual.ensures.1 in
    let all = goes_then g.R.Source.remaining g.R.Source.failures g.W.Sink.contents g.W.Sink.failures c.args.self.now c.loop.self c.step.new.self c.args.sink.now c.loop.sink c.step.new.sink c.step.result c.loop.invariant.goes c.step.ensures.goes in
    goes_failed g.R.Source.remaining g.R.Source.failures g.W.Sink.contents g.W.Sink.failures c.args.self.now c.step.new.self c.args.sink.now c.step.new.sink c.step.result c.from_residual.result passed.0 (c.in_err-step.was ∙ ap Err (sym passed.2)) passed.1 all

pub returns-clause-goes : goal.returns-clause-goes
returns-clause-goes g c =
    let r = c.step.new.self in
    let step = goes_fine g.R.Source.remaining g.R.Source.failures g.W.Sink.contents g.W.Sink.failures c.loop.self r c.loop.sink c.step.new.sink c.step.result c.in_ok-step.field-0 c.in_ok-step.was c.step.ensures.goes in
    let all = goes_then g.R.Source.remaining g.R.Source.failures g.W.Sink.contents g.W.Sink.failures c.args.self.now c.loop.self r c.args.sink.now c.loop.sink c.step.new.sink fine c.loop.invariant.goes step in
    let is = c.loop.invariant.running in
    goes_then g.R.Source.remaining g.R.Source.failures g.W.Sink.contents g.W.Sink.failures c.args.self.now r _ c.args.sink.now c.step.new.sink c.flush.new.sink c.flush.result all
    (goes_flushed g.R.Source.remaining g.R.Source.failures g.W.Sink.contents g.W.Sink.failures r c.flush.new.self c.step.new.sink c.flush.new.sink c.flush.result (is.0, is.1, is.2, step.runs is.0 is.1 is.2 is.3)
    c.flush.ensures.stays c.flush.ensures.ok c.flush.ensures.begun c.flush.ensures.failures c.flush.ensures.failed)

pub returns-clause-flushed : goal.returns-clause-flushed
returns-clause-flushed g c = on_ok_always c.flush.result (ap (λ (v : SlotWriter). v.writer) c.flush.ensures.stays)
