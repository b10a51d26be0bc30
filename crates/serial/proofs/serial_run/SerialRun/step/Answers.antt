use Rattle.std.proofs.Common.{◌≡◌, ◌⊎◌, length, refl, ap, ◌∙◌, sym, subst, inl, inr, arith, Err, set, Some}
use Rattle.std.specs.Prelude.{OnErr}
use Rattle.std.specs.List.{length_refill}
use Rattle.std.proofs.lemmas.Result.{err_from_is_err_and}
use Rattle.mux.specs.History.{Run, History, emitted}
use Rattle.mux.specs.Lawful.{input_count}
use Rattle.schedule.specs.Laws.{IsMultiplexSchedule}
use Rattle.mux.proofs.Pushed.{some_behind, lent_sent}
use Rattle.schedule.specs.Schedule.{ScheduleValue}
use Rattle.reading.specs.declared.stop.Stop.TheVariants.{Memory}
use Rattle.outlet.specs.declared.run_fault.RunFault.TheVariants as run_faults
use Rattle.outlet.proofs.KnownLaws.{sends_nothing}
use Rattle.outlet.proofs.SendingLaws.{on_err_always, same_err}
use Rattle.outcome.specs.Taking.{TakesAsNeeded}
use Rattle.outcome.proofs.ResultLaws.{not_ok, is_failed}
use Rattle.serial.specs.Feeding.{AreLimited}
use Rattle.serial.specs.Running.{AreFed, AreHalted}
use Rattle.serial.specs.declared.turn.Turn.TheVariants.{Goes, Over}
use Rattle.serial.proofs.RunningLaws.{fewer_sent}
use Rattle.serial.proofs.StepLaws.{fed_of, unsent_by, waits_at, still_unready, still_feeds, unsent_read, tell_read, halted_read, unrefused_read, begun_unsent, over_by}
use Rattle.serial.proofs.GoingLaws.{goes_sent, goes_part_sent, goes_unsent, goes_over}
use Rattle.serial.proofs.WaitingLaws.{on_fault}
use Rattle.serial.proofs.serial_run.SerialRun.step.Goals as goal

pub take_step-requires-clause-entries : goal.take_step-requires-clause-entries
take_step-requires-clause-entries g c =
    let is = c.requires.3 in
    is.fed.count ∙ ap (λ (r : Run). input_count r.schedule) (sym is.run_is)

pub last-requires : goal.last-requires
last-requires g c = some_behind _ _ _ (c.in-Sent.ensures.sent refl).behind

-- a slot was sent

pub returns-in_ok-put-in-Sent-clause-goes : goal.returns-in_ok-put-in-Sent-clause-goes
returns-in_ok-put-in-Sent-clause-goes g c =
    let old = c.args.self.now in
    let put = c.in_ok-put-in-Sent.ensures in
    goes_sent g.R.Source.remaining g.R.Source.failures g.W.Sink.contents g.W.Sink.failures old (record old { mux = c.take_step.new.mux; inputs = c.take_step.new.entries; sent = c.take_step.new.out; output = c.put.new.self }) c.last.result.now c.args.sink.now c.put.new.sink Goes
    (lent_sent _ _ _ _ _ (c.in-Sent.ensures.sent refl) c.last.ensures) c.take_step.ensures.run c.in-Sent.ensures.steps.1 refl put.analysed put.written put.failures

pub returns-in_ok-put-in-Sent-clause-fewer : goal.returns-in_ok-put-in-Sent-clause-fewer
returns-in_ok-put-in-Sent-clause-fewer g c e =
    let old = c.args.self.now in
    fewer_sent old.mux c.take_step.new.mux c.last.result.now (lent_sent _ _ _ _ _ (c.in-Sent.ensures.sent refl) c.last.ensures)

pub returns-in_err-put-in-Sent-clause-goes : goal.returns-in_err-put-in-Sent-clause-goes
returns-in_err-put-in-Sent-clause-goes g c =
    let old = c.args.self.now in
    let passed = err_from_is_err_and c.from_residual.result c.from_residual.ensures.1 in
    goes_part_sent g.R.Source.remaining g.R.Source.failures g.W.Sink.contents g.W.Sink.failures old (record old { mux = c.take_step.new.mux; inputs = c.take_step.new.entries; sent = c.take_step.new.out; output = c.put.new.self }) c.last.result.now c.args.sink.now c.put.new.sink
    c.put.result c.from_residual.result passed.0 (c.in_err-put-in-Sent.was ∙ ap Err (sym passed.2)) passed.1 (lent_sent _ _ _ _ _ (c.in-Sent.ensures.sent refl) c.last.ensures) c.take_step.ensures.run c.in-Sent.ensures.steps.1 c.requires
    c.in_err-put-in-Sent.ensures.begun (λ e. ap g.W.Sink.failures (c.put.ensures.memory e)) c.put.ensures.failed

-- the next plan came into force, or an input had its turn

pub returns-in-Switched-clause-goes : goal.returns-in-Switched-clause-goes
returns-in-Switched-clause-goes g c =
    let old = c.args.self.now in
    goes_unsent g.R.Source.remaining g.R.Source.failures g.W.Sink.contents g.W.Sink.failures old (record old { mux = c.take_step.new.mux; inputs = c.take_step.new.entries; sent = c.take_step.new.out }) c.args.sink.now c.args.sink.now Goes
    (unsent_by g.R.Source.remaining g.R.Source.failures old.mux c.take_step.new.mux old.inputs.items c.take_step.new.entries.items c.take_step.result (subst IsMultiplexSchedule c.schedule.ensures c.known.ensures) (fed_of g.R.Source.remaining old c.requires) c.in-Switched.is c.take_step.ensures.steps) (λ some. some) refl (sends_nothing (g.W.Sink.contents c.args.sink.now) old.output.writer) refl

pub returns-in-Switched-clause-fewer : goal.returns-in-Switched-clause-fewer
returns-in-Switched-clause-fewer g c e =
    let old = c.args.self.now in
    (unsent_by g.R.Source.remaining g.R.Source.failures old.mux c.take_step.new.mux old.inputs.items c.take_step.new.entries.items c.take_step.result (subst IsMultiplexSchedule c.schedule.ensures c.known.ensures) (fed_of g.R.Source.remaining old c.requires) c.in-Switched.is c.take_step.ensures.steps).fewer

-- an input was read on, and had its turn

pub read_on-requires-clause-unready : goal.read_on-requires-clause-unready
read_on-requires-clause-unready g c =
    let old = c.args.self.now in
    let i = c.in-Waits.input in
    let mid = c.index_mut.result.now in
    let w = waits_at g.R.Source.remaining g.R.Source.failures old.mux c.take_step.new.mux old.inputs.items c.take_step.new.entries.items i mid c.in-Waits.ensures.steps c.index_mut.ensures.value in
    still_unready g.R.Source.remaining g.R.Source.failures old.mux c.take_step.new.mux old.inputs.items c.take_step.new.entries.items i mid w

pub read_on-requires-clause-feeds : goal.read_on-requires-clause-feeds
read_on-requires-clause-feeds g c =
    let old = c.args.self.now in
    let i = c.in-Waits.input in
    let mid = c.index_mut.result.now in
    let w = waits_at g.R.Source.remaining g.R.Source.failures old.mux c.take_step.new.mux old.inputs.items c.take_step.new.entries.items i mid c.in-Waits.ensures.steps c.index_mut.ensures.value in
    still_feeds g.R.Source.remaining g.R.Source.failures old.mux c.take_step.new.mux old.inputs.items c.take_step.new.entries.items i mid w (fed_of g.R.Source.remaining old c.requires)

pub returns-in_ok-read_on-in-Waits-clause-goes : goal.returns-in_ok-read_on-in-Waits-clause-goes
returns-in_ok-read_on-in-Waits-clause-goes g c =
    let old = c.args.self.now in
    let i = c.in-Waits.input in
    let mid = c.index_mut.result.now in
    let w = waits_at g.R.Source.remaining g.R.Source.failures old.mux c.take_step.new.mux old.inputs.items c.take_step.new.entries.items i mid c.in-Waits.ensures.steps c.index_mut.ensures.value in
    let length_is : old.piece.len ≡ length old.piece.items = sym c.as_mut_slice-piece.ensures.len ∙ ap length c.as_mut_slice-piece.ensures.value in
    let kept = length_refill old.piece.len old.piece.items c.read_on.new.piece length_is in
    let out = c.in_ok-read_on-in-Waits.ensures.out in
    goes_unsent g.R.Source.remaining g.R.Source.failures g.W.Sink.contents g.W.Sink.failures old _ c.args.sink.now c.read_on.new.sink Goes
    (unsent_read g.R.Source.remaining g.R.Source.failures old.mux c.take_step.new.mux c.read_on.new.mux old.inputs.items c.take_step.new.entries.items i mid c.read_on.new.input w c.in_ok-read_on-in-Waits.ensures.event c.in_ok-read_on-in-Waits.ensures.fewer c.in_ok-read_on-in-Waits.ensures.feeds c.read_on.ensures.limit c.read_on.ensures.failures)
    (λ some. omega (arith, some, length_is, kept)) c.read_on.ensures.out.output out.written out.unfailed

pub returns-in_ok-read_on-in-Waits-clause-fewer : goal.returns-in_ok-read_on-in-Waits-clause-fewer
returns-in_ok-read_on-in-Waits-clause-fewer g c e =
    let old = c.args.self.now in
    let i = c.in-Waits.input in
    let mid = c.index_mut.result.now in
    let w = waits_at g.R.Source.remaining g.R.Source.failures old.mux c.take_step.new.mux old.inputs.items c.take_step.new.entries.items i mid c.in-Waits.ensures.steps c.index_mut.ensures.value in
    (unsent_read g.R.Source.remaining g.R.Source.failures old.mux c.take_step.new.mux c.read_on.new.mux old.inputs.items c.take_step.new.entries.items i mid c.read_on.new.input w c.in_ok-read_on-in-Waits.ensures.event c.in_ok-read_on-in-Waits.ensures.fewer c.in_ok-read_on-in-Waits.ensures.feeds c.read_on.ensures.limit c.read_on.ensures.failures).fewer

pub returns-in_err-read_on-in-Waits-clause-goes : goal.returns-in_err-read_on-in-Waits-clause-goes
returns-in_err-read_on-in-Waits-clause-goes g c =
    let old = c.args.self.now in
    let i = c.in-Waits.input in
    let mid = c.index_mut.result.now in
    let w = waits_at g.R.Source.remaining g.R.Source.failures old.mux c.take_step.new.mux old.inputs.items c.take_step.new.entries.items i mid c.in-Waits.ensures.steps c.index_mut.ensures.value in
    let y = c.read_on.new.input in
    let fed = fed_of g.R.Source.remaining old c.requires in
    let answer = c.from_residual-in_err-read_on-in-Waits in
    let passed = err_from_is_err_and answer.result answer.ensures.1 in
    let was = c.in_err-read_on-in-Waits.was ∙ ap Err (sym passed.2) in
    let stopped : OnErr c.read_on.result ((y.inlet.report.stopped ≡ Some Memory) ⊎ (y.inlet.report.stopped ≡ mid.inlet.report.stopped)) =
    on_fault c.read_on.result (λ e. inl (c.read_on.ensures.refused e)) (λ e. inr (c.read_on.ensures.unrefused e)) in
    let same : c.read_on.new.mux ≡ old.mux = c.in_err-read_on-in-Waits.ensures.err ∙ w.waits.history in
    record {
      run = ap (λ (v : History). v.run) same;
      told = tell_read g.R.Source.remaining g.R.Source.failures old.mux c.take_step.new.mux old.inputs.items c.take_step.new.entries.items i mid y w c.read_on.ensures.failures;
      runs = not_ok _ answer.result passed.0 passed.1;
      written = not_ok _ answer.result passed.0 passed.1;
      unfailed = not_ok _ answer.result passed.0 passed.1;
      halted = on_err_always answer.result
          (λ run limit starts is.
          let schedule : old.mux.run.schedule ≡ run.schedule = ap (λ (r : Run). r.schedule) is.run_is in
          let A : ScheduleValue → Type 0 = λ p. AreFed g.R.Source.remaining p old.mux.events starts old.inputs.items × AreLimited limit p old.inputs.items in
          let H : ScheduleValue × History → Type 0 = λ v. AreHalted g.R.Source.remaining limit v.0 v.1.events starts (set c.take_step.new.entries.items i y) in
          let N : History → Type 0 = λ v. TakesAsNeeded run v.events in
          let here = subst A (sym schedule) (is.fed, is.limited) in (
            subst H (λ k. (schedule k, sym same k)) (halted_read g.R.Source.remaining g.R.Source.failures limit old.mux c.take_step.new.mux starts old.inputs.items c.take_step.new.entries.items i mid y w (is_failed c.read_on.result passed.0 was stopped) c.read_on.ensures.limit c.in_err-read_on-in-Waits.ensures.given here.0 here.1),
            subst N (sym same) is.needed,
          ));
      begun = on_err_always answer.result
          (λ first had.
          begun_unsent (emitted old.mux.run.schedule old.mux.events) (emitted c.read_on.new.mux.run.schedule c.read_on.new.mux.events) first (g.W.Sink.contents c.args.sink.now) (g.W.Sink.contents c.read_on.new.sink) old.output.writer
          (ap (λ (v : History). emitted v.run.schedule v.events) same) had c.read_on.ensures.out.begun);
      unrefused = λ e.
          unrefused_read g.R.Source.remaining g.R.Source.failures old.mux c.take_step.new.mux fed.0 old.inputs.items c.take_step.new.entries.items i mid y w (c.read_on.ensures.unrefused (was ∙ ap Err (same_err answer.result passed.0 run_faults.Write passed.1 e))) fed.1;
      memory = λ e. c.read_on.ensures.out.memory (was ∙ ap Err (same_err answer.result passed.0 run_faults.Memory passed.1 e));
      write_failed = λ e. c.read_on.ensures.out.failed (was ∙ ap Err (same_err answer.result passed.0 run_faults.Write passed.1 e));
    }

-- the run is over

pub returns-in-Done-clause-goes : goal.returns-in-Done-clause-goes
returns-in-Done-clause-goes g c =
    let old = c.args.self.now in
    goes_over g.R.Source.remaining g.R.Source.failures g.W.Sink.contents g.W.Sink.failures old (record old { mux = c.take_step.new.mux; inputs = c.take_step.new.entries; sent = c.take_step.new.out }) c.args.sink.now Over (over_by g.R.Source.remaining g.R.Source.failures old.mux c.take_step.new.mux old.inputs.items c.take_step.new.entries.items c.take_step.result c.in-Done.is c.take_step.ensures.steps) refl refl

pub returns-in-Done-clause-over : goal.returns-in-Done-clause-over
returns-in-Done-clause-over g c e =
    let old = c.args.self.now in
    (over_by g.R.Source.remaining g.R.Source.failures old.mux c.take_step.new.mux old.inputs.items c.take_step.new.entries.items c.take_step.result c.in-Done.is c.take_step.ensures.steps).over
