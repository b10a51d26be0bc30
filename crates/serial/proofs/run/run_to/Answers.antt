use Rattle.std.proofs.Common.{[], Err, map, length, ap, ◌∙◌, sym, subst, arith}
use Rattle.std.proofs.lemmas.List.{length-map}
use Rattle.std.proofs.lemmas.Result.{err_from_is_err_and}
use Rattle.mux.specs.Headline.{IsSound}
use Rattle.mux.specs.History.{Run, emitted}
use Rattle.outlet.specs.Written.{Sends, SendsBeginning}
use Rattle.outlet.specs.Sending.{bytes_of}
use Rattle.outlet.proofs.SendingLaws.{if_err_always, if_err_is, same_err}
use Rattle.outcome.specs.Taking.{IsOver}
use Rattle.outcome.specs.declared.ended.Ended.{Ended}
use Rattle.outcome.proofs.ResultLaws.{is_fine, is_failed}
use Rattle.outcome.proofs.WrittenLaws.{nothing_sent, none_waits, all_begun}
use Rattle.serial.specs.Ending.{ended_of}
use Rattle.serial.specs.Feeding.{SerialInput}
use Rattle.serial.proofs.HaltedLaws.{halted_running, unrefused_running}
use Rattle.serial.proofs.GoingLaws.{goes_failed}
use Rattle.serial.proofs.OutcomeLaws.{has_run, has_begun_nothing, has_begun, failures_told}
use Rattle.serial.proofs.run.run_to.Goals as goal

pub finish-requires : goal.finish-requires
finish-requires g c =
    let run : Run = record { schedule = c.args.schedule; limit = c.args.slots } in
    let goes = c.drive-driven.ensures.goes in
    let is = is_fine c.drive-driven.result c.in_ok-driven.field-0 c.in_ok-driven.was goes.runs run c.args.limit (map g.R.Source.remaining c.args.readers.items) c.in_ok-run.ensures.running in
    is.fed.count ∙ ap (λ (v : Run). length v.schedule.first.request.inputs) (sym is.run_is)

pub returns-clause-runs : goal.returns-clause-runs
returns-clause-runs g c =
    let run : Run = record { schedule = c.args.schedule; limit = c.args.slots } in
    let readers = c.args.readers.items in
    let opened = c.in_ok-run.ensures in
    let old = c.in_ok-run.run' in
    let goes = c.drive-driven.ensures.goes in
    let done = c.in_ok-driven.was in
    let r = c.drive-driven.new.self in
    let before = g.W.Sink.contents c.args.sink.now in
    let after = g.W.Sink.contents c.drive-driven.new.sink in
    let is = is_fine c.drive-driven.result c.in_ok-driven.field-0 done goes.runs run c.args.limit (map g.R.Source.remaining readers) opened.running in
    let sent = is_fine c.drive-driven.result c.in_ok-driven.field-0 done goes.written before (nothing_sent old.mux.run.schedule old.mux.events before old.output.writer opened.new opened.waiting) in
    let S : Run → Type 0 = λ v. IsSound (record { run = v; events = r.mux.events }) in
    let O : Run → Type 0 = λ v. IsOver v r.mux.events in
    let W : Run → Type 0 = λ v. Sends before after (bytes_of (emitted v.schedule r.mux.events)) r.output.writer in (
      r.mux.events,
      has_run g.R.Source.remaining g.R.Source.failures run c.args.limit readers r c.in_ok-finish.field-0.0 c.in_ok-finish.field-0.1.items is (goes.told (map g.R.Source.failures readers) opened.failures) c.in_ok-finish.ensures before after
          (record {
            few = c.requires.slots;
            sound = subst S is.run_is c.known-2.ensures;
            over = subst O is.run_is (is_fine c.drive-driven.result c.in_ok-driven.field-0 done c.drive-driven.ensures.over);
            needed = is.needed;
            analysed = is.analysed;
            written = none_waits before after (bytes_of (emitted run.schedule r.mux.events)) r.output.writer (is_fine c.drive-driven.result c.in_ok-driven.field-0 done c.drive-driven.ensures.flushed) (subst W is.run_is sent);
          })
          (unrefused_running g.R.Source.remaining run c.args.limit (map g.R.Source.remaining readers) r is),
    )

pub returns-clause-readers : goal.returns-clause-readers
returns-clause-readers g c =
    let run : Run = record { schedule = c.args.schedule; limit = c.args.slots } in
    let goes = c.drive-driven.ensures.goes in
    let is = is_fine c.drive-driven.result c.in_ok-driven.field-0 c.in_ok-driven.was goes.runs run c.args.limit (map g.R.Source.remaining c.args.readers.items) c.in_ok-run.ensures.running in
    let inputs = c.drive-driven.new.self.inputs.items in
    let one : SerialInput g.row.R.Denot → Ended g.row.R.Denot = ended_of in
    let lent : Ended g.row.R.Denot → g.row.R.Denot = λ e. e.lent in
    omega (arith, ap length c.in_ok-finish.ensures.inputs.lent_is, length-map (map one inputs) lent, length-map inputs one, is.fed.count, c.requires.readers)

pub returns-clause-read_failed : goal.returns-clause-read_failed
returns-clause-read_failed g c =
    let run : Run = record { schedule = c.args.schedule; limit = c.args.slots } in
    let readers = c.args.readers.items in
    let opened = c.in_ok-run.ensures in
    let goes = c.drive-driven.ensures.goes in
    let is = is_fine c.drive-driven.result c.in_ok-driven.field-0 c.in_ok-driven.was goes.runs run c.args.limit (map g.R.Source.remaining readers) opened.running in
    failures_told g.R.Source.remaining g.R.Source.failures run c.args.limit readers c.drive-driven.new.self c.in_ok-finish.field-0.0 c.in_ok-finish.field-0.1.items is
    (goes.told (map g.R.Source.failures readers) opened.failures) c.in_ok-finish.ensures

pub returns-clause-wrote : goal.returns-clause-wrote
returns-clause-wrote g c = is_fine c.drive-driven.result c.in_ok-driven.field-0 c.in_ok-driven.was c.drive-driven.ensures.goes.unfailed

pub returns-in_err-run-clause-begins : goal.returns-in_err-run-clause-begins
returns-in_err-run-clause-begins g c =
    let run : Run = record { schedule = c.args.schedule; limit = c.args.slots } in
    if_err_always c.from_residual.result
    (λ fault. ([], has_begun_nothing g.R.Source.remaining g.R.Source.failures run c.args.limit c.args.readers.items (g.W.Sink.contents c.args.sink.now) fault c.requires.readers c.known.ensures c.requires.slots))

pub returns-in_err-driven-clause-begins : goal.returns-in_err-driven-clause-begins
returns-in_err-driven-clause-begins g c =
    let run : Run = record { schedule = c.args.schedule; limit = c.args.slots } in
    let readers = c.args.readers.items in
    let opened = c.in_ok-run.ensures in
    let old = c.in_ok-run.run' in
    let goes = c.drive-driven.ensures.goes in
    let r = c.drive-driven.new.self in
    let before = g.W.Sink.contents c.args.sink.now in
    let after = g.W.Sink.contents c.drive-driven.new.sink in
    let passed = err_from_is_err_and c.from_residual-in_err-driven.result c.from_residual-in_err-driven.ensures.1 in
    let was = c.in_err-driven.was ∙ ap Err (sym passed.2) in
    let same = goes.run ∙ opened.running.run_is in
    let S : Run → Type 0 = λ v. SendsBeginning before after (bytes_of (emitted v.schedule r.mux.events)) in
    let H : Run → Type 0 = λ v. IsSound (record { run = v; events = r.mux.events }) in
    let halted = is_failed c.drive-driven.result passed.0 was goes.halted run c.args.limit (map g.R.Source.remaining readers) opened.running in
    let begun = is_failed c.drive-driven.result passed.0 was goes.begun before (nothing_sent old.mux.run.schedule old.mux.events before old.output.writer opened.new opened.waiting) in
    if_err_is c.from_residual-in_err-driven.result
    (λ fault is. (
      r.mux.events,
      has_begun g.R.Source.remaining g.R.Source.failures run c.args.limit readers r.mux.events r.inputs.items before after fault c.requires.readers
          (record { sound = subst H same c.known-2.ensures; needed = halted.1; written = subst S same begun })
          halted.0 (goes.told (map g.R.Source.failures readers) opened.failures)
          (λ write. goes.unrefused (was ∙ ap Err (same_err c.from_residual-in_err-driven.result passed.0 fault passed.1 is ∙ write))),
    ))

pub returns-in_err-driven-clause-memory : goal.returns-in_err-driven-clause-memory
returns-in_err-driven-clause-memory g c e =
    let answer = c.from_residual-in_err-driven in
    let passed = err_from_is_err_and answer.result answer.ensures.1 in
    (goes_failed g.R.Source.remaining g.R.Source.failures g.W.Sink.contents g.W.Sink.failures c.in_ok-run.run' c.drive-driven.new.self c.args.sink.now c.drive-driven.new.sink c.drive-driven.result answer.result passed.0 (c.in_err-driven.was ∙ ap Err (sym passed.2)) passed.1 c.drive-driven.ensures.goes).memory e

pub returns-in_err-driven-clause-write_failed : goal.returns-in_err-driven-clause-write_failed
returns-in_err-driven-clause-write_failed g c e =
    let answer = c.from_residual-in_err-driven in
    let passed = err_from_is_err_and answer.result answer.ensures.1 in
    (goes_failed g.R.Source.remaining g.R.Source.failures g.W.Sink.contents g.W.Sink.failures c.in_ok-run.run' c.drive-driven.new.self c.args.sink.now c.drive-driven.new.sink c.drive-driven.result answer.result passed.0 (c.in_err-driven.was ∙ ap Err (sym passed.2)) passed.1 c.drive-driven.ensures.goes).write_failed e

pub returns-in_err-finish-clause-begins : goal.returns-in_err-finish-clause-begins
returns-in_err-finish-clause-begins g c =
    let run : Run = record { schedule = c.args.schedule; limit = c.args.slots } in
    let readers = c.args.readers.items in
    let starts = map g.R.Source.remaining readers in
    let opened = c.in_ok-run.ensures in
    let old = c.in_ok-run.run' in
    let goes = c.drive-driven.ensures.goes in
    let done = c.in_ok-driven.was in
    let r = c.drive-driven.new.self in
    let before = g.W.Sink.contents c.args.sink.now in
    let after = g.W.Sink.contents c.drive-driven.new.sink in
    let is = is_fine c.drive-driven.result c.in_ok-driven.field-0 done goes.runs run c.args.limit starts opened.running in
    let sent = is_fine c.drive-driven.result c.in_ok-driven.field-0 done goes.written before (nothing_sent old.mux.run.schedule old.mux.events before old.output.writer opened.new opened.waiting) in
    let H : Run → Type 0 = λ v. IsSound (record { run = v; events = r.mux.events }) in
    let W : Run → Type 0 = λ v. Sends before after (bytes_of (emitted v.schedule r.mux.events)) r.output.writer in
    let all = none_waits before after (bytes_of (emitted run.schedule r.mux.events)) r.output.writer (is_fine c.drive-driven.result c.in_ok-driven.field-0 done c.drive-driven.ensures.flushed) (subst W is.run_is sent) in
    if_err_always c.from_residual-in_err-finish.result
    (λ fault. (
      r.mux.events,
      has_begun g.R.Source.remaining g.R.Source.failures run c.args.limit readers r.mux.events r.inputs.items before after fault c.requires.readers
          (record { sound = subst H is.run_is c.known-2.ensures; needed = is.needed; written = all_begun before after (bytes_of (emitted run.schedule r.mux.events)) all })
          (halted_running g.R.Source.remaining run c.args.limit starts r is) (goes.told (map g.R.Source.failures readers) opened.failures)
          (λ write. unrefused_running g.R.Source.remaining run c.args.limit starts r is),
    ))

pub returns-in_err-finish-clause-memory : goal.returns-in_err-finish-clause-memory
returns-in_err-finish-clause-memory g c e = is_fine c.drive-driven.result c.in_ok-driven.field-0 c.in_ok-driven.was c.drive-driven.ensures.goes.unfailed
