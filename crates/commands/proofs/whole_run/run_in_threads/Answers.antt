use Rattle.std.proofs.Common.{rules, [], map, ap, ◌∙◌}
use Rattle.std.proofs.lemmas.Simd.{map-map}
use Rattle.std.proofs.lemmas.Result.{IfOk-at_ok}
use Rattle.mux.specs.History.{Run}
use Rattle.outlet.specs.declared.run_fault.RunFault.TheVariants as run_faults
use Rattle.threaded.proofs.OutcomeLaws.{begun_nothing}
use Rattle.threaded.proofs.BegunLaws.{begun_of_run}
use Rattle.commands.proofs.whole_run.run_in_threads.Goals as goal

pub returns-in-Ok-without_gates-clause-runs : goal.returns-in-Ok-without_gates-clause-runs
returns-in-Ok-without_gates-clause-runs g c =
    let lefts = ap (map g.R.Source.remaining) c.in-Ok-without_gates.ensures ∙ map-map g.R.Source.remaining (λ pair. pair.0) _ in
    rw lefts (search rules)

pub returns-in-Ok-without_gates-clause-read_failed : goal.returns-in-Ok-without_gates-clause-read_failed
returns-in-Ok-without_gates-clause-read_failed g c =
    let told = IfOk-at_ok _ c.in_default-Ok.is-1 c.run_threads.ensures.read_failed in
    rw c.in-Ok-without_gates.ensures (rw c.in_default-Ok.is-1 told)

-- there was no memory for the gates, and nothing was run
pub returns-in_default-clause-begins : goal.returns-in_default-clause-begins
returns-in_default-clause-begins g c =
    let run : Run = record { schedule = c.args.schedule; limit = c.args.slots } in
    ([], begun_nothing g.R.Source.remaining g.R.Source.failures run c.args.limit c.args.readers.items (g.W.Sink.contents c.args.writer) (g.W.Sink.failures c.args.writer) run_faults.Memory c.requires.readers c.known.ensures c.requires.slots)

-- there was none for the list of the readers of a run that ended
pub returns-in-Err-clause-begins : goal.returns-in-Err-clause-begins
returns-in-Err-clause-begins g c =
    let run : Run = record { schedule = c.args.schedule; limit = c.args.slots } in
    let done = c.in_default-Ok in
    let ended = IfOk-at_ok _ done.is-1 c.run_threads.ensures.runs in
    let told = IfOk-at_ok _ done.is-1 c.run_threads.ensures.read_failed in
    let size = IfOk-at_ok _ done.is-1 c.run_threads.ensures.lent in
    let unfailed = IfOk-at_ok _ done.is-1 c.run_threads.ensures.wrote in (
      ended.0,
      begun_of_run g.R.Source.remaining g.R.Source.failures (record { run = run; events = ended.0 }) c.args.limit c.args.readers.items done.lent.items
          (g.W.Sink.contents c.args.writer) (g.W.Sink.contents c.run_threads.result.0) done.summary (g.W.Sink.failures c.args.writer) (g.W.Sink.failures c.run_threads.result.0)
          c.requires.readers size ended.1 told unfailed,
    )
