use Rattle.std.proofs.Common.{[], List, map, length, Err, ap, ◌∙◌, sym, subst, inl, inr, refl, arith}
use Rattle.std.proofs.lemmas.List.{length-map}
use Rattle.std.proofs.lemmas.Result.{on_ok_weaker}
use Rattle.std.specs.Prelude.{IfOk, IfErr}
use Rattle.mux.specs.History.{Run}
use Rattle.mux.specs.declared.event.Event.{Event}
use Rattle.reading.specs.Failures.{FailsOnce}
use Rattle.station.specs.Stations.{StationValue}
use Rattle.outlet.specs.declared.run_fault.RunFault.TheVariants as run_faults
use Rattle.outlet.proofs.SendingLaws.{if_err_is, same_err}
use Rattle.outcome.proofs.ResultLaws.{not_write}
use Rattle.outcome.specs.Outcome.{HasRun}
use Rattle.threaded.specs.Outcome.{HasBegun}
use Rattle.workers.proofs.CrewLaws.{seated_workers}
use Rattle.handing.proofs.DrivingLaws.{same_either}
use Rattle.threaded.proofs.ResultLaws.{unless_write, fine_part, if_ok_both}
use Rattle.threaded.proofs.OutcomeLaws.{ready_count, ready_unsent, ready_seated, run_is, begun_nothing, run_failed, runs_through, is_cut_short, run_ended, lent_count, failures_told}
use Rattle.threaded.proofs.run.run_threads.Goals as goal

pub open-requires : goal.open-requires
open-requires g c = c.requires.slots

pub work-outlet-requires-clause-count : goal.work-outlet-requires-clause-count
work-outlet-requires-clause-count g c κs lives =
    let o = c.in-Ok.opening in
    omega (arith, ready_count c.args.schedule c.args.slots c.args.readers.items c.args.gates.items o.station o.seats.items c.in-Ok.ensures.ready c.requires.readers c.requires.gates)

pub work-outlet-requires-clause-unsent : goal.work-outlet-requires-clause-unsent
work-outlet-requires-clause-unsent g c κs lives =
    let o = c.in-Ok.opening in
    ready_unsent c.args.schedule c.args.slots c.args.readers.items c.args.gates.items o.station o.seats.items c.in-Ok.ensures.ready c.requires.readers c.requires.gates

pub work-outlet-requires-clause-none : goal.work-outlet-requires-clause-none
work-outlet-requires-clause-none g c κs lives = c.in-Ok.ensures.handles.0

pub work-outlet-requires-clause-room : goal.work-outlet-requires-clause-room
work-outlet-requires-clause-room g c κs lives = c.in-Ok.ensures.handles.1

pub join_all-requires-clause-none : goal.join_all-requires-clause-none
join_all-requires-clause-none g c = c.in-Ok.ensures.ended.0

pub join_all-requires-clause-room : goal.join_all-requires-clause-room
join_all-requires-clause-room g c =
    let w = c.work-outlet in
    let size = length-map w.new.handles.items (λ h. h.promise.worker.value) in
    omega (arith, w.ensures.started.within, size, w.new.handles.ok.0, c.in-Ok.ensures.ended.1)

pub join_all-requires-clause-station : goal.join_all-requires-clause-station
join_all-requires-clause-station g c =
    let o = c.in-Ok.opening in
    let w = c.work-outlet in
    let seated = ready_seated c.args.schedule c.args.slots c.args.readers.items c.args.gates.items o.station o.seats.items c.in-Ok.ensures.ready c.requires.readers c.requires.gates in
    let same = same_either w.result.1 o.station w.new.station o.output w.result.0.output (g.W.Sink.contents c.args.writer) (g.W.Sink.contents w.result.0.sink) w.ensures.drives.driven w.ensures.drives.broken in
    seated_workers c.args.limit c.args.schedule o.station w.new.station o.seats.items (map (λ h. h.promise.worker.value) w.new.handles.items) seated same.rings w.ensures.started

pub tell-requires : goal.tell-requires
tell-requires g c =
    let o = c.in-Ok.opening in
    let w = c.work-outlet in
    let ready = c.in-Ok.ensures.ready in
    let seats = ready_count c.args.schedule c.args.slots c.args.readers.items c.args.gates.items o.station o.seats.items ready c.requires.readers c.requires.gates in
    let same = same_either w.result.1 o.station w.new.station o.output w.result.0.output (g.W.Sink.contents c.args.writer) (g.W.Sink.contents w.result.0.sink) w.ensures.drives.driven w.ensures.drives.broken in
    let plan = ap (λ (s : StationValue). s.history.run) c.join_all.ensures.same ∙ run_is c.args.schedule c.args.slots o.station w.new.station ready.ports ready.opened same in
    on_ok_weaker w.result.1 (λ all. c.join_all.ensures.count ∙ all ∙ seats ∙ ap (λ (r : Run). length r.schedule.first.request.inputs) (sym plan)) w.ensures.all

pub returns-clause-runs : goal.returns-clause-runs
returns-clause-runs g c =
    let w = c.work-outlet in
    let opening = c.in-Ok.ensures in
    let S : g.row.W.Denot → Type 0 = λ v. IfOk c.tell.result.1 (λ done. (h : List Event) × HasRun (record { run = record { schedule = c.args.schedule; limit = c.args.slots }; events = h }) c.args.limit
    (map g.R.Source.remaining c.args.readers.items) (map (λ lent. g.R.Source.remaining lent.0) done.1.items) (g.W.Sink.contents c.args.writer) (g.W.Sink.contents v) done.0) in
    subst S (sym c.tell.ensures.sink)
    (if_ok_both c.tell.result.1 c.tell.ensures.told c.tell.ensures.well
    (λ done told well. run_ended g.R.Source.remaining g.R.Source.failures c.args.schedule c.args.slots c.args.limit c.in-Ok.opening.station c.args.readers.items c.args.gates.items c.in-Ok.opening.seats.items c.in-Ok.opening.output (g.W.Sink.contents c.args.writer) (g.W.Sink.contents w.result.0.sink) done.0 done.1.items opening.ready c.requires.readers c.requires.gates
    (runs_through g.R.Source.remaining g.R.Source.failures g.W.Sink.contents g.W.Sink.failures c.args.limit c.args.schedule c.in-Ok.opening.station w.new.station c.join_all.new.station c.in-Ok.opening.seats.items (map (λ h. h.promise.worker.value) w.new.handles.items) c.join_all.new.ended.items (length w.new.handles.items)
    (record { output = c.in-Ok.opening.output; sink = c.args.writer }) w.result.0 w.result.1
    w.ensures.started (length-map w.new.handles.items (λ h. h.promise.worker.value)) w.ensures.all w.ensures.some w.ensures.crewed w.ensures.drives
    c.join_all.ensures.same c.join_all.ensures.ended c.join_all.ensures.count c.known-2.ensures.sound c.known-2.ensures.lawful done.0 done.1.items well.0 well.1 told) c.requires.slots opening.waiting opening.analysed))

pub returns-clause-begins : goal.returns-clause-begins
returns-clause-begins g c =
    let w = c.work-outlet in
    let opening = c.in-Ok.ensures in
    let S : g.row.W.Denot → Type 0 = λ v. IfErr c.tell.result.1 (λ fault. (h : List Event) × HasBegun g.R.Source.remaining g.R.Source.failures (record { run = record { schedule = c.args.schedule; limit = c.args.slots }; events = h }) c.args.limit
    c.args.readers.items (g.W.Sink.contents c.args.writer) (g.W.Sink.contents v) (g.W.Sink.failures c.args.writer) (g.W.Sink.failures v) fault) in
    subst S (sym c.tell.ensures.sink)
    (if_err_is c.tell.result.1
    (λ fault is. run_failed g.R.Source.remaining g.R.Source.failures c.args.schedule c.args.slots c.args.limit c.in-Ok.opening.station c.args.readers.items c.args.gates.items c.in-Ok.opening.seats.items c.in-Ok.opening.output (g.W.Sink.contents c.args.writer) (g.W.Sink.contents w.result.0.sink) (g.W.Sink.failures c.args.writer) (g.W.Sink.failures w.result.0.sink) fault opening.ready c.requires.readers c.requires.gates opening.waiting
    (is_cut_short g.R.Source.remaining g.R.Source.failures g.W.Sink.contents g.W.Sink.failures c.args.limit c.args.schedule c.in-Ok.opening.station w.new.station c.join_all.new.station c.in-Ok.opening.seats.items (map (λ h. h.promise.worker.value) w.new.handles.items) c.join_all.new.ended.items (length w.new.handles.items)
    (record { output = c.in-Ok.opening.output; sink = c.args.writer }) w.result.0 w.result.1
    w.ensures.started (length-map w.new.handles.items (λ h. h.promise.worker.value)) w.ensures.all w.ensures.some w.ensures.crewed w.ensures.drives
    c.join_all.ensures.same c.join_all.ensures.ended c.join_all.ensures.count c.known-2.ensures.sound c.known-2.ensures.lawful fault (λ e. c.tell.ensures.write (is ∙ ap Err e)) (λ e. c.tell.ensures.memory (is ∙ ap Err e)))))

pub returns-clause-lent : goal.returns-clause-lent
returns-clause-lent g c =
    let w = c.work-outlet in
    if_ok_both c.tell.result.1 c.tell.ensures.told c.tell.ensures.well
    (λ done told well. lent_count g.R.Source.remaining g.R.Source.failures c.args.schedule c.args.slots c.args.limit c.in-Ok.opening.station c.args.readers.items c.args.gates.items c.in-Ok.opening.seats.items c.in-Ok.opening.output (g.W.Sink.contents c.args.writer) (g.W.Sink.contents w.result.0.sink) done.0 done.1.items c.in-Ok.ensures.ready c.requires.readers c.requires.gates
    (runs_through g.R.Source.remaining g.R.Source.failures g.W.Sink.contents g.W.Sink.failures c.args.limit c.args.schedule c.in-Ok.opening.station w.new.station c.join_all.new.station c.in-Ok.opening.seats.items (map (λ h. h.promise.worker.value) w.new.handles.items) c.join_all.new.ended.items (length w.new.handles.items)
    (record { output = c.in-Ok.opening.output; sink = c.args.writer }) w.result.0 w.result.1
    w.ensures.started (length-map w.new.handles.items (λ h. h.promise.worker.value)) w.ensures.all w.ensures.some w.ensures.crewed w.ensures.drives
    c.join_all.ensures.same c.join_all.ensures.ended c.join_all.ensures.count c.known-2.ensures.sound c.known-2.ensures.lawful done.0 done.1.items well.0 well.1 told))

pub returns-clause-read_failed : goal.returns-clause-read_failed
returns-clause-read_failed g c =
    let w = c.work-outlet in
    if_ok_both c.tell.result.1 c.tell.ensures.told c.tell.ensures.well
    (λ done told well. failures_told g.R.Source.remaining g.R.Source.failures c.args.schedule c.args.slots c.args.limit c.in-Ok.opening.station c.args.readers.items c.args.gates.items c.in-Ok.opening.seats.items c.in-Ok.opening.output (g.W.Sink.contents c.args.writer) (g.W.Sink.contents w.result.0.sink) done.0 done.1.items c.in-Ok.ensures.ready c.requires.readers c.requires.gates
    (runs_through g.R.Source.remaining g.R.Source.failures g.W.Sink.contents g.W.Sink.failures c.args.limit c.args.schedule c.in-Ok.opening.station w.new.station c.join_all.new.station c.in-Ok.opening.seats.items (map (λ h. h.promise.worker.value) w.new.handles.items) c.join_all.new.ended.items (length w.new.handles.items)
    (record { output = c.in-Ok.opening.output; sink = c.args.writer }) w.result.0 w.result.1
    w.ensures.started (length-map w.new.handles.items (λ h. h.promise.worker.value)) w.ensures.all w.ensures.some w.ensures.crewed w.ensures.drives
    c.join_all.ensures.same c.join_all.ensures.ended c.join_all.ensures.count c.known-2.ensures.sound c.known-2.ensures.lawful done.0 done.1.items well.0 well.1 told))

pub returns-clause-wrote : goal.returns-clause-wrote
returns-clause-wrote g c =
    let w = c.work-outlet in
    on_ok_weaker c.tell.result.1 (λ well. ap g.W.Sink.failures c.tell.ensures.sink ∙ fine_part w.result.1 well.0 w.ensures.drives.unfailed) c.tell.ensures.well

pub returns-clause-memory : goal.returns-clause-memory
returns-clause-memory g c e =
    let w = c.work-outlet in
    let F : g.row.W.Denot → Type 0 = λ v. FailsOnce (g.W.Sink.failures c.args.writer) (g.W.Sink.failures v) in
    elim (unless_write w.result.1 w.ensures.drives.unfailed w.ensures.drives.memory w.ensures.drives.failed) [
      | inl unfailed ↦ inl (ap g.W.Sink.failures c.tell.ensures.sink ∙ unfailed)
      | inr once ↦ inr (subst F (sym c.tell.ensures.sink) once)
    ]

pub returns-clause-write_failed : goal.returns-clause-write_failed
returns-clause-write_failed g c e =
    let F : g.row.W.Denot → Type 0 = λ v. FailsOnce (g.W.Sink.failures c.args.writer) (g.W.Sink.failures v) in
    subst F (sym c.tell.ensures.sink) (c.work-outlet.ensures.drives.failed (c.tell.ensures.write e).0)

-- there was no memory to open it
pub returns-in_default-clause-begins : goal.returns-in_default-clause-begins
returns-in_default-clause-begins g c =
    let run : Run = record { schedule = c.args.schedule; limit = c.args.slots } in
    ([], begun_nothing g.R.Source.remaining g.R.Source.failures run c.args.limit c.args.readers.items (g.W.Sink.contents c.args.writer) (g.W.Sink.failures c.args.writer) run_faults.Memory c.requires.readers c.known.ensures c.requires.slots)

pub returns-in_default-clause-memory : goal.returns-in_default-clause-memory
returns-in_default-clause-memory g c is = inl refl

pub returns-in_default-clause-write_failed : goal.returns-in_default-clause-write_failed
returns-in_default-clause-write_failed g c is = absurd (not_write (same_err _ run_faults.Memory run_faults.Write refl is))
