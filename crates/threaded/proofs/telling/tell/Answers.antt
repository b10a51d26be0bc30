use Rattle.std.proofs.Common.{List, length, Err, ap, ◌∙◌, sym, subst, inl, inr, refl}
use Rattle.std.specs.List.{list_any}
use Rattle.mux.specs.History.{History}
use Rattle.outlet.specs.declared.run_fault.RunFault.TheVariants as run_faults
use Rattle.outlet.proofs.SendingLaws.{same_err}
use Rattle.outcome.specs.Ending.{IsTold}
use Rattle.outcome.specs.declared.ended.Ended.{Ended}
use Rattle.outcome.proofs.ResultLaws.{not_write, is_fine}
use Rattle.workers.specs.Crews.{wants_memory}
use Rattle.threaded.proofs.ReportLaws.{all_had_memory, one_wanted_memory}
use Rattle.threaded.proofs.ResultLaws.{ok_fine}
use Rattle.threaded.proofs.telling.tell.Goals as goal

-- a worker wanted memory

pub returns-then-wanted_memory-clause-memory : goal.returns-then-wanted_memory-clause-memory
returns-then-wanted_memory-clause-memory g c e =
    let told = c.wanted_memory.ensures ∙ ap (λ (xs : List (Ended _)). list_any (λ x. wants_memory x.report.stopped) xs) c.as_slice.ensures.value in
    inr (one_wanted_memory c.args.ended.items (sym told ∙ c.if-wanted_memory.true))

-- none did, and the run failed otherwise

pub returns-in-Err-clause-write : goal.returns-in-Err-clause-write
returns-in-Err-clause-write g c e =
    let told = c.wanted_memory.ensures ∙ ap (λ (xs : List (Ended _)). list_any (λ x. wants_memory x.report.stopped) xs) c.as_slice.ensures.value in
    (c.in-Err.is ∙ ap Err (same_err _ c.in-Err.fault run_faults.Write refl e), all_had_memory c.args.ended.items (sym told ∙ c.if-wanted_memory.false))

pub returns-in-Err-clause-memory : goal.returns-in-Err-clause-memory
returns-in-Err-clause-memory g c e =
    let fault = same_err _ c.in-Err.fault run_faults.Memory refl e in
    inl (λ write. not_write (sym fault ∙ same_err c.args.driven c.in-Err.fault run_faults.Write c.in-Err.is write))

-- it ended

pub end_run-requires : goal.end_run-requires
end_run-requires g c = is_fine c.args.driven _ c.in-Ok.is c.requires ∙ ap (λ (h : History). length h.run.schedule.first.request.inputs) (sym c.mux.ensures)

pub returns-in-Ok-end_run-clause-told : goal.returns-in-Ok-end_run-clause-told
returns-in-Ok-end_run-clause-told g c =
    let T : History → Type 0 = λ h. IsTold h.run.schedule h.events c.args.ended.items c.args.outlet.output c.in-Ok-end_run.done.0 c.in-Ok-end_run.done.1.items in
    subst T c.mux.ensures c.in-Ok-end_run.ensures

pub returns-in-Ok-end_run-clause-well : goal.returns-in-Ok-end_run-clause-well
returns-in-Ok-end_run-clause-well g c =
    let told = c.wanted_memory.ensures ∙ ap (λ (xs : List (Ended _)). list_any (λ x. wants_memory x.report.stopped) xs) c.as_slice.ensures.value in
    (ok_fine c.args.driven _ c.in-Ok.is, all_had_memory c.args.ended.items (sym told ∙ c.if-wanted_memory.false))
