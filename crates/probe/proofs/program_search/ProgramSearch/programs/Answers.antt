use Rattle.std.proofs.Common.{◌≡◌, ℕ, List, [], Option, Some, Result, Ok, Err, Vec, Global, unwrap_or, subst, sym, ap, ◌∙◌}
use Rattle.std.specs.Result.{IfOk}
use Rattle.tables.specs.Pat.{PatValue}
use Rattle.tables.specs.declared.pat_row.PatRow.{PatRow}
use Rattle.acquire.specs.Findings.{pat_found}
use Rattle.acquire.specs.Seen.{AcquireState, HasSeen}
use Rattle.probe.specs.Programs.{programs_of, rows_of, programs_among}
use Rattle.probe.proofs.program_search.ProgramSearch.programs.Goals as goal

-- the programs of some rows, which are those of the PAT among packets
programs_found : {E : Type 0} (r : Result (Vec PatRow Global) E) (rows : List PatRow) (Seen : List (List ℕ) → Type 0)
    → IfOk r (λ v. v.items ≡ programs_of rows) → ((packets : List (List ℕ)) → Seen packets → Some rows ≡ pat_found packets)
    → IfOk r (λ v. (packets : List (List ℕ)) → Seen packets → v.items ≡ programs_among packets)
programs_found (Ok v) rows Seen made is =
    λ packets seen. made ∙ ap (λ (o : Option (List PatRow)). programs_of (unwrap_or o [])) (is packets seen)
programs_found (Err e) rows Seen made is = tt

pub returns-in-Some : goal.returns-in-Some
returns-in-Some c =
    let Seen : List (List ℕ) → Type 0 = HasSeen [] c.args.self.now in
    programs_found c.programs_in.result (rows_of c.deref.result.now) Seen c.programs_in.ensures
    (λ packets seen.
    let P : AcquireState → Type 0 = λ a. HasSeen [] a packets in
    ap (λ (sections : List PatValue). Some (rows_of sections)) c.deref.ensures.value
    ∙ c.in-Some.ensures.pat [] packets (subst P (sym c.self.view_is) seen))
