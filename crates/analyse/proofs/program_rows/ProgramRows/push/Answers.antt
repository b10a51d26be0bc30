use Rattle.std.proofs.Common.{◌≡◌, List, ◌++◌, false, sym, ap, ◌∙◌}
use Rattle.std.proofs.lemmas.List.{append-nil}
use Rattle.std.specs.List.{list_any}
use Rattle.tables.specs.InForce.{SectionValue}
use Rattle.tables.specs.Pat.{PatValue}
use Rattle.analyse.specs.ProgramsWatching.{is_pat_in}
use Rattle.analyse.proofs.ProgramsLaws.{no_pats}
use Rattle.analyse.proofs.program_rows.ProgramRows.push.Goals as goal

pub returns-then-not-branch-clause-seen : goal.returns-then-not-branch-clause-seen
returns-then-not-branch-clause-seen c sections s =
    let none : list_any is_pat_in c.args.told.now ≡ false = sym c.in_ok-push_all.ensures.came ∙ c.if-not-branch.true in
    let pats = no_pats c.args.told.now none in
    let same = ap (λ (l : List (SectionValue PatValue)). sections ++ l) pats ∙ append-nil sections in
    record { run = c.in_ok-push_all.ensures.run sections s.run; rows = rw same (c.in_ok-push_all.ensures.rows ∙ s.rows) }
