use Rattle.std.proofs.Common.{option_map, ap, sym, ◌∙◌}
use Rattle.std.specs.List.{flat_map}
use Rattle.tables.specs.Pat.{PatValue}
use Rattle.acquire.specs.Seen.{AcquireState}
use Rattle.acquire.proofs.ProgramLaws.{rows_found}
use Rattle.acquire.proofs.acquisition.Acquire.pat.Goals as goal

pub returns-clause-pat : goal.returns-clause-pat
returns-clause-pat c wanted packets seen =
    ap (option_map (flat_map (λ (s : PatValue). s.rows))) (c.pat.ensures ∙ ap (λ (a : AcquireState). a.programs.pat.table.found) c.self.view_is)
    ∙ sym (rows_found c.args.self.now.programs.pat.table packets seen.programs.sought.taken)
