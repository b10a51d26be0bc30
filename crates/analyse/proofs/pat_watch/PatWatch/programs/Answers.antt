use Rattle.std.proofs.Common.{ap, ◌∙◌}
use Rattle.analyse.specs.PatWatching.{PatState}
use Rattle.analyse.proofs.ProgramsLaws.{rows_behind}
use Rattle.analyse.proofs.pat_watch.PatWatch.programs.Goals as goal

pub returns-clause-in_force : goal.returns-clause-in_force
returns-clause-in_force c slots s = c.rows.ensures ∙ ap (λ (w : PatState). w.programs.rows) c.self.view_is ∙ s.programs.rows ∙ rows_behind slots
