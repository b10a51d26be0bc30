use Rattle.std.proofs.Common.{◌==◌, ◌∙◌, ap, is_some}
use Rattle.std.specs.List.{position}
use Rattle.tables.proofs.InForceLaws.{find_is_some}
use Rattle.tables.proofs.table_run.TableRun.holds.Goals as goal

pub returns : goal.returns
returns g c =
    c.is_some.ensures
    ∙ ap is_some c.place_of.ensures
    ∙ ap (λ l. is_some (position (λ s. s.header.section_number == c.args.number) l)) (c.deref.ensures.value ∙ c.self.view_is)
    ∙ find_is_some (λ s. s.header.section_number == c.args.number) c.args.self.now
