use Rattle.std.proofs.Common.{refl, ◌∙◌}
use Rattle.analyse.proofs.ProgramsLaws.{no_rows}
use Rattle.analyse.proofs.program_rows.ProgramRows.new.Goals as goal

pub returns : goal.returns
returns c = record { run = c.new.ensures.stands; rows = c.new-2.ensures.items ∙ no_rows 256 refl }
