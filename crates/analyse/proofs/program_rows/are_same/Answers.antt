use Rattle.std.proofs.Common.{sym, ◌∙◌}
use Rattle.analyse.proofs.ProgramsLaws.{same_rows}
use Rattle.analyse.proofs.program_rows.are_same.Goals as goal

pub returns : goal.returns
returns c e = same_rows c.args.rows.now c.args.other.now (sym c.eq.ensures ∙ e)
