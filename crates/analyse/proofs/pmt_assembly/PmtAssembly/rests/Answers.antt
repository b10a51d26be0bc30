use Rattle.std.proofs.Common.{sym, subst, ◌∙◌}
use Rattle.analyse.specs.declared.pmt_assembly.PmtAssembly.{PmtAssembly}
use Rattle.analyse.specs.Quiet.{LeavesAssembly}
use Rattle.analyse.proofs.QuietLaws.{off_from_not, between_rests}
use Rattle.analyse.proofs.pmt_assembly.PmtAssembly.rests.Goals as goal

pub returns-in-Between : goal.returns-in-Between
returns-in-Between c t s stands =
    subst (λ (a : PmtAssembly). LeavesAssembly a s c.args.packet.now) (sym c.in-Between.is)
    (between_rests s c.args.packet.now (rw c.in-Between.is at stands) (sym c.unit_start.ensures ∙ off_from_not c.unit_start.result t))
