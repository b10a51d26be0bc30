use Rattle.std.proofs.Common.{rules}
use Rattle.selection.proofs.FaultLaws.{program_fault_by}
use Rattle.selection.proofs.faults.program_fault.Goals as goal

pub returns-then-has_scrambled : goal.returns-then-has_scrambled
returns-then-has_scrambled c = rw program_fault_by (search rules)

pub returns-then-has_missing_rate : goal.returns-then-has_missing_rate
returns-then-has_missing_rate c = rw program_fault_by (search rules)

pub returns-then-has_unknown : goal.returns-then-has_unknown
returns-then-has_unknown c = rw program_fault_by (search rules)

pub returns : goal.returns
returns c = rw program_fault_by (search rules)
