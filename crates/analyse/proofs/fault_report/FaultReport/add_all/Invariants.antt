use Rattle.std.proofs.Common.{List, take, ◌++◌}
use Rattle.analyse.specs.declared.fault.Fault.{Fault}
use Rattle.analyse.specs.FaultReport.{IsReportOf}
use Rattle.analyse.proofs.fault_report.FaultReport.add_all.Given as goal

abbrev pub invariant-loop-fault : goal.invariant-loop-fault
invariant-loop-fault l = (told : List Fault) → IsReportOf l.initial.self told → IsReportOf l.self (told ++ take l.fault-index l.faults)
