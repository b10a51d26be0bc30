-- A report of faults as contracts see it: the faults that are kept, and how many there are of each kind.
use Rattle.std.specs.Prelude.{List}
use Rattle.analyse.specs.declared.fault.Fault.{Fault}
use Rattle.analyse.specs.declared.fault_counts.FaultCounts.{FaultCounts}

pub record ReportValue : Type 0 where
  pub first : List Fault
  pub counts : FaultCounts
