-- What is reported of faults (profile).
use Rattle.std.specs.Prelude.{◌≡◌, List, take}
use Rattle.analyse.specs.declared.fault.Fault.{Fault}
use Rattle.analyse.specs.ReportValue.{ReportValue}
use Rattle.analyse.specs.FaultCounts.{AreCountsOf}

-- the first ten of these faults, in their order, and how many there are of each kind
pub record IsReportOf (report : ReportValue) (told : List Fault) : Type 0 where
  pub first_is : report.first ≡ take 10 told
  pub counts_are : AreCountsOf report.counts told
