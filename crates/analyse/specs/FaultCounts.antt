-- How many faults there are of each kind (profile; the kinds are those of ETSI TR 101 290, 5.2.1).
use Rattle.std.specs.Prelude.{◌≡◌, ◌==◌, ℕ, List, length, filter, min}
use Rattle.analyse.specs.declared.fault.Fault.{Fault}
use Rattle.analyse.specs.declared.fault_kind.FaultKind.{FaultKind}
use Rattle.analyse.specs.declared.fault_kind.FaultKind.TheVariants.{TsSyncLoss, SyncByteError, PatError2, ContinuityCountError, PmtError2, PidError}
use Rattle.analyse.specs.declared.fault_counts.FaultCounts.{FaultCounts}

-- which of the first priority's faults it is: 1.1 to 1.6
abbrev pub number_in_priority : FaultKind → ℕ
number_in_priority TsSyncLoss = 1
number_in_priority SyncByteError = 2
number_in_priority PatError2 = 3
number_in_priority ContinuityCountError = 4
number_in_priority PmtError2 = 5
number_in_priority PidError = 6

-- how many of these faults have this number, as far as a number of 64 bits counts them
abbrev pub count_of : ℕ → List Fault → ℕ
count_of number told = min (length (filter (λ fault. number_in_priority fault.kind == number) told)) 18446744073709551615

-- these faults were counted
pub record AreCountsOf (counts : FaultCounts) (told : List Fault) : Type 0 where
  pub ts_sync_loss_is : counts.ts_sync_loss ≡ count_of 1 told
  pub sync_byte_error_is : counts.sync_byte_error ≡ count_of 2 told
  pub pat_error_2_is : counts.pat_error_2 ≡ count_of 3 told
  pub continuity_count_error_is : counts.continuity_count_error ≡ count_of 4 told
  pub pmt_error_2_is : counts.pmt_error_2 ≡ count_of 5 told
  pub pid_error_is : counts.pid_error ≡ count_of 6 told

-- the count of a kind
abbrev pub count_in : FaultCounts → FaultKind → ℕ
count_in counts TsSyncLoss = counts.ts_sync_loss
count_in counts SyncByteError = counts.sync_byte_error
count_in counts PatError2 = counts.pat_error_2
count_in counts ContinuityCountError = counts.continuity_count_error
count_in counts PmtError2 = counts.pmt_error_2
count_in counts PidError = counts.pid_error
