-- The numbers and names of the faults in ETSI TR 101 290, 5.2.1, and how a fault is printed.
use Rattle.std.specs.Prelude.{ℕ, ◌-◌, ◌^◌, List, [], ◌++◌, Option, Some, None, true, false, codes}
use Rattle.std.specs.Fmt.{decimal, digits, padded_integral, format_spec}
use Rattle.analyse.specs.declared.fault.Fault.{Fault}
use Rattle.analyse.specs.declared.fault_kind.FaultKind.{FaultKind}
use Rattle.analyse.specs.declared.fault_kind.FaultKind.TheVariants.{TsSyncLoss, SyncByteError, PatError2, ContinuityCountError, PmtError2, PidError}

abbrev pub number_of : FaultKind → List ℕ
number_of TsSyncLoss = codes "1.1"
number_of SyncByteError = codes "1.2"
number_of PatError2 = codes "1.3.a"
number_of ContinuityCountError = codes "1.4"
number_of PmtError2 = codes "1.5.a"
number_of PidError = codes "1.6"

abbrev pub name_of : FaultKind → List ℕ
name_of TsSyncLoss = codes "TS_sync_loss"
name_of SyncByteError = codes "Sync_byte_error"
name_of PatError2 = codes "PAT_error_2"
name_of ContinuityCountError = codes "Continuity_count_error"
name_of PmtError2 = codes "PMT_error_2"
name_of PidError = codes "PID_error"

-- four hexadecimal digits in upper case (profile)
abbrev pub pid_text : Option ℕ → List ℕ
pid_text None = codes "-"
pid_text (Some pid) = codes "0x" ++ padded_integral (format_spec 32 0 4 4 (2 ^ 64 - 1)) false [] (digits 16 true pid)

-- as `slot 501 1.5.a 0x0100` (profile)
abbrev pub fault_text : Fault → List ℕ
fault_text f = codes "slot " ++ decimal f.slot ++ codes " " ++ number_of f.kind ++ codes " " ++ pid_text f.pid
