-- What went out of a run, packet by packet (profile).
use Rattle.std.specs.Prelude.{◌≡◌, ℕ, min, List, length}
use Rattle.std.specs.List.{flat_map}
use Rattle.analyse.specs.Faults.{faults}
use Rattle.analyse.specs.Analysed.{HasAccepted}
use Rattle.analyse.specs.FaultReport.{IsReportOf}
use Rattle.outlet.specs.declared.slot_writer.SlotWriter.{SlotWriter}

-- packets as bytes, one behind the other
abbrev pub bytes_of : List (List ℕ) → List ℕ
bytes_of packets = flat_map (λ packet. packet) packets

-- how many faults an analyser tells of these slots, as far as a number of 64 bits counts them
abbrev pub fault_count : ℕ → ℕ → List (List ℕ) → ℕ
fault_count rate period slots = min (length (faults rate period slots)) 18446744073709551615

-- these packets were analysed, and their faults are counted and reported
pub record HasAnalysed (s : SlotWriter) (rate period : ℕ) (slots : List (List ℕ)) : Type 0 where
  pub seen : HasAccepted s.analyser slots
  pub rate_is : s.analyser.rate ≡ rate
  pub period_is : s.analyser.period ≡ period
  pub faults_are : s.faults ≡ fault_count rate period slots
  pub reported : IsReportOf s.report (faults rate period slots)
