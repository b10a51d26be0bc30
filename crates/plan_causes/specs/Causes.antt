-- Where a plan is at fault, and what was found there (profile).
use Rattle.std.specs.Prelude.{◌≡◌, ◌≢◌, ◌+◌, ◌*◌, ◌/◌, ◌<◌, ℕ, true, false, min, List, Option, None, IsSomeAnd, slice_get, option_and_then, Any}
use Rattle.acquire.specs.Findings.{Findings}
use Rattle.tables.specs.Pmt.{PmtValue, pmt_section_length_of}
use Rattle.tables.specs.Nit.{nit_section_length_of}
use Rattle.tables.specs.Sdt.{rows_room}
use Rattle.tables.specs.declared.pmt_row.PmtRow.{PmtRow}
use Rattle.tables.specs.declared.sdt_row.SdtRow.{SdtRow}
use Rattle.rounds.specs.Rounds.{gap_of, fast_limit_of, sdt_limit_of}
use Rattle.request.specs.declared.plan_fault.PlanFault.{PlanFault}
use Rattle.request.specs.declared.plan_fault.PlanFault.TheVariants as Fault
use Rattle.request.specs.declared.stream.Stream.{Stream}
use Rattle.request.specs.Request.{RequestValue, ServiceValue}
use Rattle.selection.specs.Chosen.{ChosenValue, chosen_of, row_of_program, found_row, service_type_of, lacks_program, has_ca, streams_of, is_named, is_elementary, no_pcr_pid}
use Rattle.output_tables.specs.Output.{output_pmt, output_nit, output_row, row_length, fast_count, slow_count}
use Rattle.plan_causes.specs.ServiceNumbers.{numbers_of}
use Rattle.plan_causes.specs.declared.service_numbers.ServiceNumbers.{ServiceNumbers}
use Rattle.plan_causes.specs.declared.row_lack.RowLack.{RowLack}
use Rattle.plan_causes.specs.declared.row_lack.RowLack.TheVariants as Lack
use Rattle.plan_causes.specs.declared.ca_place.CaPlace.{CaPlace}
use Rattle.plan_causes.specs.declared.ca_place.CaPlace.TheVariants as Ca
use Rattle.plan_causes.specs.declared.missing_stream.MissingStream.{MissingStream}
use Rattle.plan_causes.specs.declared.missing_stream.MissingStream.TheVariants as Missing
use Rattle.plan_causes.specs.declared.large_table.LargeTable.{LargeTable}
use Rattle.plan_causes.specs.declared.large_table.LargeTable.TheVariants as Large
use Rattle.plan_causes.specs.declared.plan_cause.PlanCause.{PlanCause}
use Rattle.plan_causes.specs.declared.plan_cause.PlanCause.TheVariants.{NoProgram, NoSdtRow, CaFound, RateMissing, StreamUnknown, TooLarge, RoundTooLong, PeriodTooLong}

-- the fault that it is a cause of
abbrev pub fault_of : PlanCause → PlanFault
fault_of (NoProgram service) = Fault.NoProgram
fault_of (NoSdtRow service lack) = Fault.NoSdtRow
fault_of (CaFound service place) = Fault.CaFound
fault_of (RateMissing service stream) = Fault.RateMissing
fault_of (StreamUnknown service pid) = Fault.StreamUnknown
fault_of (TooLarge table) = Fault.TooLarge
fault_of (RoundTooLong period shortest) = Fault.RoundTooLong
fault_of (PeriodTooLong period longest) = Fault.PeriodTooLong

-- a service of the request has these numbers, and this is so of it
abbrev pub OfService : RequestValue → ServiceNumbers → (ServiceValue → Type 0) → Type 0
OfService r numbers P = Any (λ (s : ServiceValue). (numbers_of s ≡ numbers) × P s) r.services

-- one of the chosen services has them, and this is so of it
abbrev pub OfChosen : List ChosenValue → ServiceNumbers → (ChosenValue → Type 0) → Type 0
OfChosen chosen numbers P = Any (λ (c : ChosenValue). (numbers_of c.service ≡ numbers) × P c) chosen

-- the rows of an input's SDT, where a complete one was found
abbrev pub sdt_of : List Findings → ℕ → Option (List SdtRow)
sdt_of found input = option_and_then (λ (f : Findings). f.sdt) (slice_get found input)

-- what is lacking: the SDT, a row in it, or in the first row a service descriptor whose lengths fill it
abbrev pub IsRowLack : List Findings → ServiceValue → RowLack → Type 0
IsRowLack found s Lack.NoSdt = sdt_of found s.input ≡ None
IsRowLack found s Lack.NoRow = IsSomeAnd (sdt_of found s.input) (λ rows. row_of_program s.program rows ≡ None)
IsRowLack found s Lack.NoDescriptor = IsSomeAnd (found_row found s) (λ row. service_type_of row ≡ None)

-- a CA descriptor stands there, or free_CA_mode is 1
abbrev pub IsCaPlace : ChosenValue → CaPlace → Type 0
IsCaPlace c Ca.Program = has_ca c.pmt.program_info ≡ true
IsCaPlace c (Ca.Stream pid) = Any (λ (row : PmtRow). (row.elementary_pid ≡ pid) × (has_ca row.descriptors ≡ true)) c.pmt.rows
IsCaPlace c Ca.FreeCaMode = c.row.free_ca_mode ≡ true

-- the PMT names it, and no row of the service has it
abbrev pub IsMissing : List Stream → PmtValue → MissingStream → Type 0
IsMissing streams pmt (Missing.Elementary pid stream_type) =
    Any (λ (row : PmtRow). (row.elementary_pid ≡ pid) × (row.stream_type ≡ stream_type)) pmt.rows × (is_named streams pid ≡ false)
IsMissing streams pmt (Missing.Pcr pid) = (pmt.pcr_pid ≡ pid) × (pid ≢ no_pcr_pid) × (is_named streams pid ≡ false)

-- a row of the service has the PID, and the PMT doesn't name it
abbrev pub IsUnknown : List Stream → PmtValue → ℕ → Type 0
IsUnknown streams pmt pid = (is_named streams pid ≡ true) × (is_elementary pmt pid ≡ false) × (pmt.pcr_pid ≢ pid)

-- no section holds it
abbrev pub IsLarge : RequestValue → List ChosenValue → LargeTable → Type 0
IsLarge r chosen (Large.Nit section_length) = (nit_section_length_of (output_nit r chosen) ≡ section_length) × (1021 < section_length)
IsLarge r chosen (Large.SdtRow service) = OfChosen chosen service (λ c. rows_room < row_length (output_row c))
IsLarge r chosen Large.Pmt = Any (λ (c : ChosenValue). 1021 < pmt_section_length_of (output_pmt r c)) chosen

-- the least period that a round of the tables fits into, and the longest in which PAT and SDT come often enough
abbrev pub shortest_period : RequestValue → List ChosenValue → ℕ
shortest_period r chosen = (fast_count r chosen + 1) * gap_of r.rate

abbrev pub longest_period : RequestValue → List ChosenValue → ℕ
longest_period r chosen = min (fast_limit_of r.rate) (sdt_limit_of r.rate / slow_count r chosen)

-- the place and what was found are so, by the chosen services
abbrev pub IsCauseAmong : RequestValue → List ChosenValue → PlanCause → Type 0
IsCauseAmong r chosen (NoProgram service) = ⊥
IsCauseAmong r chosen (NoSdtRow service lack) = ⊥
IsCauseAmong r chosen (CaFound service place) = OfChosen chosen service (λ c. IsCaPlace c place)
IsCauseAmong r chosen (RateMissing service stream) = OfChosen chosen service (λ c. IsMissing (streams_of r c.service) c.pmt stream)
IsCauseAmong r chosen (StreamUnknown service pid) = OfChosen chosen service (λ c. IsUnknown (streams_of r c.service) c.pmt pid)
IsCauseAmong r chosen (TooLarge table) = IsLarge r chosen table
IsCauseAmong r chosen (RoundTooLong period shortest) = (r.period ≡ period) × (shortest_period r chosen ≡ shortest) × (period < shortest)
IsCauseAmong r chosen (PeriodTooLong period longest) = (r.period ≡ period) × (longest_period r chosen ≡ longest) × (longest < period)

-- the same by what was found in the inputs
abbrev pub IsCauseOf : RequestValue → List Findings → PlanCause → Type 0
IsCauseOf r found (NoProgram service) = OfService r service (λ s. lacks_program r found s ≡ true)
IsCauseOf r found (NoSdtRow service lack) = OfService r service (λ s. IsRowLack found s lack)
IsCauseOf r found cause = IsCauseAmong r (chosen_of r found) cause
