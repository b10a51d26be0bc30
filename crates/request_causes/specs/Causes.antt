-- Where a plan's text is at fault by itself (profile).
use Rattle.std.specs.Prelude.{◌≡◌, ◌<◌, ℕ, ℤ, true, Bool, not, ◌&&◌, List, map, Option, Some, slice_get, option_map, option_and_then, All}
use Rattle.std.specs.Ordering.{int_eq}
use Rattle.request.specs.declared.plan_fault.PlanFault.{PlanFault}
use Rattle.request.specs.declared.plan_fault.PlanFault.TheVariants as Fault
use Rattle.request.specs.declared.stream_parts.StreamParts.{StreamParts}
use Rattle.request.specs.declared.stream_row.StreamRow.{StreamRow}
use Rattle.request.specs.Parts.{ServicePartsValue, PartsValue}
use Rattle.request.specs.Request.{row_of, rows_of, has_same_source, are_at_odds}
use Rattle.request_causes.specs.RangeCauses.{IsRangeCause}
use Rattle.request_causes.specs.declared.placed_row.PlacedRow.{PlacedRow}
use Rattle.request_causes.specs.declared.pid_cause.PidCause.{PidCause}
use Rattle.request_causes.specs.declared.pid_cause.PidCause.TheVariants.{NamedTwice, RowsDiffer, StreamsMeet, StreamMeetsPmt, PmtsMeet}
use Rattle.request_causes.specs.declared.request_cause.RequestCause.{RequestCause}
use Rattle.request_causes.specs.declared.request_cause.RequestCause.TheVariants.{OutOfRange, ServiceTaken, PidTaken}

-- the fault that it is a cause of
abbrev pub fault_of : RequestCause → PlanFault
fault_of (OutOfRange cause) = Fault.OutOfRange
fault_of (ServiceTaken first second number) = Fault.ServiceTaken
fault_of (PidTaken cause) = Fault.PidTaken

-- two places, the first in front, where the list has this number
abbrev pub AreBoth : List ℤ → ℕ → ℕ → ℤ → Type 0
AreBoth numbers first second number = (first < second) × (slice_get numbers first ≡ Some number) × (slice_get numbers second ≡ Some number)

-- of the services: their numbers in the output, and the PIDs of their PMTs there
abbrev pub numbers_of : List ServicePartsValue → List ℤ
numbers_of services = map (λ (s : ServicePartsValue). s.service) services

abbrev pub pmts_of : List ServicePartsValue → List ℤ
pmts_of services = map (λ (s : ServicePartsValue). s.pmt) services

-- the PIDs that a service names
abbrev pub pids_of : ServicePartsValue → List ℤ
pids_of s = map (λ (r : StreamParts). r.pid) s.streams

-- a row without its place
abbrev pub stream_row : PlacedRow → StreamRow
stream_row row = record { input = row.input; pid = row.pid; out = row.out; leak = row.leak }

-- the stream at these places, of a service of these
abbrev pub row_at : List ServicePartsValue → ℕ → ℕ → Option StreamRow
row_at services service stream =
    option_and_then (λ (s : ServicePartsValue). option_map (row_of s.input) (slice_get s.streams stream)) (slice_get services service)

-- the row stands at its place
abbrev pub IsRowOf : List ServicePartsValue → PlacedRow → Type 0
IsRowOf services row = row_at services row.service row.stream ≡ Some (stream_row row)

-- two rows of different streams, with one output PID
abbrev pub meet : StreamRow → StreamRow → Bool
meet a b = not (has_same_source a b) && int_eq a.out b.out

-- the places and what stands there are so
abbrev pub IsPidCause : List ServicePartsValue → PidCause → Type 0
IsPidCause services (NamedTwice service first second pid) =
    (s : ServicePartsValue) × (slice_get services service ≡ Some s) × (AreBoth (pids_of s) first second pid)
IsPidCause services (RowsDiffer a b) = IsRowOf services a × IsRowOf services b × (are_at_odds (stream_row a) (stream_row b) ≡ true)
IsPidCause services (StreamsMeet a b) = IsRowOf services a × IsRowOf services b × (meet (stream_row a) (stream_row b) ≡ true)
IsPidCause services (StreamMeetsPmt row service) = IsRowOf services row × (slice_get (pmts_of services) service ≡ Some row.out)
IsPidCause services (PmtsMeet first second pid) = AreBoth (pmts_of services) first second pid

abbrev pub IsCauseOf : PartsValue → RequestCause → Type 0
IsCauseOf p (OutOfRange cause) = IsRangeCause p cause
IsCauseOf p (ServiceTaken first second number) = AreBoth (numbers_of p.services) first second number
IsCauseOf p (PidTaken cause) = IsPidCause p.services cause

-- all rows of the services, each with its place
pub record AreRowsOf (services : List ServicePartsValue) (rows : List PlacedRow) : Type 0 where
  pub places : All (IsRowOf services) rows
  pub all : map stream_row rows ≡ rows_of services
