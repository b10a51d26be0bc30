-- Which plans may follow one another, and the faults of a schedule where they don't (profile). Versions step by one, modulo 32:
-- ISO/IEC 13818-1, 2.4.4.5. The limit of repetition of PAT and PMT holds across a switch too: ETSI TR 101 290, 5.2.1.
use Rattle.std.specs.Prelude.{ℕ, ◌≡◌, ◌≤◌, ◌<◌, ◌+◌, ◌*◌, ◌%◌, List, ◌++◌, length, map, All, Any, Contains}
use Rattle.request.specs.declared.plan_fault.PlanFault.{PlanFault}
use Rattle.request.specs.declared.plan_fault.PlanFault.TheVariants.{SwitchUneven, VersionWrong, PidReused, SwitchSlot, SwitchTooLong, Memory}
use Rattle.request.specs.declared.stream.Stream.{Stream}
use Rattle.request.specs.Request.{RequestValue, ServiceValue}
use Rattle.rounds.specs.Rounds.{RoundsValue, fast_limit_of}
use Rattle.schedule.specs.Schedule.{SpanValue, ScheduleValue, span_at, plan_at}

-- Two plans have in common what a run has one of. Services and streams may differ, and so may the network's name and the raw
-- descriptors. Inputs are compared in all that a plan says of them, the file's name too.
pub record IsEvenWith (r q : RequestValue) : Type 0 where
  pub rate : q.rate ≡ r.rate
  pub period : q.period ≡ r.period
  pub watch : q.watch ≡ r.watch
  pub queue : q.queue ≡ r.queue
  pub ring : q.ring ≡ r.ring
  pub transport_stream_id : q.transport_stream_id ≡ r.transport_stream_id
  pub original_network_id : q.original_network_id ≡ r.original_network_id
  pub network_id : q.network_id ≡ r.network_id
  pub inputs : q.inputs ≡ r.inputs

-- of each later plan and the one just before it
abbrev pub EachSwitch : ScheduleValue → (SpanValue → SpanValue → Type 0) → Type 0
EachSwitch s holds = (number : ℕ) → number < length s.later → holds (span_at s number) (span_at s (number + 1))

-- each later plan has that in common with the first
abbrev pub AreEven : ScheduleValue → Type 0
AreEven s = EachSwitch s (λ before w. IsEvenWith s.first.request w.plan.request)

-- each version is the one before plus 1, modulo 32
abbrev pub VersionsFollow : ScheduleValue → Type 0
VersionsFollow s = EachSwitch s (λ before w. w.plan.request.version ≡ (before.plan.request.version + 1) % 32)

-- the output PIDs of a plan: of its streams, and of the PMTs of its services
abbrev pub output_pids : RequestValue → List ℕ
output_pids r = map (λ (st : Stream). st.output_pid) r.streams ++ map (λ (v : ServiceValue). v.pmt) r.services

-- the plan has this PID for the PMT of the service
abbrev pub HasPmtOf : RequestValue → ServiceValue → Type 0
HasPmtOf r v = Any (λ (u : ServiceValue). (u.service ≡ v.service) × (u.pmt ≡ v.pmt)) r.services

-- `earlier` is a plan before this one, `before` the one just before it. Where `earlier` has the PID of a stream of this plan, `before` has
-- the very same stream. Where it has the PID of a PMT, `before` has it for the PMT of the same service.
abbrev pub KeepsStream : RequestValue → RequestValue → Stream → Type 0
KeepsStream earlier before st = Contains (output_pids earlier) st.output_pid → Contains before.streams st

abbrev pub KeepsPmt : RequestValue → RequestValue → ServiceValue → Type 0
KeepsPmt earlier before v = Contains (output_pids earlier) v.pmt → HasPmtOf before v

abbrev pub KeepsStreams : RequestValue → RequestValue → List Stream → Type 0
KeepsStreams earlier before streams = All (KeepsStream earlier before) streams

abbrev pub KeepsPmts : RequestValue → RequestValue → List ServiceValue → Type 0
KeepsPmts earlier before services = All (KeepsPmt earlier before) services

pub record ReusesNoPid (earlier before r : RequestValue) : Type 0 where
  pub streams : KeepsStreams earlier before r.streams
  pub services : KeepsPmts earlier before r.services

-- the plan behind this one, beside each plan before it
pub record IsApart (s : ScheduleValue) (before : ℕ) : Type 0 where
  pub from_each : (earlier : ℕ) → earlier ≤ before
      → ReusesNoPid (plan_at s earlier).request (plan_at s before).request (plan_at s (before + 1)).request

abbrev pub NoPidIsReused : ScheduleValue → Type 0
NoPidIsReused s = (before : ℕ) → before < length s.later → IsApart s before

-- there are 16 later plans at most, and the last slot of a switch is 999,999
abbrev pub MAX_LATER_PLANS : ℕ
MAX_LATER_PLANS = 16

abbrev pub LAST_SWITCH_SLOT : ℕ
LAST_SWITCH_SLOT = 999999

-- a slot in which a round of this period begins, after the slot before; so it isn't 0. The plans of a schedule have one period.
pub record IsSwitchSlot (period before slot : ℕ) : Type 0 where
  pub round : slot % period ≡ 0
  pub after : before < slot
  pub within : slot ≤ LAST_SWITCH_SLOT

pub record SlotsFollow (s : ScheduleValue) : Type 0 where
  pub count : length s.later ≤ MAX_LATER_PLANS
  pub each : EachSwitch s (λ before w. IsSwitchSlot s.first.request.period before.slot w.slot)

-- The period and one gap for each packet of PAT and PMTs are at most the slots of half a second. No PAT or PMT is then further apart across
-- the switch.
abbrev pub IsShortAcross : RoundsValue → Type 0
IsShortAcross r = r.period + r.fast_len * r.gap ≤ fast_limit_of r.rate

abbrev pub RoundsAreShort : ScheduleValue → Type 0
RoundsAreShort s = EachSwitch s (λ before w. IsShortAcross w.plan.rounds)

-- what each schedule keeps
pub record IsSchedule (s : ScheduleValue) : Type 0 where
  pub even : AreEven s
  pub versions : VersionsFollow s
  pub pids : NoPidIsReused s
  pub slots : SlotsFollow s
  pub rounds : RoundsAreShort s

-- The fault of the least number among those of a schedule: its own promise is broken, and those of the lesser numbers hold. Want
-- of memory is answered only where all hold.
abbrev pub IsScheduleFault : ScheduleValue → PlanFault → Type 0
IsScheduleFault s SwitchUneven = AreEven s → ⊥
IsScheduleFault s VersionWrong = AreEven s × (VersionsFollow s → ⊥)
IsScheduleFault s PidReused = AreEven s × VersionsFollow s × (NoPidIsReused s → ⊥)
IsScheduleFault s SwitchSlot = AreEven s × VersionsFollow s × NoPidIsReused s × (SlotsFollow s → ⊥)
IsScheduleFault s SwitchTooLong = AreEven s × VersionsFollow s × NoPidIsReused s × SlotsFollow s × (RoundsAreShort s → ⊥)
IsScheduleFault s Memory = IsSchedule s
IsScheduleFault s fault = ⊥
