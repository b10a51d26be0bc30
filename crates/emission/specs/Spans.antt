-- What a multiplex of a schedule sends: in each slot by the plan that is in force there, whose rounds begin with its span (profile). The
-- continuity counter of each PID steps by one, modulo 16, across switches too: ISO/IEC 13818-1, 2.4.3.3.
use Rattle.std.specs.Prelude.{◌≡◌, ◌↔◌, ◌⊎◌, ◌≤◌, ◌<◌, ℕ, zero, suc, ◌+◌, ◌-◌, ◌%◌, true, List, [], ◌∷◌, length, take, drop, map, Option, Some, None, All, Any, Contains}
use Rattle.std.specs.List.{slice_get, flat_map}
use Rattle.tspkt.specs.Packet.{payload_of, payload_unit_start_indicator_of}
use Rattle.tspkt.specs.Counters.{lawful_of}
use Rattle.tspkt.specs.Counted.{with_counter}
use Rattle.request.specs.declared.stream.Stream.{Stream}
use Rattle.request.specs.Request.{ServiceValue}
use Rattle.rounds.specs.declared.table_place.TablePlace.{TablePlace}
use Rattle.rounds.specs.Rounds.{table_at}
use Rattle.output_tables.specs.OnPid.{SectionOnPid, packets_on_pid}
use Rattle.plan.specs.Build.{PlanValue}
use Rattle.schedule.specs.Schedule.{SpanValue, ScheduleValue, span_at, plan_at, number_in_slot}
use Rattle.emission.specs.Emission.{of_pid, IsPacketOf}
use Rattle.emission.specs.Agreement.{BeginsRepetitionOf, payloads_of, starts_of}
use Rattle.emission.specs.Recurrence.{TablesRecur}
use Rattle.emission.specs.TableBuffers.{TableBuffersFit}
use Rattle.buffers.specs.Level.{bytes_of_set, IsLevel}

-- the span that slot m is in
abbrev pub span_in_slot : ScheduleValue → ℕ → SpanValue
span_in_slot s m = span_at s (number_in_slot s m)

-- slot m, counted from the slot that a span begins with
abbrev pub slot_in_span : ℕ → ℕ → ℕ
slot_in_span zero m = m
slot_in_span (suc from) m = m - suc from

-- the table packet that slot m of the output carries in a span, if any
abbrev pub table_in : SpanValue → ℕ → Option TablePlace
table_in w m = table_at w.plan.rounds (slot_in_span w.slot m)

-- the packet may go out next, by the plan in force
abbrev pub MayGoOutOf : ScheduleValue → List (List ℕ) → List ℕ → Type 0
MayGoOutOf s out q = IsPacketOf (span_in_slot s (length out)).plan out (table_in (span_in_slot s (length out)) (length out)) q

-- each packet could go out when it did
abbrev pub IsEmissionOf : ScheduleValue → List (List ℕ) → Type 0
IsEmissionOf s out = (m : ℕ) (q : List ℕ) → slice_get out m ≡ Some q → MayGoOutOf s (take m out) q

-- what went out before a span, or all where there is no such span; and the packets of a span, from its slot to that of the next
abbrev pub packets_before : Option SpanValue → List (List ℕ) → List (List ℕ)
packets_before None out = out
packets_before (Some w) out = take w.slot out

abbrev pub packets_of_span : ScheduleValue → ℕ → List (List ℕ) → List (List ℕ)
packets_of_span s number out = drop (span_at s number).slot (packets_before (slice_get s.later number) out)

-- of each plan, with the packets that went out before its span and those of its span
abbrev pub OfEachSpan : ScheduleValue → List (List ℕ) → (PlanValue → List (List ℕ) → List (List ℕ) → Type 0) → Type 0
OfEachSpan s out holds =
    (number : ℕ) → number ≤ length s.later
    → holds (span_at s number).plan (take (span_at s number).slot out) (packets_of_span s number out)

-- The packets on a PID in a span repeat these sections, from their beginning on. `earlier` packets of the PID went out before the span:
-- the counters go on from there.
pub record RepeatBehind (earlier : ℕ) (sections : List SectionOnPid) (sent : List (List ℕ)) : Type 0 where
  pub payloads : BeginsRepetitionOf (flat_map payloads_of sections) (map payload_of sent)
  pub starts : BeginsRepetitionOf (flat_map starts_of sections) (map payload_unit_start_indicator_of sent)
  pub packets : (k : ℕ) (q : List ℕ) → slice_get sent k ≡ Some q
      → (r : List ℕ) × (slice_get (flat_map packets_on_pid sections) (k % length (flat_map packets_on_pid sections)) ≡ Some r)
      × (q ≡ with_counter r ((earlier + k) % 16))

-- the sections on a PID, of the packets before a span and of those of the span
abbrev pub RepeatOn : ℕ → List SectionOnPid → List (List ℕ) → List (List ℕ) → Type 0
RepeatOn pid sections before out = RepeatBehind (length (of_pid pid before)) sections (of_pid pid out)

-- in a span, the PIDs of the PAT, of each PMT, of the SDT and of the NIT carry the plan's sections
pub record SpanAgrees (p : PlanValue) (before out : List (List ℕ)) : Type 0 where
  pub pat : RepeatOn 0x0000 (p.tables.pat ∷ []) before out
  pub pmts : All (λ (s : SectionOnPid). RepeatOn s.pid (s ∷ []) before out) p.tables.pmts
  pub sdt : RepeatOn 0x0011 p.tables.sdt before out
  pub nit : RepeatOn 0x0010 (p.tables.nit ∷ []) before out

-- the PID of a table in one of the plans
abbrev pub IsTablePidOf : ScheduleValue → ℕ → Type 0
IsTablePidOf s pid =
    Contains (0x0000 ∷ 0x0010 ∷ 0x0011 ∷ []) pid
    ⊎ ((number : ℕ) × (number ≤ length s.later) × Any (λ (v : ServiceValue). v.pmt ≡ pid) (plan_at s number).request.services)

-- each span carries the sections of its plan, and the counters of a table's PID are lawful from the first packet on, across switches too
pub record SpansAgree (s : ScheduleValue) (out : List (List ℕ)) : Type 0 where
  pub spans : OfEachSpan s out SpanAgrees
  pub counters : (pid : ℕ) → IsTablePidOf s pid → All (λ is_lawful. is_lawful ≡ true) (lawful_of (of_pid pid out))

-- each window of a table's limit that lies inside a span has a beginning of each of the table's sections in the plan of the span
abbrev pub SpansRecur : ScheduleValue → List (List ℕ) → Type 0
SpansRecur s out = OfEachSpan s out (λ p before part. TablesRecur p part)

-- The buffers of the tables of each plan, over all that went out: so every window counts, also one that begins before the buffer came into
-- force. That is more than is asked.
abbrev pub SpanBuffersFit : ScheduleValue → List (List ℕ) → Type 0
SpanBuffersFit s out = (number : ℕ) → number ≤ length s.later → TableBuffersFit (plan_at s number) out

-- a stream comes into force with the first plan that has it
pub record ComesWith (s : ScheduleValue) (st : Stream) (number : ℕ) : Type 0 where
  pub within : number ≤ length s.later
  pub in_plan : Contains (plan_at s number).request.streams st
  pub not_before : (k : ℕ) → k < number → Contains (plan_at s k).request.streams st → ⊥

-- Nothing on the stream's PID went out before this slot, so the level of its transport buffer is the same whether its windows begin there
-- or with the first slot.
pub record BeginsIn (s : ScheduleValue) (out : List (List ℕ)) (st : Stream) (slot : ℕ) : Type 0 where
  pub nothing_before : of_pid st.output_pid (take slot out) ≡ []
  pub level : (n : ℕ)
      → IsLevel st.leak s.first.request.rate (bytes_of_set (st.output_pid ∷ []) out) n
      ↔ IsLevel st.leak s.first.request.rate (bytes_of_set (st.output_pid ∷ []) (drop slot out)) n

-- each stream's buffer begins in the slot in which the stream comes into force
abbrev pub StreamsBegin : ScheduleValue → List (List ℕ) → Type 0
StreamsBegin s out = (st : Stream) (number : ℕ) → ComesWith s st number → BeginsIn s out st (span_at s number).slot
