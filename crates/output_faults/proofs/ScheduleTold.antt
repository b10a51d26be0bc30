-- What the analyser tells of sync and counters in an emission of a schedule.
use Rattle.std.proofs.Common.{◌≡◌, ℕ, ◌<◌, ◌≤◌, ◌==◌, List, [], ◌∷◌, length, take, get_or, refl, sym, ◌∙◌, ap, subst, arith, Option, Some, None, true, false, inl, inr}
use Rattle.std.specs.List.{All, slice_get}
use Rattle.std.proofs.lemmas.Bool.{eq-eqb}
use Rattle.std.proofs.lemmas.List.{get_or_default}
use Rattle.std.proofs.lemmas.List.Elements.{All-cons, All-append, All-nil, All-weaker, All-contains, Contains-get_or}
use Rattle.std.proofs.lemmas.Option.{slice_get-get_or}
use Rattle.tspkt.specs.Packet.{pid_of, null_packet}
use Rattle.tspkt.specs.Counters.{lawful_of}
use Rattle.tspkt.proofs.RewrittenLaws.{pid_of-null_packet}
use Rattle.rounds.specs.declared.table_place.TablePlace.{TablePlace}
use Rattle.rounds.specs.declared.table_place.TablePlace.TheVariants.{Fast, Slow}
use Rattle.rounds.specs.Rounds.{table_at}
use Rattle.rounds.proofs.RecurringLaws.{are_places}
use Rattle.request.specs.Request.{IsStream}
use Rattle.output_tables.specs.OnPid.{SectionOnPid}
use Rattle.output_tables.specs.TableSet.{fast_packets, slow_packets}
use Rattle.schedule.specs.Schedule.{ScheduleValue, plan_at, number_in_slot}
use Rattle.schedule.specs.Streams.{all_streams, AreStreamsOf}
use Rattle.emission.specs.Emission.{of_pid, IsNullOrMapped, IsPacketOf}
use Rattle.emission.specs.Spans.{span_in_slot, slot_in_span, table_in, IsEmissionOf, IsTablePidOf}
use Rattle.emission.proofs.PlanFacts.{packets_have, fast_sections, slow_sections}
use Rattle.emission.proofs.SlotLaws.{kept_pid}
use Rattle.emission.proofs.SpanLaws.{by_span}
use Rattle.emission.proofs.SpanFacts.{IsKnown, built_at}
use Rattle.emission.proofs.SpanCounterLaws.{counters_go_on}
use Rattle.emission.proofs.ApartLaws.{facts, no_service, pmt_is}
use Rattle.output_faults.specs.ToldFaults.{IsOfStream, IsUnlawful}
use Rattle.output_faults.proofs.EmittedLaws.{IsSound, placed_sound}
use Rattle.output_faults.proofs.OutputFaultLaws.{AreJudged, all_at}

-- the plan that sends in a slot
module _ (s : ScheduleValue) (k : IsKnown s) (out : List (List ℕ)) (h : IsEmissionOf s out) where
  pub sound_at : (m : ℕ) (q : List ℕ) → slice_get out m ≡ Some q → IsSound q
  sound_at m q e =
      let number = number_in_slot s m in
      let within = (k.force m).within in
      let w = span_in_slot s m in
      placed_sound (plan_at s number) (facts s k number within) (built_at s k.plans number within).rounds (take m out) (slot_in_span w.slot m) q (table_in w m) refl (by_span s out h m q e)

  pub all_sound_of : All IsSound out
  all_sound_of i d l = sound_at i (get_or out i d) (slice_get-get_or out i d l)

-- ---- the PIDs of tables

-- the sections of a plan are on PIDs of tables
pub table_pids : (s : ScheduleValue) (k : IsKnown s) (number : ℕ) (within : number ≤ length s.later) → All (λ (x : SectionOnPid). IsTablePidOf s x.pid) (fast_sections (plan_at s number))
    × All (λ (x : SectionOnPid). IsTablePidOf s x.pid) (slow_sections (plan_at s number))
table_pids s k number within =
    let p = plan_at s number in
    let f = facts s k number within in
    let T : SectionOnPid → Type 0 = λ (x : SectionOnPid). IsTablePidOf s x.pid in
    let N : ℕ → Type 0 = IsTablePidOf s in
    let pmts : All T p.tables.pmts = λ i d l.
    let is = pmt_is p i d f.basics l in
    inr (number, within, (i, get_or p.request.services i no_service, is.0, slice_same i is.0, sym is.1)) in (
      All-cons T p.tables.pat p.tables.pmts (subst N (sym f.basics.pat_pid) (inl (0, omega arith, refl))) pmts,
      All-append T p.tables.sdt (p.tables.nit ∷ [])
          (All-weaker (λ (x : SectionOnPid). x.pid ≡ 0x0011) T (λ x z. subst N (sym z) (inl (2, omega arith, refl))) p.tables.sdt f.basics.sdt_pids)
          (All-cons T p.tables.nit [] (subst N (sym f.basics.nit_pid) (inl (1, omega arith, refl))) (All-nil T)),
    )
  where
    slice_same : (i : ℕ) → i < length (plan_at s number).request.services → get_or (plan_at s number).request.services i (get_or (plan_at s number).request.services i no_service) ≡ get_or (plan_at s number).request.services i no_service
    slice_same i l = get_or_default (plan_at s number).request.services i (get_or (plan_at s number).request.services i no_service) no_service l

-- the packet of a table is on the PID of one
pub on_table : (s : ScheduleValue) (k : IsKnown s) (number : ℕ) (within : number ≤ length s.later) (before : List (List ℕ)) (n : ℕ) (q : List ℕ) (place : TablePlace)
    → table_at (plan_at s number).rounds n ≡ Some place → IsPacketOf (plan_at s number) before (Some place) q → IsTablePidOf s (pid_of q)
on_table s k number within before n q (Fast j) t c =
    let p = plan_at s number in
    let f = facts s k number within in
    let inside = are_places p.rounds (built_at s k.plans number within).rounds n (Fast j) t in
    let x = get_or (fast_packets p.tables) j null_packet in
    let l : j < length (fast_packets p.tables) = omega (arith, f.basics.fast_len, inside) in
    subst (IsTablePidOf s) (sym (kept_pid p before x q (f.fast j null_packet l) c))
    (packets_have (IsTablePidOf s) (fast_sections p) f.fast_pids (table_pids s k number within).0 j null_packet l)
on_table s k number within before n q (Slow j) t c =
    let p = plan_at s number in
    let f = facts s k number within in
    let inside = are_places p.rounds (built_at s k.plans number within).rounds n (Slow j) t in
    let x = get_or (slow_packets p.tables) j null_packet in
    let l : j < length (slow_packets p.tables) = omega (arith, f.basics.slow_len, inside) in
    subst (IsTablePidOf s) (sym (kept_pid p before x q (f.slow j null_packet l) c))
    (packets_have (IsTablePidOf s) (slow_sections p) f.slow_pids (table_pids s k number within).1 j null_packet l)

-- ---- what is told of counters

of_all : (s : ScheduleValue) → AreStreamsOf s (all_streams s) → (number : ℕ) → number ≤ length s.later → (q : List ℕ) → IsOfStream (plan_at s number).request.streams q → IsOfStream (all_streams s) q
of_all s are number within q a =
    let c = are.each number a.1 within (a.0, a.2, a.3) in
    (c.0, a.1, c.1, c.2, a.4)

unlawful_of : (s : ScheduleValue) → IsKnown s → AreStreamsOf s (all_streams s) → (out : List (List ℕ)) → IsEmissionOf s out → (m : ℕ) (q : List ℕ) → slice_get out m ≡ Some q → (pid_of q == 0x1FFF) ≡ false → IsUnlawful out m q
    → IsOfStream (all_streams s) q
unlawful_of s k are out h m q e null bad = by_place (table_in (span_in_slot s m) m) refl (by_span s out h m q e)
  where
    number : ℕ
    number = number_in_slot s m

    of_slot : IsNullOrMapped (plan_at s number).request.streams q → IsOfStream (plan_at s number).request.streams q
    of_slot (inl z) =
        let one : (pid_of q == 0x1FFF) ≡ true = eq-eqb _ _ (ap pid_of z ∙ pid_of-null_packet) in
        let clash : false ≡ true = sym null ∙ one in absurd cc
    of_slot (inr a) = a

    by_place : (o : Option TablePlace) → table_in (span_in_slot s m) m ≡ o → IsPacketOf (plan_at s number) (take m out) o q → IsOfStream (all_streams s) q
    by_place None t c = of_all s are number (k.force m).within q (of_slot c.1)
    by_place (Some place) t c =
        let table = on_table s k number (k.force m).within (take m out) (slot_in_span (span_in_slot s m).slot m) q place t c in
        absurd (all_at (lawful_of (of_pid (pid_of q) out)) (length (of_pid (pid_of q) (take m out))) (counters_go_on s k out h (pid_of q) table) bad)

-- what a schedule sends
pub judged_of : (s : ScheduleValue) → IsKnown s → AreStreamsOf s (all_streams s) → (out : List (List ℕ)) → IsEmissionOf s out → AreJudged (all_streams s) out
judged_of s k are out h = record {
  sound = all_sound_of s k out h;
  of_stream = λ m q e null bad. unlawful_of s k are out h m q e null bad;
  range = λ i d l.
      let st = get_or (all_streams s) i d in
      let one = are.no_other st (Contains-get_or (all_streams s) i d l) in
      let r = (plan_at s one.0).request in
      let range = (All-contains (IsStream (length r.inputs)) r.streams st (built_at s k.plans one.0 one.1).request.streams one.2).output_pid in
      range.1;
}
