-- In a run by a schedule no table packet goes out on the PID of a stream, be it a stream of another plan.
use Rattle.std.proofs.Common.{ℕ, ◌≡◌, ◌<◌, ◌≤◌, List, [], length, get_or, All, ap, ◌∙◌, sym, arith}
use Rattle.std.specs.List.{Contains}
use Rattle.std.proofs.lemmas.List.{length-map, get_or-map}
use Rattle.std.proofs.lemmas.List.Elements.{All-weaker, All-cons, All-contains, Contains-get_or}
use Rattle.tspkt.specs.Packet.{pid_of}
use Rattle.request.specs.declared.stream.Stream.{Stream}
use Rattle.request.specs.Request.{ServiceValue, IsStream}
use Rattle.rounds.specs.declared.table_place.TablePlace.{TablePlace}
use Rattle.rounds.specs.declared.table_place.TablePlace.TheVariants.{Fast, Slow}
use Rattle.rounds.specs.Rounds.{IsPlace}
use Rattle.output_tables.specs.OnPid.{SectionOnPid}
use Rattle.output_tables.specs.TableSet.{fast_packets, slow_packets}
use Rattle.plan.specs.Build.{PlanValue}
use Rattle.schedule.specs.Schedule.{ScheduleValue, plan_at}
use Rattle.emission.specs.Emission.{table_packet_at, counted_behind}
use Rattle.emission.proofs.PlanBasics.{PlanBasics, pid_of_section, pmt_of_service}
use Rattle.emission.proofs.PlanFacts.{PlanFacts, plan_facts, packets_have, fast_sections}
use Rattle.emission.proofs.SpanFacts.{IsKnown, built_at}
use Rattle.emission.proofs.TablePidLaws.{apart_at}

pub facts : (s : ScheduleValue) → IsKnown s → (number : ℕ) → number ≤ length s.later → PlanFacts (plan_at s number)
facts s k number within = let built = built_at s k.plans number within in plan_facts (plan_at s number) built.request built.tables

pub no_service : ServiceValue
no_service = record { input = 0; program = 0; service = 0; pmt = 0; streams = [] }

-- the PID of a PMT is that of its service
pub pmt_is : (p : PlanValue) (i : ℕ) (d : SectionOnPid) → PlanBasics p → i < length p.tables.pmts
    → (i < length p.request.services) × ((get_or p.tables.pmts i d).pid ≡ (get_or p.request.services i no_service).pmt)
pmt_is p i d b l =
    let same : length p.tables.pmts ≡ length p.request.services =
    sym (length-map p.tables.pmts pid_of_section) ∙ ap length b.pmt_pids ∙ length-map p.request.services pmt_of_service in
    let there : i < length p.request.services = omega (arith, same, l) in (
      there,
      sym (get_or-map pid_of_section p.tables.pmts i d 0 l) ∙ ap (λ (ns : List ℕ). get_or ns i 0) b.pmt_pids ∙ get_or-map pmt_of_service p.request.services i no_service 0 there,
    )

-- the output PID of a stream
pub out_range : (s : ScheduleValue) → IsKnown s → (number : ℕ) (st : Stream) → number ≤ length s.later → Contains (plan_at s number).request.streams st
    → (0x0020 ≤ st.output_pid) × (st.output_pid ≤ 0x1FFE)
out_range s k number st within c =
    let r = (plan_at s number).request in
    (All-contains (IsStream (length r.inputs)) r.streams st (built_at s k.plans number within).request.streams c).output_pid

pub table_apart : (s : ScheduleValue) (number other : ℕ) (out : List (List ℕ)) (place : TablePlace) (st : Stream) → IsKnown s
    → number ≤ length s.later → other ≤ length s.later → Contains (plan_at s other).request.streams st → IsPlace (plan_at s number).rounds place
    → pid_of (counted_behind out (table_packet_at (plan_at s number).tables place)) ≡ st.output_pid → ⊥
table_apart s number other out (Fast j) st k within there c is e =
    let p = plan_at s number in
    let f = facts s k number within in
    let range = out_range s k other st there c in
    let apart : All (λ q. pid_of q ≡ st.output_pid → ⊥) (fast_packets p.tables) =
    packets_have (λ n. n ≡ st.output_pid → ⊥) (fast_sections p) f.fast_pids
    (All-cons (λ (x : SectionOnPid). x.pid ≡ st.output_pid → ⊥) p.tables.pat p.tables.pmts (λ d. absurd (omega (arith, f.basics.pat_pid, range.0, d)))
    (λ i d m same.
    let pmt = pmt_is p i d f.basics m in
    k.pids.no_pmt other number st (get_or p.request.services i no_service) there within c (Contains-get_or p.request.services i no_service pmt.0) (sym same ∙ pmt.1))) in
    apart_at p out (fast_packets p.tables) j st.output_pid f.fast apart (omega (arith, f.basics.fast_len, is)) e
table_apart s number other out (Slow j) st k within there c is e =
    let p = plan_at s number in
    let f = facts s k number within in
    let range = out_range s k other st there c in
    let apart : All (λ q. pid_of q ≡ st.output_pid → ⊥) (slow_packets p.tables) =
    All-weaker (λ q. (0x0010 ≤ pid_of q) × (pid_of q ≤ 0x0011)) (λ q. pid_of q ≡ st.output_pid → ⊥) (λ q on d. absurd (omega (arith, on.1, range.0, d)))
    (slow_packets p.tables) f.slow_on in
    apart_at p out (slow_packets p.tables) j st.output_pid f.slow apart (omega (arith, f.basics.slow_len, is)) e
