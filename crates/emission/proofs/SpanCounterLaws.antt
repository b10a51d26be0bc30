-- The counters of a table's PID go on over switches: each packet of the PID is a table packet, and has the counter of its number.
use Rattle.std.proofs.Common.{ℕ, zero, suc, ◌%◌, ◌<◌, ◌≡◌, ◌==◌, ◌∙◌, Bool, true, false, cond, List, [], ◌∷◌, Option, None, Some, length, take, ap, refl, sym, zero-add, arith}
use Rattle.std.specs.List.{All, slice_get, filter}
use Rattle.std.proofs.lemmas.Bool.{eqb-true}
use Rattle.tspkt.specs.Packet.{pid_of, null_packet, has_payload_of, continuity_counter_of}
use Rattle.tspkt.specs.Counters.{lawful_of}
use Rattle.rounds.specs.declared.table_place.TablePlace.{TablePlace}
use Rattle.rounds.specs.declared.table_place.TablePlace.TheVariants.{Fast, Slow}
use Rattle.rounds.specs.Rounds.{IsRounds, table_at}
use Rattle.rounds.proofs.RecurringLaws.{are_places}
use Rattle.plan.specs.Build.{PlanValue}
use Rattle.schedule.specs.Schedule.{ScheduleValue, plan_at, number_in_slot}
use Rattle.emission.specs.Emission.{of_pid, table_packet_at, IsPacketOf}
use Rattle.emission.specs.Spans.{span_in_slot, slot_in_span, table_in, IsEmissionOf, IsTablePidOf}
use Rattle.emission.proofs.SectionPacketLaws.{GoesOut}
use Rattle.emission.proofs.RepeatLaws.{AreCounted, all_lawful}
use Rattle.emission.proofs.PlanFacts.{PlanFacts, plan_facts}
use Rattle.emission.proofs.SlotLaws.{IsNoOther, other_pid, kept_pid}
use Rattle.emission.proofs.SpanLaws.{by_span}
use Rattle.emission.proofs.SpanFacts.{IsKnown, built_at, off, no_other}

-- ---- of a filter

-- element k of what passes, and where it stood
record StoodAt {X : Type 0} (p : X → Bool) (xs : List X) (k : ℕ) (q : X) : Type 0 where
  place : ℕ
  stands : slice_get xs place ≡ Some q
  passes : p q ≡ true
  number : length (filter p (take place xs)) ≡ k

stood_by : {X : Type 0} (p : X → Bool) (x : X) (xs : List X) (q : X) → ((k : ℕ) → slice_get (filter p xs) k ≡ Some q → StoodAt p xs k q)
    → (b : Bool) → p x ≡ b → (k : ℕ) → slice_get (cond b (x ∷ filter p xs) (filter p xs)) k ≡ Some q → StoodAt p (x ∷ xs) k q
stood_by p x xs q rest true t zero e = let same : x ≡ q = cc in record { place = 0; stands = ap Some same; passes = ap p (sym same) ∙ t; number = refl }
stood_by p x xs q rest true t (suc k) e =
    let r = rest k e in
    record {
      place = suc r.place;
      stands = r.stands;
      passes = r.passes;
      number = ap (λ b. length (cond b (x ∷ filter p (take r.place xs)) (filter p (take r.place xs)))) t ∙ ap suc r.number;
    }
stood_by p x xs q rest false t k e =
    let r = rest k e in
    record {
      place = suc r.place;
      stands = r.stands;
      passes = r.passes;
      number = ap (λ b. length (cond b (x ∷ filter p (take r.place xs)) (filter p (take r.place xs)))) t ∙ r.number;
    }

stood : {X : Type 0} (p : X → Bool) (xs : List X) (k : ℕ) (q : X) → slice_get (filter p xs) k ≡ Some q → StoodAt p xs k q
stood p [] k q e = cc
stood p (x ∷ xs) k q e = stood_by p x xs q (λ j f. stood p xs j q f) (p x) refl k e

-- ---- of a schedule

goes_out : (p : PlanValue) → PlanFacts p → IsRounds p.rounds → (m : ℕ) (place : TablePlace) → table_at p.rounds m ≡ Some place → GoesOut (table_packet_at p.tables place)
goes_out p f ok m (Fast j) t = f.fast j null_packet (omega (arith, are_places p.rounds ok m (Fast j) t, f.basics.fast_len))
goes_out p f ok m (Slow j) t = f.slow j null_packet (omega (arith, are_places p.rounds ok m (Slow j) t, f.basics.slow_len))

-- a packet that a plan sends on such a PID has payload, and the counter of its number
counted_by : (p : PlanValue) → PlanFacts p → IsRounds p.rounds → (pid n : ℕ) (before : List (List ℕ)) (q : List ℕ) → IsNoOther p pid → pid_of q ≡ pid
    → (o : Option TablePlace) → table_at p.rounds n ≡ o → IsPacketOf p before o q
    → (has_payload_of q ≡ true) × (continuity_counter_of q ≡ length (of_pid pid before) % 16)
counted_by p f ok pid n before q other on None t h = absurd (other_pid p pid q other h.1 on)
counted_by p f ok pid n before q other on (Some place) t h =
    let x = table_packet_at p.tables place in
    let g = goes_out p f ok n place t in
    let count = length (of_pid (pid_of x) before) % 16 in
    let few : count < 16 = omega arith in
    let same : pid_of x ≡ pid = sym (kept_pid p before x q g h) ∙ on in (
      ap has_payload_of h ∙ g.loaded count few,
      ap continuity_counter_of h ∙ g.counted count few ∙ ap (λ (k : ℕ). length (of_pid k before) % 16) same,
    )

pub counters_go_on : (s : ScheduleValue) → IsKnown s → (out : List (List ℕ)) → IsEmissionOf s out → (pid : ℕ) → IsTablePidOf s pid
    → All (λ is_lawful. is_lawful ≡ true) (lawful_of (of_pid pid out))
counters_go_on s k out h pid table = all_lawful (of_pid pid out) counted
  where
    counted : AreCounted 0 (of_pid pid out)
    counted n q e =
        let at = stood (λ r. pid_of r == pid) out n q e in
        let m = at.place in
        let number = number_in_slot s m in
        let within = (k.force m).within in
        let built = built_at s k.plans number within in
        let p = plan_at s number in
        let w = span_in_slot s m in
        let here = counted_by p (plan_facts p built.request built.tables) built.rounds pid (slot_in_span w.slot m) (take m out) q
        (no_other s pid (off s k pid table) number within) (eqb-true (pid_of q) pid at.passes) (table_in w m) refl (by_span s out h m q at.stands) in
        (here.0, here.1 ∙ ap (λ (i : ℕ). i % 16) (at.number ∙ sym (zero-add n)))
