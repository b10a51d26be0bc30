-- Null packets went out only where no queued packet could go.
use Rattle.std.proofs.Common.{ℕ, ◌<◌, ◌≤◌, ◌≡◌, ◌%◌, List, [], ◌∷◌, ◌++◌, length, get_or, Some, ap, ◌∙◌, sym, subst, arith, All}
use Rattle.std.specs.List.{slice_get}
use Rattle.std.proofs.lemmas.List.Elements.{All-weaker, All-cons}
use Rattle.std.proofs.lemmas.Option.{same_Some, slice_get_within}
use Rattle.tspkt.specs.Packet.{pid_of, null_packet}
use Rattle.tspkt.specs.declared.stamped.Stamped.{Stamped}
use Rattle.tspkt.proofs.RewrittenLaws.{pid_of-null_packet}
use Rattle.request.specs.declared.stream.Stream.{Stream}
use Rattle.rounds.specs.declared.table_place.TablePlace.{TablePlace}
use Rattle.rounds.specs.declared.table_place.TablePlace.TheVariants.{Fast, Slow}
use Rattle.rounds.specs.Rounds.{IsPlace}
use Rattle.rounds.proofs.RecurringLaws.{are_places}
use Rattle.output_tables.specs.OnPid.{SectionOnPid}
use Rattle.output_tables.specs.TableSet.{fast_packets, slow_packets}
use Rattle.plan.specs.Build.{PlanValue}
use Rattle.schedule.specs.Schedule.{ScheduleValue, span_at}
use Rattle.emission.specs.Spans.{slot_in_span}
use Rattle.emission.specs.Emission.{of_pid, table_packet_at, counted_behind}
use Rattle.emission.proofs.SectionPacketLaws.{GoesOut}
use Rattle.emission.proofs.PlanFacts.{PlanFacts, plan_facts, packets_have, fast_sections}
use Rattle.mux.specs.declared.content.Content.{Content}
use Rattle.mux.specs.declared.content.Content.TheVariants.{Null, Elementary, Table}
use Rattle.mux.specs.declared.event.Event.{Event}
use Rattle.mux.specs.declared.event.Event.TheVariants.{Took, Full, Early, Close, Slot, Switch}
use Rattle.schedule.specs.Laws.{IsMultiplexSchedule}
use Rattle.mux.specs.History.{in_force, slots, emitted, packet_behind}
use Rattle.mux.specs.Lawful.{IsLawful, IsContent, IsEligible}
use Rattle.mux.specs.Headline.{NullsAreNeeded}
use Rattle.mux.proofs.Contents.{stream_choice, null_choice, table_turn}
use Rattle.emission.proofs.RecurrenceLaws.{last_behind}
use Rattle.mux.proofs.Emitted.{length-emitted, before_end}
use Rattle.mux.proofs.Plans.{built_at}
use Rattle.mux.proofs.Force.{force_within, has_in_force}
use Rattle.mux.proofs.StreamPackets.{moved_to, out_below}

-- what came before is lawful too
before_lawful : (s : ScheduleValue) (after before : List Event) → IsLawful s (after ++ before) → IsLawful s before
before_lawful s [] before law = law
before_lawful s (e ∷ after) before law = before_lawful s after before law.0

-- a slot keeps its packet
packet_at : (s : ScheduleValue) (after before : List Event) (c : Content) → slice_get (emitted s (after ++ Slot c ∷ before)) (slots before) ≡ Some (packet_behind s before (emitted s before) c)
packet_at s [] before c =
    let out = emitted s before in
    let q = packet_behind s before out c in
    ap (slice_get (out ++ q ∷ [])) (sym (length-emitted s before)) ∙ last_behind out q
packet_at s (Took i item ∷ after) before c = packet_at s after before c
packet_at s (Full i st ∷ after) before c = packet_at s after before c
packet_at s (Early i ∷ after) before c = packet_at s after before c
packet_at s (Switch number ∷ after) before c = packet_at s after before c
packet_at s (Close i ∷ after) before c = packet_at s after before c
packet_at s (Slot d ∷ after) before c =
    let ih = packet_at s after before c in
    let out = emitted s (after ++ Slot c ∷ before) in
    let within = slice_get_within out (slots before) (packet_behind s before (emitted s before) c) ih in
    before_end out (packet_behind s (after ++ Slot c ∷ before) out d) (slots before) within ∙ ih

-- No table packet is on the null PID.

fast_below : (p : PlanValue) → PlanFacts p → All (λ q. pid_of q ≤ 0x1FFE) (fast_packets p.tables)
fast_below p f =
    packets_have (λ n. n ≤ 0x1FFE) (fast_sections p) f.fast_pids
    (All-cons (λ (x : SectionOnPid). x.pid ≤ 0x1FFE) p.tables.pat p.tables.pmts (omega (arith, f.basics.pat_pid)) (λ i d m. (f.pmts_range i d m).1))

slow_below : (p : PlanValue) → PlanFacts p → All (λ q. pid_of q ≤ 0x1FFE) (slow_packets p.tables)
slow_below p f = All-weaker (λ q. (0x0010 ≤ pid_of q) × (pid_of q ≤ 0x0011)) (λ q. pid_of q ≤ 0x1FFE) (λ q on. omega (arith, on)) (slow_packets p.tables) f.slow_on

below_at : (out : List (List ℕ)) (xs : List (List ℕ)) (j : ℕ) → All GoesOut xs → All (λ q. pid_of q ≤ 0x1FFE) xs → j < length xs
    → pid_of (counted_behind out (get_or xs j null_packet)) ≤ 0x1FFE
below_at out xs j goes below l =
    let x = get_or xs j null_packet in
    let kept : pid_of (counted_behind out x) ≡ pid_of x = (goes j null_packet l).on_pid (length (of_pid (pid_of x) out) % 16) (omega arith) in
    let least = below j null_packet l in
    omega (arith, kept, least)

table_below : (p : PlanValue) (out : List (List ℕ)) (place : TablePlace) → PlanFacts p → IsPlace p.rounds place
    → pid_of (counted_behind out (table_packet_at p.tables place)) ≤ 0x1FFE
table_below p out (Fast j) f is = below_at out (fast_packets p.tables) j f.fast (fast_below p f) (omega (arith, f.basics.fast_len))
table_below p out (Slow j) f is = below_at out (slow_packets p.tables) j f.slow (slow_below p f) (omega (arith, f.basics.slow_len))

-- a slot whose packet is null carries null
content_null : (s : ScheduleValue) (h : List Event) (c : Content) → IsMultiplexSchedule s → IsLawful s h → IsContent s h c → packet_behind s h (emitted s h) c ≡ null_packet
    → (st : Stream) (item : Stamped) → IsEligible s h st item → ⊥
content_null s h Null plan law content e st item can = null_choice s h content st item can
content_null s h (Table place) plan law content e st item can =
    let number = in_force h in
    let w = span_at s number in
    let built = built_at s plan number (force_within s h plan law) in
    let fits = are_places w.plan.rounds built.rounds (slot_in_span w.slot (slots h)) place (table_turn s h place content) in
    let below = table_below w.plan (emitted s h) place (plan_facts w.plan built.request built.tables) fits in
    absurd (omega (arith, below, ap pid_of e, pid_of-null_packet))
content_null s h (Elementary su) plan law content e st item can =
    let chosen = stream_choice s h su content in
    let has = has_in_force s h su plan law chosen.1.stream in
    let moved = moved_to s h su chosen.0 plan law has chosen.1.head in
    let below = out_below s has.0 su plan has.1 in
    absurd (omega (arith, below, moved.pid, ap pid_of e, pid_of-null_packet))

pub nulls_are_needed : (s : ScheduleValue) (h : List Event) → IsMultiplexSchedule s → IsLawful s h → NullsAreNeeded s h
nulls_are_needed s h plan law after before c is null st item can =
    let P : List Event → Type 0 = IsLawful s in
    let here : IsLawful s (Slot c ∷ before) = before_lawful s after (Slot c ∷ before) (subst P is law) in
    let packet : packet_behind s before (emitted s before) c ≡ null_packet =
    same_Some _ _ (sym (packet_at s after before c) ∙ ap (λ x. slice_get (emitted s x) (slots before)) (sym is) ∙ null) in
    content_null s before c plan here.0 here.1.content packet st item can
