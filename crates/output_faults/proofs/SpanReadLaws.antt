-- What is read of a table's PID in an emission of a schedule: in each span the section of its plan, and no section is begun at a switch.
use Rattle.std.proofs.Common.{◌≡◌, ℕ, zero, suc, ◌+◌, ◌-◌, ◌*◌, ◌/◌, ◌%◌, ◌<◌, ◌≤◌, ◌==◌, ◌⊎◌, List, [], ◌∷◌, ◌++◌, length, take, drop, get_or, refl, sym, ◌∙◌, ap, subst, arith, zero-add, add-one, length-append, Option, Some, None, Bool, false, inl, inr}
use Rattle.std.specs.List.{All, slice_get, flat_map}
use Rattle.std.proofs.Math.Nat.{mul-le-mul_right}
use Rattle.std.proofs.lemmas.Nat.{div-add-mod', mod-mul-add}
use Rattle.std.proofs.lemmas.Bool.{cases_lt, eq-eqb, false≢true}
use Rattle.std.proofs.lemmas.List.{take_all, length-take-le, take-append-drop}
use Rattle.std.proofs.lemmas.List.Elements.{All-head, All-tail, filter-append}
use Rattle.std.proofs.lemmas.Option.{slice_get_within, slice_get-get_or, get_or_from_slice_get}
use Rattle.tspkt.specs.Packet.{pid_of, null_packet}
use Rattle.tspkt.specs.Counted.{with_counter}
use Rattle.rounds.specs.declared.table_place.TablePlace.TheVariants.{Fast}
use Rattle.rounds.specs.Rounds.{table_at}
use Rattle.rounds.proofs.RecurringLaws.{rounds_begin}
use Rattle.rounds.proofs.RoundLaws.{positive}
use Rattle.section.specs.Section.{IsGoodSection}
use Rattle.section.specs.Assembled.{fresh, state_behind}
use Rattle.section.specs.Packetized.{packet_count_of}
use Rattle.output_tables.specs.Output.{table_packet}
use Rattle.output_tables.specs.OnPid.{SectionOnPid, packets_on_pid}
use Rattle.output_tables.specs.TableSet.{fast_packets, slow_packets}
use Rattle.plan.specs.Build.{PlanValue}
use Rattle.schedule.specs.Schedule.{SpanValue, ScheduleValue, spans, span_at, plan_at, number_in_slot}
use Rattle.emission.specs.Emission.{of_pid, counted_behind, IsPacketOf}
use Rattle.emission.specs.Spans.{slot_in_span, IsEmissionOf, packets_before, packets_of_span}
use Rattle.emission.proofs.CycleLaws.{Steps, RepeatsBy, repeats, filter_place}
use Rattle.emission.proofs.RecurrenceLaws.{get_before}
use Rattle.emission.proofs.RepeatLaws.{numbered_from}
use Rattle.emission.proofs.SectionPacketLaws.{HasPid, of_pid_one}
use Rattle.emission.proofs.TablePacketLaws.{table_packet_reads}
use Rattle.emission.proofs.PlanFacts.{fast_sections}
use Rattle.emission.proofs.SlotLaws.{fast_steps_behind}
use Rattle.emission.proofs.WalkLaws.{turns, fast_one, fast_in_turn}
use Rattle.emission.proofs.SpanLaws.{take_on, take_of_take, take_of_cut, is_span, to_slot}
use Rattle.emission.proofs.SpanFacts.{IsKnown, IsOff, built_at, no_other, rounds_period}
use Rattle.emission.proofs.ApartLaws.{facts}
use Rattle.output_faults.proofs.CountLaws.{place_counted}
use Rattle.output_faults.proofs.ReadingLaws.{IsPiece, IsBehind, AreRepeated, starts, begins_anew, all_behind}
use Rattle.section.proofs.AssembledLaws.{state_more}
use Rattle.output_faults.proofs.ReadLaws.{IsRead, EndsIn}
use Rattle.output_faults.proofs.EmittedLaws.{LastPlace, last_place, own_length, pieces}

-- a plan has this section on the PID, among those of PAT and PMTs, and nothing else
pub record Carries (p : PlanValue) (pid : ℕ) (x : SectionOnPid) : Type 0 where
  pub index : ℕ
  pub there : slice_get (fast_sections p) index ≡ Some x
  pub on : x.pid ≡ pid
  pub alone : (j : ℕ) (d : SectionOnPid) → j < length (fast_sections p) → (j ≡ index → ⊥) → (get_or (fast_sections p) j d).pid ≡ x.pid → ⊥
  pub absent : All (λ r. pid_of r ≡ pid → ⊥) (slow_packets p.tables)
  pub fits : HasPid x
  pub good : IsGoodSection x.bytes
  pub small : length x.bytes ≤ 1024

-- the plan has nothing on it
abbrev pub IsQuietOn : ℕ → List (List ℕ) → Type 0
IsQuietOn pid part = All (λ q. (pid_of q == pid) ≡ false) part

-- ---- parts of lists

get_dropped : {X : Type 0} (n : ℕ) (xs : List X) (j : ℕ) (x : X) → slice_get xs (n + j) ≡ Some x → slice_get (drop n xs) j ≡ Some x
get_dropped zero xs j x e = ap (slice_get xs) (sym (zero-add j)) ∙ e
get_dropped (suc n) [] j x e = cc
get_dropped (suc n) (y ∷ xs) j x e = let more : suc (n + j) ≡ suc n + j = omega arith in get_dropped n xs j x (ap (slice_get (y ∷ xs)) more ∙ e)

get_taken : {X : Type 0} (n : ℕ) (xs : List X) (j : ℕ) (x : X) → j < n → slice_get xs j ≡ Some x → slice_get (take n xs) j ≡ Some x
get_taken zero xs j x l e = absurd (omega (arith, l))
get_taken (suc n) [] j x l e = cc
get_taken (suc n) (y ∷ xs) zero x l e = e
get_taken (suc n) (y ∷ xs) (suc j) x l e = get_taken n xs j x (omega (arith, l)) e

nothing_kept : (pid : ℕ) (part : List (List ℕ)) → IsQuietOn pid part → of_pid pid part ≡ []
nothing_kept pid [] h = refl
nothing_kept pid (q ∷ part) h =
    let P : List ℕ → Type 0 = λ q. (pid_of q == pid) ≡ false in
    rw (All-head P q part h) (nothing_kept pid part (All-tail P q part h))

pub none_over : (p : ℕ) → 0 < p → 0 % p ≡ 0
none_over p pos =
    let e : 0 * p + 0 ≡ 0 = omega arith in
    ap (λ k. k % p) (sym e) ∙ mod-mul-add 0 p 0 pos

-- so many whole rounds
rounds_up : (a b p : ℕ) → b * p ≤ a * p → 0 < p → b ≤ a
rounds_up a b p l pos = elim (cases_lt a b) [
  | inl less ↦ (let up : (a + 1) * p ≤ b * p = mul-le-mul_right p (omega (arith, less)) in absurd (omega arith))
  | inr ok ↦ ok
]

pub whole_rounds : (from to p : ℕ) → 0 < p → from % p ≡ 0 → to % p ≡ 0 → from ≤ to → (j : ℕ) × (to ≡ from + j * p)
whole_rounds from to p pos a b l =
    let x = div-add-mod' from p in
    let y = div-add-mod' to p in
    let up = rounds_up (to / p) (from / p) p (omega (arith, x, y, a, b, l)) pos in
    let j = to / p - from / p in
    let e : from / p + j ≡ to / p = omega (arith, up) in
    let parts : (from / p + j) * p ≡ from / p * p + j * p = omega arith in
    let same : (from / p + j) * p ≡ to / p * p = ap (λ k. k * p) e in
    (j, omega (arith, x, y, a, b, parts, same))

-- ---- a slot in a span

-- slot m is in the span of this number
pub record IsInSpan (s : ScheduleValue) (n m : ℕ) : Type 0 where
  pub within : n ≤ length s.later
  pub from : (span_at s n).slot ≤ m
  pub to : n < length s.later → m < (span_at s (n + 1)).slot

-- where its packet stands in the span
record Stands (s : ScheduleValue) (out : List (List ℕ)) (n m : ℕ) (q : List ℕ) : Type 0 where
  stands : slice_get (packets_of_span s n out) (slot_in_span (span_at s n).slot m) ≡ Some q
  before : take (span_at s n).slot out ++ take (slot_in_span (span_at s n).slot m) (packets_of_span s n out) ≡ take m out

next_span : (s : ScheduleValue) (n : ℕ) (w : SpanValue) → slice_get s.later n ≡ Some w → span_at s (n + 1) ≡ w
next_span s n w is =
    let d : SpanValue = record { slot = 0; plan = s.first } in
    ap (λ k. get_or (spans s) k d) (add-one n) ∙ get_or_from_slice_get s.later n w d is

stands_by : (s : ScheduleValue) (out : List (List ℕ)) (n m : ℕ) (q : List ℕ) → IsInSpan s n m → slice_get out m ≡ Some q → (end : Option SpanValue) → slice_get s.later n ≡ end
    → (slice_get (drop (span_at s n).slot (packets_before end out)) (slot_in_span (span_at s n).slot m) ≡ Some q)
    × (take (span_at s n).slot out ++ take (slot_in_span (span_at s n).slot m) (drop (span_at s n).slot (packets_before end out)) ≡ take m out)
stands_by s out n m q i e None is =
    let from = (span_at s n).slot in
    let j = slot_in_span from m in
    let sum : from + j ≡ m = to_slot from m i.from in
    (get_dropped from out j q (ap (slice_get out) sum ∙ e), take_on from j out ∙ ap (λ k. take k out) sum)
stands_by s out n m q i e (Some w) is =
    let from = (span_at s n).slot in
    let j = slot_in_span from m in
    let sum : from + j ≡ m = to_slot from m i.from in
    let below : m < w.slot = (let next = ap (λ (v : SpanValue). v.slot) (next_span s n w is) in let l = i.to (slice_get_within s.later n w is) in omega (arith, next, l)) in
    let there : slice_get (take w.slot out) (from + j) ≡ Some q = get_taken w.slot out (from + j) q (omega (arith, sum, below)) (ap (slice_get out) sum ∙ e) in (
      get_dropped from (take w.slot out) j q there,
      ap (λ ys. take from out ++ ys) (take_of_cut from j w.slot out (omega (arith, sum, below))) ∙ take_on from j out ∙ ap (λ k. take k out) sum,
    )

stands_in : (s : ScheduleValue) (out : List (List ℕ)) (n m : ℕ) (q : List ℕ) → IsInSpan s n m → slice_get out m ≡ Some q → Stands s out n m q
stands_in s out n m q i e = let both = stands_by s out n m q i e (slice_get s.later n) refl in record { stands = both.0; before = both.1 }

-- a span that ended
whole_span : (s : ScheduleValue) (out : List (List ℕ)) (n : ℕ) → n < length s.later → (span_at s n).slot ≤ (span_at s (n + 1)).slot
    → take (span_at s n).slot out ++ packets_of_span s n out ≡ take (span_at s (n + 1)).slot out
whole_span s out n l up =
    let d : SpanValue = record { slot = 0; plan = s.first } in
    let w = get_or s.later n d in
    let is : slice_get s.later n ≡ Some w = slice_get-get_or s.later n d l in
    let next = next_span s n w is in
    let from = (span_at s n).slot in
    let part : packets_of_span s n out ≡ drop from (take w.slot out) = ap (λ o. drop from (packets_before o out)) is in
    let slot : (span_at s (n + 1)).slot ≡ w.slot = ap (λ (v : SpanValue). v.slot) next in
    ap (λ ys. take from out ++ ys) part
    ∙ ap (λ ys. ys ++ drop from (take w.slot out)) (sym (take_of_take from w.slot out (omega (arith, up, slot))))
    ∙ take-append-drop from (take w.slot out)
    ∙ ap (λ k. take k out) (sym slot)

-- ---- what is read

module _ (s : ScheduleValue) (k : IsKnown s) (out : List (List ℕ)) (h : IsEmissionOf s out) (pid : ℕ) (off : IsOff s pid) (P : ℕ → List ℕ → Type 0)
    (which : (n : ℕ) → n ≤ length s.later → ((x : SectionOnPid) × Carries (plan_at s n) pid x) ⊎ IsQuietOn pid (packets_of_span s n out))
    (says : (n m : ℕ) (x : SectionOnPid) → IsInSpan s n m → Carries (plan_at s n) pid x → P m x.bytes) where
  abbrev from : ℕ → ℕ
  from n = (span_at s n).slot

  abbrev before : ℕ → List (List ℕ)
  before n = take (from n) out

  abbrev part : ℕ → List (List ℕ)
  part n = packets_of_span s n out

  abbrev earlier : ℕ → ℕ
  earlier n = length (of_pid pid (before n))

  test : List ℕ → Bool
  test r = pid_of r == pid

  steps : (n : ℕ) (within : n ≤ length s.later) (x : SectionOnPid) → Carries (plan_at s n) pid x
      → Steps (λ r. pid_of r == pid) (numbered_from (earlier n)) (fast_packets (plan_at s n).tables) (part n) (turns fast_one (plan_at s n).rounds)
  steps n within x c =
      fast_steps_behind (plan_at s n) (before n) (part n) pid (facts s k n within) (built_at s k.plans n within).rounds (is_span s k.schedule.slots n out within h) (no_other s pid off n within) c.absent

  some_packets : (n : ℕ) (within : n ≤ length s.later) → 0 < length (fast_packets (plan_at s n).tables)
  some_packets n within = let some = (built_at s k.plans n within).rounds.fast in omega (arith, some, (facts s k n within).basics.fast_len)

  no_turns : (n : ℕ) → turns fast_one (plan_at s n).rounds 0 ≡ 0
  unfolding turns
  no_turns n = refl

  own : (n : ℕ) (within : n ≤ length s.later) (x : SectionOnPid) → Carries (plan_at s n) pid x → of_pid pid (fast_packets (plan_at s n).tables) ≡ flat_map packets_on_pid (x ∷ [])
  own n within x c =
      let f = facts s k n within in
      ap (λ i. of_pid i (fast_packets (plan_at s n).tables)) (sym c.on) ∙ of_pid_one (fast_sections (plan_at s n)) c.index x f.fast_pids c.there c.alone

  -- the packets of the span on the PID
  all_pieces : (n : ℕ) (within : n ≤ length s.later) (x : SectionOnPid) → Carries (plan_at s n) pid x → AreRepeated x.bytes 0 (earlier n) (of_pid pid (part n))
  all_pieces n within x c =
      let R : List (List ℕ) → Type 0 = λ cycle. RepeatsBy (numbered_from (earlier n)) cycle (of_pid pid (part n)) in
      pieces x (earlier n) (of_pid pid (part n)) c.fits
      (subst R (own n within x c)
      (repeats (λ r. pid_of r == pid) (numbered_from (earlier n)) (fast_packets (plan_at s n).tables) (part n) (turns fast_one (plan_at s n).rounds) (some_packets n within) (no_turns n) (steps n within x c)))

  -- how many went out before a slot of the span, by the place whose turn it is
  count_at : (n : ℕ) (within : n ≤ length s.later) (x : SectionOnPid) → Carries (plan_at s n) pid x → (j place : ℕ) → j ≤ length (part n) → table_at (plan_at s n).rounds j ≡ Some (Fast place)
      → length (of_pid pid (take place (fast_packets (plan_at s n).tables))) < packet_count_of x.bytes
      → length (of_pid pid (take j (part n))) % packet_count_of x.bytes ≡ length (of_pid pid (take place (fast_packets (plan_at s n).tables)))
  count_at n within x c j place l t below =
      let p = plan_at s n in
      let ok = (built_at s k.plans n within).rounds in
      let xs = fast_packets p.tables in
      let size : length (of_pid pid xs) ≡ packet_count_of x.bytes = ap length (own n within x c) ∙ own_length x in
      let turn : turns fast_one p.rounds j % length xs ≡ place = ap (λ i. turns fast_one p.rounds j % i) (sym (facts s k n within).basics.fast_len) ∙ fast_in_turn p.rounds j place ok t in
      ap (λ i. length (of_pid pid (take j (part n))) % i) (sym size)
      ∙ place_counted (λ r. pid_of r == pid) (numbered_from (earlier n)) xs (part n) (turns fast_one p.rounds) j place (some_packets n within) (no_turns n) (steps n within x c) l turn (omega (arith, size, below))

  -- the state in which a span begins
  abbrev Ready : ℕ → Type 0
  Ready n = (other : List ℕ) → IsBehind other 0 (earlier n) (state_behind fresh (of_pid pid (before n)))

  -- what goes out on the PID with a span more
  grown : (n : ℕ) (ends : List (List ℕ)) (to : ℕ) → before n ++ ends ≡ take to out → of_pid pid (take to out) ≡ of_pid pid (before n) ++ of_pid pid ends
  grown n ends to e = ap (of_pid pid) (sym e) ∙ filter-append (λ r. pid_of r == pid) (before n) ends

  -- the number of a span's packets of the PID that ended is one of whole sections
  ends_whole : (n : ℕ) (within : n ≤ length s.later) (x : SectionOnPid) → Carries (plan_at s n) pid x → n < length s.later → from (n + 1) ≤ length out → length (of_pid pid (part n)) % packet_count_of x.bytes ≡ 0
  ends_whole n within x c l room =
      let p = plan_at s n in
      let ok = (built_at s k.plans n within).rounds in
      let pos = positive p.rounds ok in
      let same : p.rounds.period ≡ s.first.request.period = rounds_period s k n within in
      let up = (k.schedule.slots.each n l).after in
      let rounds = whole_rounds (from n) (from (n + 1)) p.rounds.period pos.1 (begins_round n within p.rounds.period same pos.1) (begins_round (n + 1) (omega (arith, l)) p.rounds.period same pos.1) (omega (arith, up)) in
      let size : length (part n) ≡ rounds.0 * p.rounds.period =
      (let all = ap length (whole_span s out n l (omega (arith, up))) in
      let both = length-append (before n) (part n) in
      omega (arith, all, both, length-take-le (from n) out (omega (arith, room, up)), length-take-le (from (n + 1)) out room, rounds.1)) in
      let t : table_at p.rounds (length (part n)) ≡ Some (Fast 0) = ap (table_at p.rounds) size ∙ rounds_begin p.rounds ok rounds.0 in
      ap (λ ys. length (of_pid pid ys) % packet_count_of x.bytes) (sym (take_all (length (part n)) (part n) (omega arith)))
      ∙ count_at n within x c (length (part n)) 0 (omega arith) t (omega arith)
    where
      begins_round : (i : ℕ) → i ≤ length s.later → (p : ℕ) → p ≡ s.first.request.period → 0 < p → from i % p ≡ 0
      begins_round zero l p e pos = none_over p pos
      begins_round (suc i) l p e pos =
          let up : i + 1 ≡ suc i = omega arith in
          ap (λ q. from (suc i) % q) e ∙ subst (λ j. from j % s.first.request.period ≡ 0) up (k.schedule.slots.each i (omega (arith, l))).round

  ready : (n : ℕ) → n ≤ length s.later → from n ≤ length out → Ready n
  ready zero within room other = starts other 0
  ready (suc n) within room other =
      let e : n + 1 ≡ suc n = omega arith in
      let l : n < length s.later = omega (arith, within) in
      let up = (k.schedule.slots.each n l).after in
      let last : from (n + 1) ≤ length out = subst (λ i. from i ≤ length out) (sym e) room in
      let all = grown n (part n) (from (n + 1)) (whole_span s out n l (omega (arith, up))) in
      let was = ready n (omega (arith, l)) (omega (arith, last, up)) in
      let A = of_pid pid (before n) in
      let B = of_pid pid (part n) in
      subst (λ i. IsBehind other 0 (earlier i) (state_behind fresh (of_pid pid (before i)))) e
      (subst (λ (sent : List (List ℕ)). IsBehind other 0 (length sent) (state_behind fresh sent)) (sym all) (behind_span n l last other A B refl refl was (which n (omega (arith, l)))))
    where
      behind_span : (n : ℕ) → n < length s.later → from (n + 1) ≤ length out → (other : List ℕ) (A B : List (List ℕ)) → A ≡ of_pid pid (before n) → B ≡ of_pid pid (part n) → Ready n
          → ((x : SectionOnPid) × Carries (plan_at s n) pid x) ⊎ IsQuietOn pid (part n) → IsBehind other 0 (length (A ++ B)) (state_behind fresh (A ++ B))
      behind_span n l last other A B a b was (inr quiet) =
          let none : B ≡ [] = b ∙ nothing_kept pid (part n) quiet in
          let same : A ++ B ≡ of_pid pid (before n) = ap (λ ys. A ++ ys) none ∙ append_none A ∙ a in
          subst (λ (sent : List (List ℕ)). IsBehind other 0 (length sent) (state_behind fresh sent)) (sym same) (was other)
        where
          append_none : (xs : List (List ℕ)) → xs ++ [] ≡ xs
          append_none [] = refl
          append_none (y ∷ ys) = ap (λ zs. y ∷ zs) (append_none ys)
      behind_span n l last other A B a b was (inl c) =
          let within : n ≤ length s.later = omega (arith, l) in
          let x = c.0 in
          let read = all_behind x.bytes 0 (earlier n) (state_behind fresh (of_pid pid (before n))) (of_pid pid (part n)) c.1.good c.1.small (was x.bytes) (all_pieces n within x c.1) in
          let z : (0 + length (of_pid pid (part n))) % packet_count_of x.bytes ≡ 0 =
          ap (λ i. i % packet_count_of x.bytes) (zero-add (length (of_pid pid (part n)))) ∙ ends_whole n within x c.1 l last in
          let anew = begins_anew x.bytes other (0 + length (of_pid pid (part n))) (earlier n + length (of_pid pid (part n))) _ read z in
          let count : earlier n + length (of_pid pid (part n)) ≡ length (A ++ B) = sym (length-append A B ∙ ap (λ ys. length ys + length B) a ∙ ap (λ ys. earlier n + length ys) b) in
          let state : state_behind (state_behind fresh (of_pid pid (before n))) (of_pid pid (part n)) ≡ state_behind fresh (A ++ B) =
          ap (λ ys. state_behind (state_behind fresh ys) (of_pid pid (part n))) (sym a) ∙ ap (state_behind (state_behind fresh A)) (sym b) ∙ sym (state_more fresh A B) in
          subst (λ i. IsBehind other 0 i (state_behind fresh (A ++ B))) count (subst (λ t. IsBehind other 0 (earlier n + length (of_pid pid (part n))) t) state anew)

  -- the packets of the span before one of it
  front_pieces : (n : ℕ) (within : n ≤ length s.later) (x : SectionOnPid) → Carries (plan_at s n) pid x → (j : ℕ) → AreRepeated x.bytes 0 (earlier n) (of_pid pid (take j (part n)))
  front_pieces n within x c j = λ i q e.
      let parted : of_pid pid (part n) ≡ of_pid pid (take j (part n)) ++ of_pid pid (drop j (part n)) =
      ap (of_pid pid) (sym (take-append-drop j (part n))) ∙ filter-append (λ r. pid_of r == pid) (take j (part n)) (drop j (part n)) in
      all_pieces n within x c i q (ap (λ (l : List (List ℕ)). slice_get l i) parted ∙ get_before (of_pid pid (take j (part n))) (of_pid pid (drop j (part n))) i q e)

  -- a packet on the PID is read, as a piece of the section of its span's plan
  pub read_by : (n m : ℕ) (q : List ℕ) (i : IsInSpan s n m) (x : SectionOnPid) → Carries (plan_at s n) pid x → slice_get out m ≡ Some q → pid_of q ≡ pid → IsRead (P m) (of_pid pid (take m out)) q
  read_by n m q i x c e on =
      let within = i.within in
      let st = stands_in s out n m q i e in
      let j = slot_in_span (from n) m in
      let A = of_pid pid (before n) in
      let B = of_pid pid (take j (part n)) in
      let sent : of_pid pid (take m out) ≡ A ++ B = grown n (take j (part n)) m st.before in
      let inside = slice_get_within out m q e in
      let start = ready n within (let low = i.from in omega (arith, low, inside)) in
      let read = all_behind x.bytes 0 (earlier n) (state_behind fresh A) B c.good c.small (start x.bytes) (front_pieces n within x c j) in
      let piece = all_pieces n within x c (length B) q (filter_place (λ r. pid_of r == pid) (part n) j q st.stands (eq-eqb _ _ on)) in
      let count : earlier n + length B ≡ length (of_pid pid (take m out)) = sym (ap length sent ∙ length-append A B) in
      let state : state_behind (state_behind fresh A) B ≡ state_behind fresh (of_pid pid (take m out)) = sym (ap (state_behind fresh) sent ∙ state_more fresh A B) in
      record {
        section = x.bytes;
        is = says n m x i c;
        good = c.good;
        small = c.small;
        number = 0 + length B;
        behind = subst (λ t. IsBehind x.bytes (0 + length B) (length (of_pid pid (take m out))) t) state (subst (λ a. IsBehind x.bytes (0 + length B) a (state_behind (state_behind fresh A) B)) count read);
        piece = subst (λ a. IsPiece x.bytes ((0 + length B) % packet_count_of x.bytes) (a % 16) q) count piece;
      }

  -- the span that a slot is in
  pub in_its_span : (m : ℕ) → IsInSpan s (number_in_slot s m) m
  in_its_span m =
      let f = k.force m in
      record { within = f.within; from = f.has_begun; to = λ l. f.is_last (number_in_slot s m + 1) (omega arith) (omega (arith, l)) }

  pub read_at : (m : ℕ) (q : List ℕ) → slice_get out m ≡ Some q → pid_of q ≡ pid → IsRead (P m) (of_pid pid (take m out)) q
  read_at m q e on =
      let n = number_in_slot s m in
      let i = in_its_span m in
      let st = stands_in s out n m q i e in
      let j = slot_in_span (from n) m in
      let inside = slice_get_within (part n) j q st.stands in
      elim (which n i.within) [
        | inl c ↦ read_by n m q i c.0 c.1 e on
        | inr quiet ↦ absurd (false≢true (sym (subst (λ (r : List ℕ). (pid_of r == pid) ≡ false) (get_or_from_slice_get (part n) j q q st.stands) (quiet j q inside)) ∙ eq-eqb _ _ on))
      ]

  -- where a section ends, by the rounds of the span's plan
  pub last_of : (n : ℕ) (within : n ≤ length s.later) (x : SectionOnPid) → Carries (plan_at s n) pid x → LastPlace (fast_sections (plan_at s n)) x
  last_of n within x c = last_place (fast_sections (plan_at s n)) c.index x (facts s k n within).fast_pids c.there c.alone

  pub ends_at : (n m : ℕ) (i : IsInSpan s n m) (x : SectionOnPid) (c : Carries (plan_at s n) pid x) → m < length out
      → table_at (plan_at s n).rounds (slot_in_span (from n) m) ≡ Some (Fast (last_of n i.within x c).place) → EndsIn P pid out m
  unfolding read_by
  ends_at n m i x c room t =
      let within = i.within in
      let p = plan_at s n in
      let f = facts s k n within in
      let last = last_of n within x c in
      let q = get_or out m null_packet in
      let e : slice_get out m ≡ Some q = slice_get-get_or out m null_packet room in
      let st = stands_in s out n m q i e in
      let j = slot_in_span (from n) m in
      let count = packet_count_of x.bytes in
      let sent : q ≡ counted_behind (before n ++ take j (part n)) (get_or (fast_packets p.tables) last.place null_packet) =
      subst (λ o. IsPacketOf p (before n ++ take j (part n)) o q) t (is_span s k.schedule.slots n out within h j q st.stands) in
      let y = get_or (fast_packets p.tables) last.place null_packet in
      let is : y ≡ table_packet x.pid x.bytes (count - 1) = get_or_from_slice_get (fast_packets p.tables) last.place (table_packet x.pid x.bytes (count - 1)) null_packet last.at in
      let counter = length (of_pid (pid_of y) (before n ++ take j (part n))) % 16 in
      let on : pid_of q ≡ pid =
      ap pid_of (sent ∙ ap (λ r. with_counter r counter) is) ∙ (table_packet_reads x.pid x.bytes (count - 1) counter c.fits (omega arith) (omega arith)).on_pid ∙ c.on in
      let own_before : length (of_pid pid (take last.place (fast_packets p.tables))) + 1 ≡ count = ap (λ a. length (of_pid a (take last.place (fast_packets p.tables))) + 1) (sym c.on) ∙ last.before in
      let inside = slice_get_within (part n) j q st.stands in
      let at = count_at n within x c j last.place (omega (arith, inside)) t (omega (arith, own_before)) in
      let zero : (0 + length (of_pid pid (take j (part n)))) % count ≡ length (of_pid pid (take j (part n))) % count = ap (λ a. a % count) (zero-add (length (of_pid pid (take j (part n))))) in
      record { packet = q; there = e; on = on; read = read_by n m q i x c e on; last = omega (arith, zero, at, own_before) }
