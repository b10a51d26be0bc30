-- No fault of a table is told of an emission of a schedule.
use Rattle.std.proofs.Common.{◌≡◌, ℕ, zero, suc, ◌+◌, ◌-◌, ◌*◌, ◌<◌, ◌≤◌, ◌==◌, ◌⊎◌, List, [], ◌∷◌, ◌++◌, length, take, drop, get_or, refl, sym, ◌∙◌, ap, subst, arith, Option, Some, None, Ok, Bool, true, false, ◌&&◌, ◌||◌, inl, inr}
use Rattle.std.specs.Prelude.{not}
use Rattle.std.specs.List.{All, slice_get, filter, list_any}
use Rattle.std.proofs.Math.Logic.{∥∥₁_elim}
use Rattle.std.proofs.lemmas.Bool.{cases_Bool, cases_lt, cases_eq, and_parts, or_left, or_right, eq-eqb, eqb-true, ne_eqb, false≢true, false_from_ne_true}
use Rattle.std.proofs.lemmas.List.{get_or_default}
use Rattle.std.proofs.lemmas.List.Folds.{Any-from_list_any, list_any_at}
use Rattle.std.proofs.lemmas.List.Elements.{All-cons, All-head, All-tail, All-weaker}
use Rattle.std.proofs.lemmas.Option.{slice_get_within, slice_get-get_or, get_or_from_slice_get}
use Rattle.tspkt.specs.Bits.{field}
use Rattle.tspkt.specs.Packet.{pid_of, null_packet, transport_scrambling_control_of}
use Rattle.tables.specs.declared.pat_row.PatRow.{PatRow}
use Rattle.tables.specs.OnPid.{pat_section_of, value_of}
use Rattle.tables.specs.Pmt.{PmtValue, pmt_of}
use Rattle.rounds.specs.declared.table_place.TablePlace.{TablePlace}
use Rattle.rounds.specs.declared.table_place.TablePlace.TheVariants.{Fast, Slow}
use Rattle.rounds.specs.Rounds.{table_at, fast_limit_of}
use Rattle.rounds.proofs.RoundLaws.{positive}
use Rattle.rounds.proofs.RecurringLaws.{are_places}
use Rattle.schedule.proofs.ForceLaws.{in_span}
use Rattle.selection.specs.Chosen.{ChosenValue}
use Rattle.output_tables.specs.Output.{output_pat}
use Rattle.output_tables.specs.OnPid.{SectionOnPid}
use Rattle.output_tables.specs.TableSet.{fast_packets, slow_packets}
use Rattle.plan.specs.Build.{PlanValue, IsPlanOf, IsPlan}
use Rattle.schedule.specs.Schedule.{ScheduleValue, span_at, plan_at, number_in_slot}
use Rattle.emission.specs.Emission.{IsPacketOf}
use Rattle.emission.specs.Spans.{slot_in_span, span_in_slot, table_in, IsEmissionOf, IsTablePidOf, packets_of_span}
use Rattle.emission.proofs.PlanFacts.{PlanFacts, fast_sections, packets_have}
use Rattle.emission.proofs.SlotLaws.{kept_pid, other_pid}
use Rattle.emission.proofs.SpanLaws.{by_span, is_span}
use Rattle.emission.proofs.SpanFacts.{IsKnown, IsOff, built_at, off, no_other, rounds_rate, rounds_period}
use Rattle.emission.proofs.ApartLaws.{facts}
use Rattle.analyse.specs.Slots.{slot_at, is_packet}
use Rattle.analyse.specs.Gaps.{is_gap_at}
use Rattle.analyse.specs.Faults.{is_scrambled_at, completed_by, completes, pats_of, is_pat_mark, others_of, is_pat_bad_at, pmts_of, is_pmt_watched, is_pmt_mark, began_at, is_pmt_bad_at, table_limit}
use Rattle.output_faults.proofs.EmittedLaws.{IsSound, placed_clear}
use Rattle.output_faults.proofs.GapLaws.{IsGap, is_gap, completed, read_more}
use Rattle.output_faults.proofs.ReadLaws.{Reads, IsOfSlot, all_of_slots, NewestIs, newest_stays, EndsIn, one_more, sections_to}
use Rattle.output_faults.proofs.RowLaws.{HasNumber0, named, nothing_named}
use Rattle.output_faults.proofs.ScheduleTold.{all_sound_of, table_pids}
use Rattle.output_faults.proofs.SpanReadLaws.{Carries, IsQuietOn, IsInSpan, read_at, last_of}
use Rattle.output_faults.proofs.SpanEndLaws.{EndsFrom, in_period, behind_switch, room_before, before_switch}
use Rattle.output_faults.proofs.SectionFacts.{IsPatSection, pat_facts, pmt_facts, pat_read, IsRowOf, rows_named}

-- ---- what a plan has on a PID

pat_alone : (p : PlanValue) → PlanFacts p → (j : ℕ) (d : SectionOnPid) → j < length (fast_sections p) → (j ≡ 0 → ⊥) → (get_or (fast_sections p) j d).pid ≡ p.tables.pat.pid → ⊥
pat_alone p f zero d l n e = n refl
pat_alone p f (suc j) d l n e = let z = f.basics.pat_pid in let b = f.pmts_range j d (omega (arith, l)) in omega (arith, b.0, e, z)

pub pat_carried : (p : PlanValue) → PlanFacts p → IsPlan p → Carries p 0x0000 p.tables.pat
pat_carried p f is =
    let z = f.basics.pat_pid in
    let own = pat_facts p is in
    record {
      index = 0;
      there = refl;
      on = z;
      alone = pat_alone p f;
      absent = All-weaker (λ q. (0x0010 ≤ pid_of q) × (pid_of q ≤ 0x0011)) (λ q. pid_of q ≡ 0x0000 → ⊥) (λ q b e. omega (arith, b.0, e)) (slow_packets p.tables) f.slow_on;
      fits = f.basics.pat.on_pid;
      good = own.good;
      small = own.small;
    }

pmt_alone : (p : PlanValue) → PlanFacts p → (i : ℕ) (d : SectionOnPid) → i < length p.tables.pmts → (j : ℕ) (c : SectionOnPid) → j < length (fast_sections p) → (j ≡ suc i → ⊥)
    → (get_or (fast_sections p) j c).pid ≡ (get_or p.tables.pmts i d).pid → ⊥
pmt_alone p f i d l zero c m n e = let z = f.basics.pat_pid in let b = f.pmts_range i d l in omega (arith, b.0, e, z)
pmt_alone p f i d l (suc j) c m n e =
    let same : get_or p.tables.pmts j d ≡ get_or p.tables.pmts j c = sym (get_or_default p.tables.pmts j c d (omega (arith, m))) in
    f.pmts_apart j i d (omega (arith, m)) l (λ g. n (ap suc g)) (ap (λ (u : SectionOnPid). u.pid) same ∙ e)

pub pmt_carried : (p : PlanValue) → PlanFacts p → IsPlan p → (i : ℕ) (d : SectionOnPid) → i < length p.tables.pmts → (pid : ℕ) → (get_or p.tables.pmts i d).pid ≡ pid → Carries p pid (get_or p.tables.pmts i d)
pmt_carried p f is i d l pid on =
    let b = f.pmts_range i d l in
    let own = pmt_facts p is i d l in
    record {
      index = suc i;
      there = slice_get-get_or p.tables.pmts i d l;
      on = on;
      alone = pmt_alone p f i d l;
      absent = All-weaker (λ q. (0x0010 ≤ pid_of q) × (pid_of q ≤ 0x0011)) (λ q. pid_of q ≡ pid → ⊥) (λ q range e. omega (arith, range.1, b.0, on, e)) (slow_packets p.tables) f.slow_on;
      fits = (f.basics.pmts i d l).on_pid;
      good = own.good;
      small = own.small;
    }

-- ---- the PAT

never : IsProp ⊥
never a b = absurd a

module _ (s : ScheduleValue) (k : IsKnown s) (out : List (List ℕ)) (h : IsEmissionOf s out) where
  sound_whole : All (λ q. is_packet q ≡ true) out
  sound_whole = All-weaker IsSound (λ q. is_packet q ≡ true) (λ q i. i.whole) out (all_sound_of s k out h)

  -- a packet on the PID of a table isn't scrambled
  clear_on : (pid : ℕ) → IsOff s pid → All (λ q. pid_of q ≡ pid → transport_scrambling_control_of q ≡ 0) out
  clear_on pid off i d l on =
      let q = get_or out i d in
      let e : slice_get out i ≡ Some q = slice_get-get_or out i d l in
      let n = number_in_slot s i in
      let within = (k.force i).within in
      by_place n within q (slot_in_span (span_in_slot s i).slot i) (take i out) (table_in (span_in_slot s i) i) refl on (by_span s out h i q e)
    where
      by_place : (n : ℕ) (within : n ≤ length s.later) (q : List ℕ) (j : ℕ) (before : List (List ℕ)) (o : Option TablePlace) → table_at (plan_at s n).rounds j ≡ o → pid_of q ≡ pid → IsPacketOf (plan_at s n) before o q
          → transport_scrambling_control_of q ≡ 0
      by_place n within q j before None t on c = absurd (other_pid (plan_at s n) pid q (no_other s pid off n within) c.1 on)
      by_place n within q j before (Some place) t on c = placed_clear (plan_at s n) (facts s k n within) (built_at s k.plans n within).rounds before j q place t c

  low_off : IsOff s 0x0000
  low_off = off s k 0x0000 (inl (0, omega arith, refl))

  -- the section of slot m is the PAT of the plan in force there
  abbrev PatIn : ℕ → List ℕ → Type 0
  PatIn m b = (n : ℕ) × IsInSpan s n m × (b ≡ (plan_at s n).tables.pat.bytes)

  pat_in : (n : ℕ) (within : n ≤ length s.later) → Carries (plan_at s n) 0x0000 (plan_at s n).tables.pat
  pat_in n within = pat_carried (plan_at s n) (facts s k n within) (built_at s k.plans n within).tables

  pat_which : (n : ℕ) → n ≤ length s.later → ((x : SectionOnPid) × Carries (plan_at s n) 0x0000 x) ⊎ IsQuietOn 0x0000 (packets_of_span s n out)
  pat_which n within = inl ((plan_at s n).tables.pat, pat_in n within)

  -- the PID of the PAT has one section
  pat_says : (n m : ℕ) (x : SectionOnPid) → IsInSpan s n m → Carries (plan_at s n) 0x0000 x → PatIn m x.bytes
  pat_says n m x i c = (n, i, ap (λ (u : SectionOnPid). u.bytes) (only_pat (plan_at s n) (facts s k n i.within) x c))
    where
      only_pat : (p : PlanValue) → PlanFacts p → (x : SectionOnPid) → Carries p 0x0000 x → x ≡ p.tables.pat
      only_pat p f x c = elim (cases_eq c.index 0) [
        | inl z ↦ (let there : slice_get (fast_sections p) 0 ≡ Some x = ap (slice_get (fast_sections p)) (sym z) ∙ c.there in cc)
        | inr n ↦
            let l = slice_get_within (fast_sections p) c.index x c.there in
            let here : get_or (fast_sections p) c.index x ≡ x = get_or_from_slice_get (fast_sections p) c.index x x c.there in
            absurd (pat_alone p f c.index x l n (ap (λ (u : SectionOnPid). u.pid) here ∙ c.on ∙ sym f.basics.pat_pid))
      ]

  pat_reads : Reads PatIn 0x0000 out
  pat_reads = record { whole = sound_whole; clear = clear_on 0x0000 low_off; each = λ m q e on. read_at s k out h 0x0000 low_off PatIn pat_which pat_says m q e on }

  -- each section that is read there is a PAT, and has the number 0
  pats : (m : ℕ) → m ≤ length out → All IsPatSection (sections_to 0x0000 out m)
  pats m l =
      All-weaker (IsOfSlot PatIn) IsPatSection
      (λ b is. subst IsPatSection (sym is.1.2) (pat_facts (plan_at s is.1.0) (built_at s k.plans is.1.0 is.1.1.within).tables))
      (sections_to 0x0000 out m) (all_of_slots PatIn 0x0000 out m pat_reads l)

  -- two spans of a slot are one
  one_span : (n o m : ℕ) → IsInSpan s n m → IsInSpan s o m → n ≡ o
  one_span n o m a b = in_force_of n m a ∙ sym (in_force_of o m b)
    where
      in_force_of : (i m : ℕ) → IsInSpan s i m → i ≡ number_in_slot s m
      in_force_of i m a = sym (in_span s k.schedule.slots i m a.within a.from a.to)

  -- the PAT of a plan is the newest from where it ended in its span up to the span's end
  newest_pat : (n x m : ℕ) → IsInSpan s n x → EndsIn PatIn 0x0000 out x → x < m → m ≤ length out → (n < length s.later → m ≤ (span_at s (n + 1)).slot) → NewestIs (plan_at s n).tables.pat.bytes (sections_to 0x0000 out m)
  newest_pat n x m i ends l room to =
      let b = (plan_at s n).tables.pat.bytes in
      let is = ends.read.is in
      let same : ends.read.section ≡ b = is.2 ∙ ap (λ o. (plan_at s o).tables.pat.bytes) (one_span is.0 n x is.1 i) in
      let here : NewestIs b (sections_to 0x0000 out (suc x)) = (sections_to 0x0000 out x, one_more PatIn 0x0000 out x pat_reads ends ∙ ap (λ c. sections_to 0x0000 out x ++ c ∷ []) same) in
      let rest = m - suc x in
      let e : suc x + rest ≡ m = omega (arith, l) in
      subst (λ j. NewestIs b (sections_to 0x0000 out j)) e
      (newest_stays PatIn 0x0000 out b (suc x) rest pat_reads (omega (arith, e, room)) here
      (λ j low high c of.
      let i' : IsInSpan s n j = record { within = i.within; from = (let a = i.from in omega (arith, a, low)); to = λ more. (let t = to more in omega (arith, t, high, e)) } in
      of.2 ∙ ap (λ o. (plan_at s o).tables.pat.bytes) (one_span of.0 n j of.1 i')))

  abbrev limit : ℕ
  limit = fast_limit_of s.first.request.rate

  -- the span that a slot is in
  its_span : (m : ℕ) → IsInSpan s (number_in_slot s m) m
  its_span m =
      let f = k.force m in
      record { within = f.within; from = f.has_begun; to = λ l. f.is_last (number_in_slot s m + 1) (omega arith) (omega (arith, l)) }

  -- what is known of a window of the limit
  record IsWindow (first to : ℕ) : Type 0 where
    size : first + limit ≡ to
    some : 0 < to
    room : to ≤ length out

  -- the limit has a period
  period_fits : (n : ℕ) → n ≤ length s.later → (0 < (plan_at s n).rounds.period) × ((plan_at s n).rounds.period ≤ limit)
  period_fits n within =
      let r = (plan_at s n).rounds in
      let ok = (built_at s k.plans n within).rounds in
      let pos = positive r ok in
      (pos.1, omega (arith, ok.period, ap fast_limit_of (rounds_rate s k n within)))

  -- the slot behind a window isn't past the end of the span of its last slot
  up_to : (n to : ℕ) → 0 < to → IsInSpan s n (to - 1) → n < length s.later → to ≤ (span_at s (n + 1)).slot
  up_to n to some i l = let below = i.to l in omega (arith, below, some)

  -- of a PID with a section in a plan: it ends in a window inside the span
  module _ (pid : ℕ) (off : IsOff s pid) (P : ℕ → List ℕ → Type 0)
      (which : (n : ℕ) → n ≤ length s.later → ((x : SectionOnPid) × Carries (plan_at s n) pid x) ⊎ IsQuietOn pid (packets_of_span s n out))
      (says : (n m : ℕ) (x : SectionOnPid) → IsInSpan s n m → Carries (plan_at s n) pid x → P m x.bytes) where
    ends_inside : (n first to : ℕ) (x : SectionOnPid) → Carries (plan_at s n) pid x → IsWindow first to → IsInSpan s n (to - 1) → (span_at s n).slot ≤ first → EndsFrom P pid out first to
    ends_inside n first to x c window i low =
        let fits = period_fits n i.within in
        let size = window.size in
        let room = window.room in
        let some = window.some in
        let found = in_period s k out h pid off P which says n first x c i.within low (omega (arith, fits.1, size, room)) (λ l. (let t = up_to n to some i l in omega (arith, t, fits.1, size))) in
        let high = found.high in
        record { slot = found.slot; low = found.low; high = omega (arith, high, fits.1, size); ends = found.ends }

    -- in the span before a switch
    ends_before : (n first : ℕ) (x : SectionOnPid) → Carries (plan_at s n) pid x → (l : n < length s.later) → (span_at s (n + 1)).slot ≤ length out → first + (plan_at s (n + 1)).rounds.period ≤ (span_at s (n + 1)).slot
        → (found : EndsFrom P pid out first (span_at s (n + 1)).slot) × ((span_at s n).slot ≤ found.slot)
    ends_before n first x c l room fits =
        let one = rounds_period s k n (omega (arith, l)) in
        let next = rounds_period s k (n + 1) (omega (arith, l)) in
        before_switch s k out h pid off P which says n x c l first (omega (arith, fits, one, next)) room

    -- behind a switch, or else there is a period before it
    ends_behind : (n first to : ℕ) (x : SectionOnPid) → Carries (plan_at s (n + 1)) pid x → IsWindow first to → IsInSpan s (n + 1) (to - 1) → (l : n < length s.later) → first < (span_at s (n + 1)).slot
        → EndsFrom P pid out (span_at s (n + 1)).slot to ⊎ (first + (plan_at s (n + 1)).rounds.period ≤ (span_at s (n + 1)).slot)
    ends_behind n first to x c window i l late =
        let some = window.some in
        let place = (last_of s k out h pid off P which says (n + 1) i.within x c).place in
        elim (cases_lt ((span_at s (n + 1)).slot + place * (plan_at s (n + 1)).rounds.gap) to) [
          | inl soon ↦ inl (behind_switch s k out h pid off P which says (n + 1) x c i.within to window.room (λ more. up_to (n + 1) to some i more) soon)
          | inr none ↦ inr (room_before s k out h pid off P which says n x c l i.within first to window.size none)
        ]

  -- ---- the PAT comes in time

  pat_inside : (n first to : ℕ) → IsWindow first to → IsInSpan s n (to - 1) → (span_at s n).slot ≤ first → EndsFrom PatIn 0x0000 out first to
  pat_inside n first to window i low = ends_inside 0x0000 low_off PatIn pat_which pat_says n first to (plan_at s n).tables.pat (pat_in n i.within) window i low

  pat_before : (n first : ℕ) → (l : n < length s.later) → (span_at s (n + 1)).slot ≤ length out → first + (plan_at s (n + 1)).rounds.period ≤ (span_at s (n + 1)).slot
      → (found : EndsFrom PatIn 0x0000 out first (span_at s (n + 1)).slot) × ((span_at s n).slot ≤ found.slot)
  pat_before n first l room fits = ends_before 0x0000 low_off PatIn pat_which pat_says n first (plan_at s n).tables.pat (pat_in n (omega (arith, l))) l room fits

  pat_behind : (n first to : ℕ) → IsWindow first to → IsInSpan s (n + 1) (to - 1) → (l : n < length s.later) → first < (span_at s (n + 1)).slot
      → EndsFrom PatIn 0x0000 out (span_at s (n + 1)).slot to ⊎ (first + (plan_at s (n + 1)).rounds.period ≤ (span_at s (n + 1)).slot)
  pat_behind n first to window i l late = ends_behind 0x0000 low_off PatIn pat_which pat_says n first to (plan_at s (n + 1)).tables.pat (pat_in (n + 1) i.within) window i l late

  pat_ends_late : (n first to : ℕ) → IsWindow first to → IsInSpan s n (to - 1) → first < (span_at s n).slot → EndsFrom PatIn 0x0000 out first to
  pat_ends_late zero first to window i late = absurd (omega (arith, late))
  pat_ends_late (suc n) first to window i late =
      let e : suc n ≡ n + 1 = omega arith in
      let j : IsInSpan s (n + 1) (to - 1) = subst (λ o. IsInSpan s o (to - 1)) e i in
      let l : n < length s.later = (let within = j.within in omega (arith, within)) in
      let now : first < (span_at s (n + 1)).slot = subst (λ o. first < (span_at s o).slot) e late in
      let from = j.from in
      let some = window.some in
      elim (pat_behind n first to window j l now) [
        | inl found ↦ (let low = found.low in record { slot = found.slot; low = omega (arith, low, now); high = found.high; ends = found.ends })
        | inr fits ↦
            let room = window.room in
            let found = (pat_before n first l (omega (arith, from, some, room)) fits).0 in
            let high = found.high in
            record { slot = found.slot; low = found.low; high = omega (arith, high, from, some); ends = found.ends }
      ]

  pat_ends : (first to : ℕ) → IsWindow first to → EndsFrom PatIn 0x0000 out first to
  pat_ends first to window =
      let n = number_in_slot s (to - 1) in
      let i = its_span (to - 1) in
      elim (cases_lt first (span_at s n).slot) [
        | inl late ↦ pat_ends_late n first to window i late
        | inr low ↦ pat_inside n first to window i low
      ]

  -- where a PAT ends is a mark
  pat_mark : (m : ℕ) → EndsIn PatIn 0x0000 out m → is_pat_mark out (suc m) ≡ true
  pat_mark m ends =
      let b = ends.read.section in
      let is = ends.read.is in
      let says = (subst IsPatSection (sym is.2) (pat_facts (plan_at s is.0) (built_at s k.plans is.0 is.1.within).tables)).says in
      or_right (suc m == 0) (completes pats_of out (suc m))
      (completed pats_of out m says.0 (read_more pat_section_of b says.0 (sections_to 0x0000 out m) (sections_to 0x0000 out (suc m)) says.1 (one_more PatIn 0x0000 out m pat_reads ends)))

  window_of : (m : ℕ) → m < length out → limit ≤ m → IsWindow (m - limit) m
  window_of m l room =
      let fits = period_fits 0 (omega arith) in
      record { size = omega (arith, room); some = omega (arith, fits.0, fits.1, room); room = omega (arith, l) }

  no_pat_gap : (m : ℕ) → m < length out → is_gap_at limit (λ j. true) (is_pat_mark out) m ≡ true → ⊥
  no_pat_gap m l t =
      let gap = is_gap limit (λ j. true) (is_pat_mark out) m t in
      let found = pat_ends (m - limit) m (window_of m l gap.room) in
      let low = found.low in
      let high = found.high in
      gap.unmarked (suc found.slot) (omega (arith, low)) (omega (arith, high)) (pat_mark found.slot found.ends)

  -- no other section is read on its PID
  no_other_section : (m : ℕ) → m ≤ length out → others_of (take m out) ≡ []
  no_other_section m l = none_other (sections_to 0x0000 out m) (pats m l)
    where
      none_other : (bs : List (List ℕ)) → All IsPatSection bs → filter (λ b. not (field b 0 8 == 0)) bs ≡ []
      none_other [] all = refl
      none_other (b ∷ bs) all =
          let e : not (field b 0 8 == 0) ≡ false = ap not (eq-eqb (field b 0 8) 0 (All-head IsPatSection b bs all).id) in
          rw e (none_other bs (All-tail IsPatSection b bs all))

  not_scrambled : (pid : ℕ) → IsOff s pid → (m : ℕ) → m < length out → is_scrambled_at out pid m ≡ true → ⊥
  not_scrambled pid off m l t =
      let q = slot_at out m in
      let outer = and_parts (is_packet q) (pid_of q == pid && not (transport_scrambling_control_of q == 0)) t in
      let inner = and_parts (pid_of q == pid) (not (transport_scrambling_control_of q == 0)) outer.1 in
      let clear : transport_scrambling_control_of q ≡ 0 = clear_on pid off m [] l (eqb-true (pid_of q) pid inner.0) in
      let clash : false ≡ true = ap not (sym (eq-eqb (transport_scrambling_control_of q) 0 clear)) ∙ inner.1 in absurd cc

  pub no_pat_error : (m : ℕ) → m < length out → is_pat_bad_at (table_limit s.first.request.rate) out m ≡ true → ⊥
  unfolding is_pat_bad_at
  no_pat_error m l t =
      let none : completed_by others_of out (m + 1) ≡ [] =
      ap (λ (bs : List (List ℕ)). drop (length bs) (others_of (take (m + 1) out))) (no_other_section (m + 1 - 1) (omega (arith, l))) ∙ no_other_section (m + 1) (omega (arith, l)) in
      let quiet : completes others_of out (m + 1) ≡ false = ap (λ (bs : List (List ℕ)). not (length bs == 0)) none in
      let gap : is_gap_at limit (λ j. true) (is_pat_mark out) m ≡ false = false_from_ne_true _ (no_pat_gap m l) in
      let clear : is_scrambled_at out 0x0000 m ≡ false = false_from_ne_true _ (not_scrambled 0x0000 low_off m l) in
      let all : is_pat_bad_at (table_limit s.first.request.rate) out m ≡ false = rw (gap, quiet, clear) refl in
      false≢true (sym all ∙ t)

  -- ---- a PMT comes in time

  -- the newest PAT is that of this plan, and names the PID: so the plan has a PMT on it
  abbrev IsNewest : ℕ → ℕ → Type 0
  IsNewest n m = NewestIs (plan_at s n).tables.pat.bytes (sections_to 0x0000 out m)

  named_by : (n m pid : ℕ) → n ≤ length s.later → m ≤ length out → IsNewest n m → is_pmt_watched out pid m ≡ true → (chosen : List ChosenValue) → IsPlanOf (plan_at s n).request chosen (plan_at s n)
      → (i : ℕ) × (i < length (plan_at s n).tables.pmts) × ((d : SectionOnPid) → (get_or (plan_at s n).tables.pmts i d).pid ≡ pid)
  named_by n m pid within room newest t chosen made =
      let p = plan_at s n in
      let Q : PatRow → Type 0 = IsRowOf p.tables.pmts in
      let says = (pat_facts p (built_at s k.plans n within).tables).says in
      let v = output_pat p.request chosen in
      let is = pat_read p chosen made in
      let by = named Q p.tables.pat.bytes (record { header = v.header; table = v }) (take m out) pid newest
      (All-weaker IsPatSection HasNumber0 (λ b f. f.number) (sections_to 0x0000 out m) (pats m room)) is refl (rows_named p chosen made) t in
      elim by.is [
        | inl z ↦ absurd (false≢true (sym by.program ∙ eq-eqb _ _ z))
        | inr found ↦ (found.0, found.1, λ d. found.2 d ∙ by.names)
      ]

  -- and so the plan has a PMT on it; the rest follows from that
  with_pmt : (n m pid : ℕ) → n ≤ length s.later → m ≤ length out → IsNewest n m → is_pmt_watched out pid m ≡ true → ((x : SectionOnPid) → Carries (plan_at s n) pid x → ⊥) → ⊥
  with_pmt n m pid within room newest t then =
      let plan = (built_at s k.plans n within).tables in
      let any : SectionOnPid = record { pid = 0; bytes = [] } in
      ∥∥₁_elim plan never (λ made.
      let f = named_by n m pid within room newest t made.0 made.1 in
      then (get_or (plan_at s n).tables.pmts f.0 any) (pmt_carried (plan_at s n) (facts s k n within) plan f.0 any f.1 pid (f.2 any)))

  -- the PID is one of a table
  with_pid : (n m pid : ℕ) → n ≤ length s.later → m ≤ length out → IsNewest n m → is_pmt_watched out pid m ≡ true → (IsTablePidOf s pid → 0x0020 ≤ pid → ⊥) → ⊥
  with_pid n m pid within room newest t then =
      let plan = (built_at s k.plans n within).tables in
      let any : SectionOnPid = record { pid = 0; bytes = [] } in
      ∥∥₁_elim plan never (λ made.
      let f = named_by n m pid within room newest t made.0 made.1 in
      let on = f.2 any in
      let range = (facts s k n within).pmts_range f.0 any f.1 in
      then (subst (IsTablePidOf s) on ((table_pids s k n within).0 (suc f.0) any (omega (arith, f.1)))) (omega (arith, range.0, on)))

  -- ---- of one PID of a PMT

  module _ (pid : ℕ) (table : IsTablePidOf s pid) (high_pid : 0x0020 ≤ pid) where
    pmt_off : IsOff s pid
    pmt_off = off s k pid table

    -- the section of a slot is a PMT
    abbrev PmtIn : ℕ → List ℕ → Type 0
    PmtIn m b = (v : PmtValue) × (pmt_of b ≡ Ok v)

    quiet : (n : ℕ) (within : n ≤ length s.later) → list_any (λ (x : SectionOnPid). x.pid == pid) (plan_at s n).tables.pmts ≡ false → IsQuietOn pid (packets_of_span s n out)
    quiet n within none = λ i d l.
        let q = get_or (packets_of_span s n out) i d in
        let e : slice_get (packets_of_span s n out) i ≡ Some q = slice_get-get_or (packets_of_span s n out) i d l in
        ne_eqb (pid_of q) pid (by_place i q (take (span_at s n).slot out ++ take i (packets_of_span s n out)) (table_at p.rounds i) refl (is_span s k.schedule.slots n out within h i q e))
      where
        p : PlanValue
        p = plan_at s n

        others : All (λ (x : SectionOnPid). x.pid ≡ pid → ⊥) (fast_sections p)
        others =
            All-cons (λ (x : SectionOnPid). x.pid ≡ pid → ⊥) p.tables.pat p.tables.pmts (λ e. omega (arith, (facts s k n within).basics.pat_pid, e, high_pid))
            (λ i d l e. false≢true (sym none ∙ list_any_at (λ (x : SectionOnPid). x.pid == pid) p.tables.pmts i d l (eq-eqb _ _ e)))

        by_place : (i : ℕ) (q : List ℕ) (before : List (List ℕ)) (o : Option TablePlace) → table_at p.rounds i ≡ o → IsPacketOf p before o q → pid_of q ≡ pid → ⊥
        by_place i q before None t c on = other_pid p pid q (no_other s pid pmt_off n within) c.1 on
        by_place i q before (Some (Fast j)) t c on =
            let f = facts s k n within in
            let inside = are_places p.rounds (built_at s k.plans n within).rounds i (Fast j) t in
            let l : j < length (fast_packets p.tables) = omega (arith, f.basics.fast_len, inside) in
            packets_have (λ a. a ≡ pid → ⊥) (fast_sections p) f.fast_pids others j null_packet l (sym (kept_pid p before (get_or (fast_packets p.tables) j null_packet) q (f.fast j null_packet l) c) ∙ on)
        by_place i q before (Some (Slow j)) t c on =
            let f = facts s k n within in
            let inside = are_places p.rounds (built_at s k.plans n within).rounds i (Slow j) t in
            let l : j < length (slow_packets p.tables) = omega (arith, f.basics.slow_len, inside) in
            let range = f.slow_on j null_packet l in
            let same = kept_pid p before (get_or (slow_packets p.tables) j null_packet) q (f.slow j null_packet l) c in
            omega (arith, range.1, same, on, high_pid)

    pmt_which : (n : ℕ) → n ≤ length s.later → ((x : SectionOnPid) × Carries (plan_at s n) pid x) ⊎ IsQuietOn pid (packets_of_span s n out)
    pmt_which n within =
        let p = plan_at s n in
        elim (cases_Bool (list_any (λ (x : SectionOnPid). x.pid == pid) p.tables.pmts)) [
          | inl y ↦
              let a = Any-from_list_any (λ (x : SectionOnPid). x.pid == pid) p.tables.pmts y in
              let on : (get_or p.tables.pmts a.0 a.1).pid ≡ pid = ap (λ (x : SectionOnPid). x.pid) a.3 ∙ eqb-true _ _ a.4 in
              inl (get_or p.tables.pmts a.0 a.1, pmt_carried p (facts s k n within) (built_at s k.plans n within).tables a.0 a.1 a.2 pid on)
          | inr none ↦ inr (quiet n within none)
        ]

    pmt_says : (n m : ℕ) (x : SectionOnPid) → IsInSpan s n m → Carries (plan_at s n) pid x → PmtIn m x.bytes
    pmt_says n m x i c = by_index (plan_at s n) (facts s k n i.within) (built_at s k.plans n i.within).tables x c c.index c.there
      where
        by_index : (p : PlanValue) → PlanFacts p → IsPlan p → (x : SectionOnPid) → Carries p pid x → (j : ℕ) → slice_get (fast_sections p) j ≡ Some x → (v : PmtValue) × (pmt_of x.bytes ≡ Ok v)
        by_index p f is x c zero e =
            let same : p.tables.pat ≡ x = cc in
            absurd (omega (arith, f.basics.pat_pid, ap (λ (u : SectionOnPid). u.pid) same, c.on, high_pid))
        by_index p f is x c (suc j) e =
            let l = slice_get_within p.tables.pmts j x e in
            let here : get_or p.tables.pmts j x ≡ x = get_or_from_slice_get p.tables.pmts j x x e in
            subst (λ (u : SectionOnPid). (v : PmtValue) × (pmt_of u.bytes ≡ Ok v)) here (pmt_facts p is j x l).says

    pmt_reads : Reads PmtIn pid out
    pmt_reads = record { whole = sound_whole; clear = clear_on pid pmt_off; each = λ m q e on. read_at s k out h pid pmt_off PmtIn pmt_which pmt_says m q e on }

    pmt_mark : (m : ℕ) → EndsIn PmtIn pid out m → is_pmt_mark out pid (suc m) ≡ true
    pmt_mark m ends =
        let b = ends.read.section in
        let is = ends.read.is in
        let read : value_of (pmt_of b) ≡ Some is.0 = ap value_of is.1 in
        or_left (completes (pmts_of pid) out (suc m)) (began_at (is_pmt_watched out pid) (suc m))
        (completed (pmts_of pid) out m is.0 (read_more (λ c. value_of (pmt_of c)) b is.0 (sections_to pid out m) (sections_to pid out (suc m)) read (one_more PmtIn pid out m pmt_reads ends)))

    module _ (m : ℕ) (l : m < length out) (gap : IsGap limit (is_pmt_watched out pid) (is_pmt_mark out pid) m) where
      abbrev first : ℕ
      first = m - limit

      window : IsWindow first m
      window = window_of m l gap.room

      -- a PMT that ends in the window
      marked : (from to : ℕ) → first ≤ from → to ≤ m → EndsFrom PmtIn pid out from to → ⊥
      marked from to a b found =
          let low = found.low in
          let high = found.high in
          gap.unmarked (suc found.slot) (omega (arith, low, a)) (omega (arith, high, b)) (pmt_mark found.slot found.ends)

      watched : (j : ℕ) → first ≤ j → j ≤ m → is_pmt_watched out pid j ≡ true
      watched j a b = gap.watched_at j a b

      all_in_one : (n : ℕ) → IsInSpan s n (m - 1) → (span_at s n).slot ≤ first → ⊥
      all_in_one n i low =
          let found = pat_inside n first m window i low in
          let some = window.some in
          let a = found.low in
          let b = found.high in
          let j : IsInSpan s n found.slot = record { within = i.within; from = omega (arith, a, low); to = λ more. (let t = up_to n m some i more in omega (arith, t, b)) } in
          let newest = newest_pat n found.slot m j found.ends b (omega (arith, l)) (λ more. up_to n m some i more) in
          with_pmt n m pid i.within (omega (arith, l)) newest (watched m (omega arith) (omega arith))
          (λ x c. marked first m (omega arith) (omega arith) (ends_inside pid pmt_off PmtIn pmt_which pmt_says n first m x c window i low))

      -- the plan before a switch had it, and sent it
      before : (n : ℕ) (more : n < length s.later) → first < (span_at s (n + 1)).slot → (span_at s (n + 1)).slot ≤ m → first + (plan_at s (n + 1)).rounds.period ≤ (span_at s (n + 1)).slot → ⊥
      before n more late to fits =
          let w = (span_at s (n + 1)).slot in
          let room : w ≤ length out = omega (arith, to, l) in
          let pat = pat_before n first more room fits in
          let b = pat.0.high in
          let within : n ≤ length s.later = omega (arith, more) in
          let j : IsInSpan s n pat.0.slot = record { within = within; from = pat.1; to = λ _. b } in
          let newest = newest_pat n pat.0.slot w j pat.0.ends b room (λ _. omega arith) in
          with_pmt n w pid within room newest (watched w (omega (arith, late)) to)
          (λ x c. marked first w (omega arith) to (ends_before pid pmt_off PmtIn pmt_which pmt_says n first x c more room fits).0)

      over_switch : (n : ℕ) → IsInSpan s n (m - 1) → first < (span_at s n).slot → ⊥
      over_switch zero i late = absurd (omega (arith, late))
      over_switch (suc n) i late =
          let e : suc n ≡ n + 1 = omega arith in
          let j : IsInSpan s (n + 1) (m - 1) = subst (λ o. IsInSpan s o (m - 1)) e i in
          let more : n < length s.later = (let within = j.within in omega (arith, within)) in
          let now : first < (span_at s (n + 1)).slot = subst (λ o. first < (span_at s o).slot) e late in
          let from = j.from in
          let some = window.some in
          let to : (span_at s (n + 1)).slot ≤ m = omega (arith, from, some) in
          elim (pat_behind n first m window j more now) [
            | inl pat ↦
                let a = pat.low in
                let b = pat.high in
                let i' : IsInSpan s (n + 1) pat.slot = record { within = j.within; from = a; to = λ also. (let t = up_to (n + 1) m some j also in omega (arith, t, b)) } in
                let newest = newest_pat (n + 1) pat.slot m i' pat.ends b (omega (arith, l)) (λ also. up_to (n + 1) m some j also) in
                with_pmt (n + 1) m pid j.within (omega (arith, l)) newest (watched m (omega arith) (omega arith))
                (λ x c. elim (ends_behind pid pmt_off PmtIn pmt_which pmt_says n first m x c window j more now) [
                  | inl found ↦ marked (span_at s (n + 1)).slot m (omega (arith, now)) (omega arith) found
                  | inr fits ↦ before n more now to fits
                ])
            | inr fits ↦ before n more now to fits
          ]

      no_gap : ⊥
      no_gap =
          let n = number_in_slot s (m - 1) in
          let i = its_span (m - 1) in
          elim (cases_lt first (span_at s n).slot) [
            | inl late ↦ over_switch n i late
            | inr low ↦ all_in_one n i low
          ]

  -- ---- of each PID

  -- where a PAT was read there is a newest one, of some plan
  newest_of : (m : ℕ) (bs : List (List ℕ)) → All (IsOfSlot PatIn) bs → (bs ≡ []) ⊎ ((n : ℕ) × (n ≤ length s.later) × NewestIs (plan_at s n).tables.pat.bytes bs)
  newest_of m [] all = inl refl
  newest_of m (b ∷ bs) all = elim (newest_of m bs (All-tail (IsOfSlot PatIn) b bs all)) [
    | inl none ↦
        let is = All-head (IsOfSlot PatIn) b bs all in
        inr (is.1.0, is.1.1.within, ([], ap (λ (c : List ℕ). c ∷ bs) is.1.2 ∙ ap (λ (cs : List (List ℕ)). (plan_at s is.1.0).tables.pat.bytes ∷ cs) none))
    | inr last ↦ inr (last.0, last.1, (b ∷ last.2.0, ap (λ (cs : List (List ℕ)). b ∷ cs) last.2.1))
  ]

  watched_table : (m pid : ℕ) → m ≤ length out → is_pmt_watched out pid m ≡ true → (IsTablePidOf s pid → 0x0020 ≤ pid → ⊥) → ⊥
  watched_table m pid room t then =
      elim (newest_of m (sections_to 0x0000 out m) (all_of_slots PatIn 0x0000 out m pat_reads room)) [
        | inl none ↦ nothing_named (take m out) pid none t
        | inr last ↦ with_pid last.0 m pid last.1 room last.2 t then
      ]

  pub no_pmt_error : (m pid : ℕ) → m < length out → is_pmt_bad_at (table_limit s.first.request.rate) out m pid ≡ true → ⊥
  unfolding is_pmt_bad_at
  no_pmt_error m pid l t =
      let watched = is_pmt_watched out pid in
      let mark = is_pmt_mark out pid in
      elim (cases_Bool (is_gap_at limit watched mark m)) [
        | inl y ↦
            let gap = is_gap limit watched mark m y in
            watched_table m pid (omega (arith, l)) (gap.watched_at m (omega arith) (omega arith)) (λ table high. no_gap pid table high m l gap)
        | inr n ↦
            let other : (is_scrambled_at out pid m && watched m) ≡ true = sym (ap (λ (b : Bool). b || (is_scrambled_at out pid m && watched m)) n) ∙ t in
            let both = and_parts (is_scrambled_at out pid m) (watched m) other in
            watched_table m pid (omega (arith, l)) both.1 (λ table high. not_scrambled pid (off s k pid table) m l both.0)
      ]
