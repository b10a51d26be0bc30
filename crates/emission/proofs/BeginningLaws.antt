-- Nothing goes out on a stream's PID before the stream comes into force, and what went out on other PIDs leaves its transport buffer empty.
use Rattle.std.proofs.Common.{ℕ, zero, suc, ◌+◌, ◌-◌, ◌*◌, ◌≤◌, ◌<◌, ◌≡◌, ◌↔◌, ◌∙◌, inl, inr, Option, Some, None, List, [], ◌∷◌, ◌++◌, length, take, drop, get_or, false, cond, reverse, flat_map, replicate, refl, ap, sym, subst, arith}
use Rattle.std.specs.Prelude.{nat_eq}
use Rattle.std.specs.List.{slice_get, Contains}
use Rattle.std.proofs.Math.Seq.{take-suc}
use Rattle.std.proofs.Math.Bool.{or-false}
use Rattle.std.proofs.lemmas.Bool.{cases_lt, ne_eqb}
use Rattle.std.proofs.lemmas.Grind.{flat_map-append}
use Rattle.std.proofs.lemmas.List.{reverse-append, take-append-drop, take_all}
use Rattle.std.proofs.lemmas.List.Elements.{filter_more}
use Rattle.std.proofs.lemmas.Option.{slice_get-get_or}
use Rattle.tspkt.specs.Packet.{pid_of}
use Rattle.request.specs.declared.stream.Stream.{Stream}
use Rattle.rounds.specs.declared.table_place.TablePlace.{TablePlace}
use Rattle.rounds.proofs.RecurringLaws.{are_places}
use Rattle.schedule.specs.Schedule.{ScheduleValue, span_at, plan_at, number_in_slot}
use Rattle.schedule.specs.Switches.{SlotsFollow}
use Rattle.schedule.proofs.ForceLaws.{slots_ascend}
use Rattle.buffers.specs.Level.{packet_bytes, is_on_pids, bytes_of_set, IsLevel}
use Rattle.buffers.proofs.BytesLaws.{bytes_of_set-push}
use Rattle.buffers.proofs.LevelLaws.{level-more, level-others}
use Rattle.emission.specs.Emission.{of_pid, IsPacketOf}
use Rattle.emission.specs.Spans.{slot_in_span, table_in, IsEmissionOf, ComesWith, BeginsIn, StreamsBegin}
use Rattle.emission.proofs.SlotLaws.{null_pid}
use Rattle.emission.proofs.SpanLaws.{by_span}
use Rattle.emission.proofs.SpanFacts.{IsKnown, built_at}
use Rattle.emission.proofs.ApartLaws.{out_range, table_apart}

-- ---- packets before a stream comes into force

-- a span whose slot has come isn't behind one whose slot hasn't
is_before : (s : ScheduleValue) → SlotsFollow s → (now number m : ℕ) → now ≤ length s.later → (span_at s now).slot ≤ m → m < (span_at s number).slot → now < number
is_before s follow now number m within begun to = elim (cases_lt now number) [
  | inl less ↦ less
  | inr most ↦ absurd (not_behind (now - number) (omega (arith, most)))
]
  where
    not_behind : (n : ℕ) → now ≡ number + n → ⊥
    not_behind zero e =
        let same : now ≡ number = omega (arith, e) in
        let slot = ap (λ k. (span_at s k).slot) same in
        omega (arith, slot, begun, to)
    not_behind (suc n) e =
        let slot = ap (λ k. (span_at s k).slot) e in
        let ascend = slots_ascend s follow number n (omega (arith, e, within)) in
        omega (arith, slot, ascend, begun, to)

-- what goes out by a plan that doesn't have the stream is on another PID
apart : (s : ScheduleValue) (now number m : ℕ) (out : List (List ℕ)) (st : Stream) (q : List ℕ) → IsKnown s → now ≤ length s.later → ComesWith s st number
    → now < number → (content : Option TablePlace) → table_in (span_at s now) m ≡ content → IsPacketOf (plan_at s now) out content q → pid_of q ≡ st.output_pid → ⊥
apart s now number m out st q k within comes less (Some place) turn is e =
    let w = span_at s now in
    let there = are_places w.plan.rounds (built_at s k.plans now within).rounds (slot_in_span w.slot m) place turn in
    table_apart s now number out place st k within comes.within comes.in_plan there (sym (ap pid_of is) ∙ e)
apart s now number m out st q k within comes less None turn (_, inl null) e =
    let range = out_range s k number st comes.within comes.in_plan in
    let pid = sym null_pid ∙ sym (ap pid_of null) ∙ e in
    omega (arith, pid, range.1)
apart s now number m out st q k within comes less None turn (_, inr other) e =
    let one = k.pids.one_stream now number other.1 st within comes.within (other.0, other.2, other.3) comes.in_plan (sym other.4 ∙ e) in
    comes.not_before now less (subst (Contains (plan_at s now).request.streams) one (other.0, other.2, other.3))

before : (s : ScheduleValue) (number m : ℕ) (out : List (List ℕ)) (st : Stream) (q : List ℕ) → IsKnown s → IsEmissionOf s out → ComesWith s st number
    → m < (span_at s number).slot → slice_get out m ≡ Some q → pid_of q ≡ st.output_pid → ⊥
before s number m out st q k h comes to at e =
    let now = number_in_slot s m in
    let force = k.force m in
    let less = is_before s k.schedule.slots now number m force.within force.has_begun to in
    apart s now number m (take m out) st q k force.within comes less (table_in (span_at s now) m) refl (by_span s out h m q at) e

-- ---- levels

level_none : (leak rate : ℕ) → IsLevel leak rate [] 0
level_none leak rate = record { within = λ k l. absurd (omega arith); least = λ m w. omega arith }

-- the level of these bytes behind an empty buffer
level_of : ℕ → ℕ → List ℕ → ℕ
level_of leak rate [] = 0
level_of leak rate (b ∷ bytes) = rate * b + (level_of leak rate bytes - leak)

level_behind : (leak rate : ℕ) (new old : List ℕ) → IsLevel leak rate old 0 → IsLevel leak rate (new ++ old) (level_of leak rate new)
unfolding level_of
level_behind leak rate [] old h = h
level_behind leak rate (b ∷ new) old h = level-more leak rate b (level_of leak rate new) (new ++ old) (level_behind leak rate new old h)

level_alone : (leak rate : ℕ) (new : List ℕ) → IsLevel leak rate new (level_of leak rate new)
unfolding level_of
level_alone leak rate [] = level_none leak rate
level_alone leak rate (b ∷ new) = level-more leak rate b (level_of leak rate new) new (level_alone leak rate new)

one_level : (leak rate : ℕ) (bytes : List ℕ) (a b : ℕ) → IsLevel leak rate bytes a → IsLevel leak rate bytes b → a ≡ b
one_level leak rate bytes a b x y =
    let below = x.least b y.within in
    let above = y.least a x.within in
    omega (arith, below, above)

-- behind an empty buffer a level is what it is alone
same_level : (leak rate n : ℕ) (new old : List ℕ) → IsLevel leak rate old 0 → IsLevel leak rate (new ++ old) n ↔ IsLevel leak rate new n
same_level leak rate n new old h =
    let alone = level_alone leak rate new in
    let behind = level_behind leak rate new old h in
    let top = level_of leak rate new in (
      λ x. subst (IsLevel leak rate new) (one_level leak rate (new ++ old) top n behind x) alone,
      λ x. subst (IsLevel leak rate (new ++ old)) (one_level leak rate new top n alone x) behind,
    )

-- ---- packets on other PIDs

abbrev Silent : ℕ → ℕ → ℕ → List (List ℕ) → Type 0
Silent pid leak rate out = (of_pid pid out ≡ []) × IsLevel leak rate (bytes_of_set (pid ∷ []) out) 0

-- one more packet of others
level_on : (pid leak rate : ℕ) (out : List (List ℕ)) (q : List ℕ) → is_on_pids (pid ∷ []) q ≡ false → IsLevel leak rate (bytes_of_set (pid ∷ []) out) 0
    → IsLevel leak rate (bytes_of_set (pid ∷ []) (out ++ q ∷ [])) 0
unfolding packet_bytes
level_on pid leak rate out q off h =
    let bytes = bytes_of_set (pid ∷ []) out in
    let is : bytes_of_set (pid ∷ []) (out ++ q ∷ []) ≡ replicate 188 0 ++ bytes =
    bytes_of_set-push (pid ∷ []) out q ∙ ap (λ b. packet_bytes b ++ bytes) off in
    let low : 0 - 188 * leak ≡ 0 = omega arith in
    subst (λ (bs : List ℕ). IsLevel leak rate bs 0) (sym is) (subst (IsLevel leak rate (replicate 188 0 ++ bytes)) low (level-others leak rate 0 188 bytes h))

silent : (pid leak rate : ℕ) (out : List (List ℕ)) (m : ℕ) → m ≤ length out → ((j : ℕ) → j < m → pid_of (get_or out j []) ≡ pid → ⊥)
    → Silent pid leak rate (take m out)
silent pid leak rate out zero l others = (refl, level_none leak rate)
silent pid leak rate out (suc m) l others =
    let q = get_or out m [] in
    let known = silent pid leak rate out m (omega (arith, l)) (λ j k. others j (omega (arith, k))) in
    let more : take (suc m) out ≡ take m out ++ q ∷ [] = take-suc out m [] (omega (arith, l)) in
    let plus : m + 1 ≡ suc m = omega arith in
    let off : nat_eq (pid_of q) pid ≡ false = ne_eqb (pid_of q) pid (others m (omega arith)) in
    let none : of_pid pid (take (suc m) out) ≡ [] =
    ap (λ n. of_pid pid (take n out)) (sym plus) ∙ filter_more (λ p. nat_eq (pid_of p) pid) out m [] (omega (arith, l))
    ∙ ap (λ b. of_pid pid (take m out) ++ cond b (q ∷ []) []) off ∙ ap (λ (ps : List (List ℕ)). ps ++ []) known.0 in
    let out_of : is_on_pids (pid ∷ []) q ≡ false = or-false (nat_eq pid (pid_of q)) ∙ ne_eqb pid (pid_of q) (λ e. others m (omega arith) (sym e)) in
    (none, subst (λ ps. IsLevel leak rate (bytes_of_set (pid ∷ []) ps) 0) (sym more) (level_on pid leak rate (take m out) q out_of known.1))

-- the newer bytes stand before the older ones
bytes_split : (pids : List ℕ) (a b : List (List ℕ)) → bytes_of_set pids (a ++ b) ≡ bytes_of_set pids b ++ bytes_of_set pids a
bytes_split pids a b =
    let f = λ (packet : List ℕ). packet_bytes (is_on_pids pids packet) in ap (flat_map f) (reverse-append a b) ∙ flat_map-append f (reverse b) (reverse a)

-- ---- the law

begins : (s : ScheduleValue) (out : List (List ℕ)) (st : Stream) (slot : ℕ) → Silent st.output_pid st.leak s.first.request.rate (take slot out) → BeginsIn s out st slot
begins s out st slot quiet =
    let pids = st.output_pid ∷ [] in
    let older = bytes_of_set pids (take slot out) in
    let newer = bytes_of_set pids (drop slot out) in
    let leak = st.leak in
    let rate = s.first.request.rate in
    let is : bytes_of_set pids out ≡ newer ++ older = ap (bytes_of_set pids) (sym (take-append-drop slot out)) ∙ bytes_split pids (take slot out) (drop slot out) in
    record {
      nothing_before = quiet.0;
      level = λ n.
          let same = same_level leak rate n newer older quiet.1 in (
            λ h. same.0 (subst (λ (bs : List ℕ). IsLevel leak rate bs n) is h),
            λ h. subst (λ (bs : List ℕ). IsLevel leak rate bs n) (sym is) (same.1 h),
          );
    }

pub streams_begin : (s : ScheduleValue) → IsKnown s → (out : List (List ℕ)) → IsEmissionOf s out → StreamsBegin s out
streams_begin s k out h st number comes =
    let slot = (span_at s number).slot in
    let pid = st.output_pid in
    let others : (j : ℕ) → j < slot → j < length out → pid_of (get_or out j []) ≡ pid → ⊥ =
    λ j to l. before s number j out st (get_or out j []) k h comes to (slice_get-get_or out j [] l) in
    begins s out st slot (elim (cases_lt (length out) slot) [
      | inl less ↦
          let all : take (length out) out ≡ take slot out = take_all (length out) out (omega arith) ∙ sym (take_all slot out (omega (arith, less))) in
          subst (Silent pid st.leak s.first.request.rate) all (silent pid st.leak s.first.request.rate out (length out) (omega arith) (λ j l. others j (omega (arith, l, less)) l))
      | inr most ↦ silent pid st.leak s.first.request.rate out slot (omega (arith, most)) (λ j l. others j l (omega (arith, l, most)))
    ])
