-- What holds of output PIDs over all plans of a schedule: a stream is in force in one run of plans, and never comes back; and a PID is
-- that of one stream, or of PMTs alone.
use Rattle.std.proofs.Common.{ℕ, zero, suc, ◌≡◌, ◌+◌, ◌-◌, ◌≤◌, ◌<◌, ◌∙◌, inl, inr, List, length, map, get_or, ap, refl, sym, subst, arith}
use Rattle.std.specs.Prelude.{◌≢◌}
use Rattle.std.specs.List.{Contains, AllPairs}
use Rattle.std.proofs.lemmas.Bool.{cases_lt}
use Rattle.std.proofs.lemmas.List.{length-map, length-append, get_or-map, get_or_default, get_or_append_left, get_or-append-add}
use Rattle.std.proofs.lemmas.List.Elements.{All-contains, Contains-append_left, Contains-append_right}
use Rattle.request.specs.declared.stream.Stream.{Stream}
use Rattle.request.specs.Request.{RequestValue, ServiceValue, IsRequest}
use Rattle.schedule.specs.Schedule.{ScheduleValue, plan_at}
use Rattle.schedule.specs.Switches.{output_pids, HasPmtOf, NoPidIsReused}
use Rattle.schedule.specs.Laws.{HavePidsOneUse}

-- ---- in one plan

abbrev stream_pids : RequestValue → List ℕ
stream_pids r = map (λ (st : Stream). st.output_pid) r.streams

abbrev pmt_pids : RequestValue → List ℕ
pmt_pids r = map (λ (v : ServiceValue). v.pmt) r.services

-- where a stream's PID and that of a PMT stand among the output PIDs
stream_at : (r : RequestValue) (st : Stream) (c : Contains r.streams st) → get_or (output_pids r) c.0 0 ≡ st.output_pid
stream_at r st c =
    let size : length (stream_pids r) ≡ length r.streams = length-map r.streams (λ (x : Stream). x.output_pid) in
    let within : c.0 < length (stream_pids r) = omega (arith, c.1) in
    get_or_append_left (stream_pids r) (pmt_pids r) 0 c.0 within
    ∙ get_or-map (λ (x : Stream). x.output_pid) r.streams c.0 st 0 c.1 ∙ ap (λ (x : Stream). x.output_pid) c.2

pmt_at : (r : RequestValue) (v : ServiceValue) (c : Contains r.services v) → get_or (output_pids r) (length (stream_pids r) + c.0) 0 ≡ v.pmt
pmt_at r v c =
    get_or-append-add (stream_pids r) (pmt_pids r) c.0 0
    ∙ get_or-map (λ (x : ServiceValue). x.pmt) r.services c.0 v 0 c.1 ∙ ap (λ (x : ServiceValue). x.pmt) c.2

pids_are : (r : RequestValue) → length (output_pids r) ≡ length r.streams + length r.services
pids_are r =
    let first : length (stream_pids r) ≡ length r.streams = length-map r.streams (λ (x : Stream). x.output_pid) in
    let second : length (pmt_pids r) ≡ length r.services = length-map r.services (λ (x : ServiceValue). x.pmt) in
    let whole = length-append (stream_pids r) (pmt_pids r) in omega arith

contains_map : {X Y : Type 0} (f : X → Y) (xs : List X) (x : X) → Contains xs x → Contains (map f xs) (f x)
contains_map f xs x c =
    let size = length-map xs f in (c.0, omega (arith, c.1), get_or-map f xs c.0 x (f x) c.1 ∙ ap f c.2)

has_stream_pid : (r : RequestValue) (st : Stream) → Contains r.streams st → Contains (output_pids r) st.output_pid
has_stream_pid r st c = Contains-append_left (stream_pids r) (pmt_pids r) st.output_pid (contains_map (λ (x : Stream). x.output_pid) r.streams st c)

has_pmt_pid : (r : RequestValue) (v : ServiceValue) → Contains r.services v → Contains (output_pids r) v.pmt
has_pmt_pid r v c = Contains-append_right (stream_pids r) (pmt_pids r) v.pmt (contains_map (λ (x : ServiceValue). x.pmt) r.services v c)

-- its output PID tells a stream from the others
same_stream : (r : RequestValue) (a b : Stream) → IsRequest r → Contains r.streams a → Contains r.streams b → a.output_pid ≡ b.output_pid → a ≡ b
same_stream r a b ok ca cb same =
    let size = pids_are r in
    let one = stream_at r a ca ∙ same ∙ sym (stream_at r b cb) in
    elim (cases_lt ca.0 cb.0) [
      | inl l ↦ absurd (ok.one_use_an_output_pid ca.0 cb.0 0 l (omega (arith, cb.1)) one)
      | inr g ↦
          elim (cases_lt cb.0 ca.0) [
            | inl l ↦ absurd (ok.one_use_an_output_pid cb.0 ca.0 0 l (omega (arith, ca.1)) (sym one))
            | inr h ↦
                let e : ca.0 ≡ cb.0 = omega arith in
                sym ca.2 ∙ get_or_default r.streams ca.0 a b ca.1 ∙ ap (λ n. get_or r.streams n b) e ∙ cb.2
          ]
    ]

-- of two streams of a plan each has its own
pub differ_in : (r : RequestValue) → IsRequest r → AllPairs (λ (a b : Stream). a.output_pid ≢ b.output_pid) r.streams
differ_in r ok = λ i j d l within same.
    let size = pids_are r in
    let a = get_or r.streams i d in
    let b = get_or r.streams j d in
    let from : i < length r.streams = omega (arith, l, within) in
    let first : Contains r.streams a = (i, from, get_or_default r.streams i a d from) in
    let second : Contains r.streams b = (j, within, get_or_default r.streams j b d within) in
    ok.one_use_an_output_pid i j 0 l (omega (arith, within, size)) (stream_at r a first ∙ same ∙ sym (stream_at r b second))

-- and from the PMTs
not_pmt : (r : RequestValue) (a : Stream) (v : ServiceValue) → IsRequest r → Contains r.streams a → Contains r.services v → a.output_pid ≡ v.pmt → ⊥
not_pmt r a v ok ca cv same =
    let size = pids_are r in
    let first : length (stream_pids r) ≡ length r.streams = length-map r.streams (λ (x : Stream). x.output_pid) in
    ok.one_use_an_output_pid ca.0 (length (stream_pids r) + cv.0) 0 (omega (arith, ca.1)) (omega (arith, cv.1)) (stream_at r a ca ∙ same ∙ sym (pmt_at r v cv))

-- ---- from plan to plan

abbrev pub request_at : ScheduleValue → ℕ → RequestValue
request_at s number = (plan_at s number).request

abbrev pub AreRequests : ScheduleValue → Type 0
AreRequests s = (number : ℕ) → number ≤ length s.later → IsRequest (request_at s number)

-- where the plan after plan j has a PID of plan i for a stream, or for a PMT, so has plan j
stream_kept : (s : ScheduleValue) → NoPidIsReused s → (i j pid : ℕ) (b : Stream) → i ≤ j → j < length s.later → Contains (output_pids (request_at s i)) pid
    → Contains (request_at s (j + 1)).streams b → pid ≡ b.output_pid → Contains (request_at s j).streams b
stream_kept s apart i j pid b from within has jb same =
    let pids = output_pids (request_at s i) in
    All-contains (λ (x : Stream). Contains pids x.output_pid → Contains (request_at s j).streams x) (request_at s (j + 1)).streams b
    ((apart j within).from_each i from).streams jb (subst (λ (n : ℕ). Contains pids n) same has)

pmt_kept : (s : ScheduleValue) → NoPidIsReused s → (i j pid : ℕ) (v : ServiceValue) → i ≤ j → j < length s.later → Contains (output_pids (request_at s i)) pid
    → Contains (request_at s (j + 1)).services v → pid ≡ v.pmt → HasPmtOf (request_at s j) v
pmt_kept s apart i j pid v from within has jv same =
    let pids = output_pids (request_at s i) in
    All-contains (λ (x : ServiceValue). Contains pids x.pmt → HasPmtOf (request_at s j) x) (request_at s (j + 1)).services v
    ((apart j within).from_each i from).services jv (subst (λ (n : ℕ). Contains pids n) same has)

at_zero : (P : ℕ → Type 0) (i : ℕ) → P (i + 0) → P i
at_zero P i h = let e : i + 0 ≡ i = omega arith in subst P e h

at_more : (P : ℕ → Type 0) (i n : ℕ) → P (i + suc n) → P (i + n + 1)
at_more P i n h = let e : i + suc n ≡ i + n + 1 = omega arith in subst P e h

-- a stream that two plans have is in each plan between
stream_between : (s : ScheduleValue) → NoPidIsReused s → (i j n : ℕ) (st : Stream) → i ≤ j → j + n ≤ length s.later
    → Contains (request_at s i).streams st → Contains (request_at s (j + n)).streams st → Contains (request_at s j).streams st
stream_between s apart i j zero st from within a b = at_zero (λ m. Contains (request_at s m).streams st) j b
stream_between s apart i j (suc n) st from within a b =
    let last = at_more (λ m. Contains (request_at s m).streams st) j n b in
    stream_between s apart i j n st from (omega arith) a
    (stream_kept s apart i (j + n) st.output_pid st (omega arith) (omega arith) (has_stream_pid (request_at s i) st a) last refl)

-- streams of two plans with one output PID are one
stream_of_two : (s : ScheduleValue) → NoPidIsReused s → AreRequests s → (i n : ℕ) (a b : Stream) → i + n ≤ length s.later
    → Contains (request_at s i).streams a → Contains (request_at s (i + n)).streams b → a.output_pid ≡ b.output_pid → a ≡ b
stream_of_two s apart ok i zero a b to ia nb same =
    same_stream (request_at s i) a b (ok i (omega arith)) ia (at_zero (λ m. Contains (request_at s m).streams b) i nb) same
stream_of_two s apart ok i (suc n) a b to ia nb same =
    let last = at_more (λ m. Contains (request_at s m).streams b) i n nb in
    stream_of_two s apart ok i n a b (omega arith) ia
    (stream_kept s apart i (i + n) a.output_pid b (omega arith) (omega arith) (has_stream_pid (request_at s i) a ia) last same) same

-- the PID of a stream is that of no later PMT
no_later_pmt : (s : ScheduleValue) → NoPidIsReused s → AreRequests s → (i n : ℕ) (a : Stream) (v : ServiceValue) → i + n ≤ length s.later
    → Contains (request_at s i).streams a → Contains (request_at s (i + n)).services v → a.output_pid ≡ v.pmt → ⊥
no_later_pmt s apart ok i zero a v to ia nv same =
    not_pmt (request_at s i) a v (ok i (omega arith)) ia (at_zero (λ m. Contains (request_at s m).services v) i nv) same
no_later_pmt s apart ok i (suc n) a v to ia nv same =
    let last = at_more (λ m. Contains (request_at s m).services v) i n nv in
    let kept = pmt_kept s apart i (i + n) a.output_pid v (omega arith) (omega arith) (has_stream_pid (request_at s i) a ia) last same in
    no_later_pmt s apart ok i n a kept.1 (omega arith) ia (kept.0, kept.2, kept.3) (same ∙ sym kept.4.1)

-- and that of a PMT is that of no later stream
no_later_stream : (s : ScheduleValue) → NoPidIsReused s → AreRequests s → (i n : ℕ) (v : ServiceValue) (b : Stream) → i + n ≤ length s.later
    → Contains (request_at s i).services v → Contains (request_at s (i + n)).streams b → b.output_pid ≡ v.pmt → ⊥
no_later_stream s apart ok i zero v b to iv nb same =
    not_pmt (request_at s i) b v (ok i (omega arith)) (at_zero (λ m. Contains (request_at s m).streams b) i nb) iv same
no_later_stream s apart ok i (suc n) v b to iv nb same =
    let last = at_more (λ m. Contains (request_at s m).streams b) i n nb in
    no_later_stream s apart ok i n v b (omega arith) iv
    (stream_kept s apart i (i + n) v.pmt b (omega arith) (omega arith) (has_pmt_pid (request_at s i) v iv) last (sym same)) same

-- in one plan, the PID of a PMT tells its service
same_service : (r : RequestValue) (v w : ServiceValue) → IsRequest r → Contains r.services v → Contains r.services w → v.pmt ≡ w.pmt → v ≡ w
same_service r v w ok cv cw same =
    let size = pids_are r in
    let first : length (stream_pids r) ≡ length r.streams = length-map r.streams (λ (x : Stream). x.output_pid) in
    let before = length (stream_pids r) in
    let one = pmt_at r v cv ∙ same ∙ sym (pmt_at r w cw) in
    elim (cases_lt cv.0 cw.0) [
      | inl l ↦ absurd (ok.one_use_an_output_pid (before + cv.0) (before + cw.0) 0 (omega (arith, l)) (omega (arith, cw.1, size, first)) one)
      | inr g ↦
          elim (cases_lt cw.0 cv.0) [
            | inl l ↦ absurd (ok.one_use_an_output_pid (before + cw.0) (before + cv.0) 0 (omega (arith, l)) (omega (arith, cv.1, size, first)) (sym one))
            | inr h ↦
                let e : cv.0 ≡ cw.0 = omega (arith, g, h) in
                sym cv.2 ∙ get_or_default r.services cv.0 v w cv.1 ∙ ap (λ n. get_or r.services n w) e ∙ cw.2
          ]
    ]

-- a PMT on the PID of an earlier one is that of the same service
service_of_two : (s : ScheduleValue) → NoPidIsReused s → AreRequests s → (i n : ℕ) (v w : ServiceValue) → i + n ≤ length s.later
    → Contains (request_at s i).services v → Contains (request_at s (i + n)).services w → v.pmt ≡ w.pmt → v.service ≡ w.service
service_of_two s apart ok i zero v w to iv nw same =
    ap (λ (x : ServiceValue). x.service)
    (same_service (request_at s i) v w (ok i (omega arith)) iv (at_zero (λ m. Contains (request_at s m).services w) i nw) same)
service_of_two s apart ok i (suc n) v w to iv nw same =
    let last = at_more (λ m. Contains (request_at s m).services w) i n nw in
    let kept = pmt_kept s apart i (i + n) v.pmt w (omega arith) (omega arith) (has_pmt_pid (request_at s i) v iv) last same in
    service_of_two s apart ok i n v kept.1 (omega arith) iv (kept.0, kept.2, kept.3) (same ∙ sym kept.4.1) ∙ kept.4.0

-- and it is in each plan between
pmt_between : (s : ScheduleValue) → NoPidIsReused s → (i j n : ℕ) (v w : ServiceValue) → i ≤ j → j + n ≤ length s.later
    → Contains (request_at s i).services v → Contains (request_at s (j + n)).services w → v.pmt ≡ w.pmt → HasPmtOf (request_at s j) w
pmt_between s apart i j zero v w from within iv nw same =
    let here = at_zero (λ m. Contains (request_at s m).services w) j nw in (here.0, w, here.1, here.2, (refl, refl))
pmt_between s apart i j (suc n) v w from within iv nw same =
    let last = at_more (λ m. Contains (request_at s m).services w) j n nw in
    let kept = pmt_kept s apart i (j + n) v.pmt w (omega arith) (omega arith) (has_pmt_pid (request_at s i) v iv) last same in
    let rest = pmt_between s apart i j n v kept.1 from (omega arith) iv (kept.0, kept.2, kept.3) (same ∙ sym kept.4.1) in
    (rest.0, rest.1, rest.2, rest.3, (rest.4.0 ∙ kept.4.0, rest.4.1 ∙ kept.4.1))

pub have_one_use : (s : ScheduleValue) → NoPidIsReused s → AreRequests s → HavePidsOneUse s
have_one_use s apart ok = record {
  stays = λ i j k st ij jk within a b.
      let n = k - j in
      let e : k ≡ j + n = omega (arith, jk) in
      stream_between s apart i j n st ij (omega (arith, jk, within)) a (subst (λ m. Contains (request_at s m).streams st) e b);
  one_stream = λ i k a b from to ia kb same. elim (cases_lt k i) [
    | inl l ↦
        let n = i - k in
        let e : i ≡ k + n = omega (arith, l) in
        sym (stream_of_two s apart ok k n b a (omega (arith, l, from)) kb (subst (λ m. Contains (request_at s m).streams a) e ia) (sym same))
    | inr g ↦
        let n = k - i in
        let e : k ≡ i + n = omega (arith, g) in
        stream_of_two s apart ok i n a b (omega (arith, g, to)) ia (subst (λ m. Contains (request_at s m).streams b) e kb) same
  ];
  no_pmt = λ i k a v from to ia kv same. elim (cases_lt k i) [
    | inl l ↦
        let n = i - k in
        let e : i ≡ k + n = omega (arith, l) in
        no_later_stream s apart ok k n v a (omega (arith, l, from)) kv (subst (λ m. Contains (request_at s m).streams a) e ia) same
    | inr g ↦
        let n = k - i in
        let e : k ≡ i + n = omega (arith, g) in
        no_later_pmt s apart ok i n a v (omega (arith, g, to)) ia (subst (λ m. Contains (request_at s m).services v) e kv) same
  ];
  one_service = λ i k v w from to iv kw same. elim (cases_lt k i) [
    | inl l ↦
        let n = i - k in
        let e : i ≡ k + n = omega (arith, l) in
        sym (service_of_two s apart ok k n w v (omega (arith, l, from)) kw (subst (λ m. Contains (request_at s m).services v) e iv) (sym same))
    | inr g ↦
        let n = k - i in
        let e : k ≡ i + n = omega (arith, g) in
        service_of_two s apart ok i n v w (omega (arith, g, to)) iv (subst (λ m. Contains (request_at s m).services w) e kw) same
  ];
  pmt_stays = λ i j k v w ij jk within iv kw same.
      let n = k - j in
      let e : k ≡ j + n = omega (arith, jk) in
      pmt_between s apart i j n v w ij (omega (arith, jk, within)) iv (subst (λ m. Contains (request_at s m).services w) e kw) same;
}
