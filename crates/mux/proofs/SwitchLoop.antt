-- A walk over streams and queues, place by place.
use Rattle.std.proofs.Common.{ℕ, zero, suc, ◌+◌, ◌<◌, ◌≡◌, Bool, true, false, cond, nat_eq, List, [], ◌∷◌, length, take, set, get_or, Some, refl, ap, ◌∙◌, sym, arith, inl, inr}
use Rattle.std.specs.List.{slice_get}
use Rattle.std.proofs.lemmas.Bool.{cases_Bool}
use Rattle.std.proofs.lemmas.List.{length-set}
use Rattle.std.proofs.lemmas.Option.{same_Some}
use Rattle.request.specs.declared.stream.Stream.{Stream}
use Rattle.buffers.specs.QueueValue.{QueueValue}
use Rattle.plan.specs.Build.{PlanValue}
use Rattle.mux.specs.declared.input_state.InputState.{InputState}
use Rattle.mux.specs.History.{has_stream}
use Rattle.mux.specs.Switching.{after_switch, add_dropped, with_dropped, waiting_in}
use Rattle.mux.specs.Totals.{told}

abbrev pub emptied : QueueValue → QueueValue
emptied q = record { items = []; capacity = q.capacity }

push_cond : {X : Type 0} (b : Bool) (x : X) (xs ys : List X) → x ∷ cond b xs ys ≡ cond b (x ∷ xs) (x ∷ ys)
push_cond true x xs ys = refl
push_cond false x xs ys = refl

-- one more queue
pub switch_more : (p : PlanValue) (streams : List Stream) (qs : List QueueValue) (k : ℕ) (st : Stream) (d : QueueValue) → length streams ≡ length qs → slice_get streams k ≡ Some st
    → after_switch p (take (k + 1) streams) qs ≡ cond (has_stream p st) (after_switch p (take k streams) qs) (set (after_switch p (take k streams) qs) k (emptied (get_or qs k d)))
switch_more p [] qs k st d e at = cc
switch_more p (x ∷ xs) [] k st d e at = absurd (omega (arith, e))
switch_more p (x ∷ xs) (q ∷ qs) zero st d e at =
    let same : x ≡ st = same_Some x st at in
    let here : cond (has_stream p x) q (emptied q) ∷ qs ≡ cond (has_stream p x) (q ∷ qs) (emptied q ∷ qs) = elim (cases_Bool (has_stream p x)) [ inl y ↦ rw y refl | inr n ↦ rw n refl ] in
    here ∙ ap (λ (y : Stream). cond (has_stream p y) (q ∷ qs) (emptied q ∷ qs)) same
switch_more p (x ∷ xs) (q ∷ qs) (suc k) st d e at =
    let more : suc k + 1 ≡ suc (k + 1) = omega arith in
    let head = cond (has_stream p x) q (emptied q) in
    rw more (ap (λ ys. head ∷ ys) (switch_more p xs qs k st d (omega (arith, e)) at) ∙ push_cond (has_stream p st) head _ _)

-- a queue that the walk hasn't come to
pub not_yet : (p : PlanValue) (streams : List Stream) (qs : List QueueValue) (k : ℕ) (d : QueueValue) → get_or (after_switch p (take k streams) qs) k d ≡ get_or qs k d
not_yet p [] qs zero d = refl
not_yet p [] qs (suc k) d = refl
not_yet p (x ∷ xs) qs zero d = refl
not_yet p (x ∷ xs) [] (suc k) d = refl
not_yet p (x ∷ xs) (q ∷ qs) (suc k) d = not_yet p xs qs k d

pub length_switched : (p : PlanValue) (streams : List Stream) (qs : List QueueValue) → length (after_switch p streams qs) ≡ length qs
length_switched p [] qs = refl
length_switched p (x ∷ xs) [] = refl
length_switched p (x ∷ xs) (q ∷ qs) = ap suc (length_switched p xs qs)

-- one more input
pub dropped_more : (p : PlanValue) (streams : List Stream) (qs : List QueueValue) (k : ℕ) (st : Stream) (d : QueueValue) (states : List InputState) → length streams ≡ length qs → slice_get streams k ≡ Some st
    → with_dropped p (take (k + 1) streams) qs states
    ≡ cond (has_stream p st) (with_dropped p (take k streams) qs states) (add_dropped st.input (length (get_or qs k d).items) (with_dropped p (take k streams) qs states))
dropped_more p [] qs k st d states e at = cc
dropped_more p (x ∷ xs) [] k st d states e at = absurd (omega (arith, e))
dropped_more p (x ∷ xs) (q ∷ qs) zero st d states e at =
    ap (λ (y : Stream). cond (has_stream p y) states (add_dropped y.input (length q.items) states)) (same_Some x st at)
dropped_more p (x ∷ xs) (q ∷ qs) (suc k) st d states e at =
    let more : suc k + 1 ≡ suc (k + 1) = omega arith in
    rw more (dropped_more p xs qs k st d (cond (has_stream p x) states (add_dropped x.input (length q.items) states)) (omega (arith, e)) at)

-- what is read doesn't depend on what stands for nothing
get_or_any : (xs : List InputState) (i : ℕ) (d e : InputState) → i < length xs → get_or xs i d ≡ get_or xs i e
get_or_any [] i d e l = absurd (omega (arith, l))
get_or_any (x ∷ xs) zero d e l = refl
get_or_any (x ∷ xs) (suc i) d e l = get_or_any xs i d e (omega (arith, l))

length_one : (i m : ℕ) (states : List InputState) → length (add_dropped i m states) ≡ length states
length_one i m states = length-set states i _

pub length_dropped : (p : PlanValue) (streams : List Stream) (qs : List QueueValue) (states : List InputState) → length (with_dropped p streams qs states) ≡ length states
length_dropped p [] qs states = refl
length_dropped p (x ∷ xs) [] states = refl
length_dropped p (x ∷ xs) (q ∷ qs) states =
    elim (cases_Bool (has_stream p x)) [
      | inl y ↦ rw y (length_dropped p xs qs states)
      | inr n ↦ rw n (length_dropped p xs qs (add_dropped x.input (length q.items) states) ∙ length_one x.input (length q.items) states)
    ]

-- one more stream that packets wait of
pub waiting_more : (i : ℕ) (streams : List Stream) (qs : List QueueValue) (k : ℕ) (st : Stream) (d : QueueValue) → length streams ≡ length qs → slice_get streams k ≡ Some st
    → waiting_in i (take (k + 1) streams) (take (k + 1) qs) ≡ waiting_in i (take k streams) (take k qs) + cond (nat_eq st.input i) (length (get_or qs k d).items) 0
waiting_more i [] qs k st d e at = cc
waiting_more i (x ∷ xs) [] k st d e at = absurd (omega (arith, e))
waiting_more i (x ∷ xs) (q ∷ qs) zero st d e at =
    let same : cond (nat_eq x.input i) (length q.items) 0 ≡ cond (nat_eq st.input i) (length q.items) 0 = ap (λ (y : Stream). cond (nat_eq y.input i) (length q.items) 0) (same_Some x st at) in
    omega (arith, same)
waiting_more i (x ∷ xs) (q ∷ qs) (suc k) st d e at =
    let more : suc k + 1 ≡ suc (k + 1) = omega arith in
    rw more (omega (arith, waiting_more i xs qs k st d (omega (arith, e)) at))

-- ---- the walk, one place on

after_kept : (p : PlanValue) (streams : List Stream) (qs now : List QueueValue) (k : ℕ) (st : Stream) (d : QueueValue) → length streams ≡ length qs → slice_get streams k ≡ Some st
    → now ≡ after_switch p (take k streams) qs → has_stream p st ≡ true → now ≡ after_switch p (take (k + 1) streams) qs
after_kept p streams qs now k st d e at is has = is ∙ sym (switch_more p streams qs k st d e at ∙ ap (λ b. cond b (after_switch p (take k streams) qs) (set (after_switch p (take k streams) qs) k (emptied (get_or qs k d)))) has)

pub queues_kept : (p : PlanValue) (streams : List Stream) (qs now : List QueueValue) (k : ℕ) (st : Stream) → length streams ≡ length qs → slice_get streams k ≡ Some st
    → now ≡ after_switch p (take k streams) qs → has_stream p st ≡ true → now ≡ after_switch p (take (k + 1) streams) qs
queues_kept p streams qs now k st e at is has = after_kept p streams qs now k st (record { items = []; capacity = 0 }) e at is has

pub queues_emptied : (p : PlanValue) (streams : List Stream) (qs now : List QueueValue) (k : ℕ) (st : Stream) (x y : QueueValue) → length streams ≡ length qs → slice_get streams k ≡ Some st
    → now ≡ after_switch p (take k streams) qs → has_stream p st ≡ false → x ≡ get_or now k x → y.items ≡ [] → y.capacity ≡ x.capacity → set now k y ≡ after_switch p (take (k + 1) streams) qs
queues_emptied p streams qs now k st x y e at is goes here none same =
    let was : x ≡ get_or qs k x = here ∙ ap (λ xs. get_or xs k x) is ∙ not_yet p streams qs k x in
    let empty : y ≡ emptied (get_or qs k x) =
    ap (λ items. let q : QueueValue = record { items = items; capacity = y.capacity } in q) none
    ∙ ap (λ n. let q : QueueValue = record { items = []; capacity = n } in q) (same ∙ ap (λ (q : QueueValue). q.capacity) was) in
    ap (λ xs. set xs k y) is ∙ ap (set (after_switch p (take k streams) qs) k) empty ∙ sym (switch_more p streams qs k st x e at ∙ ap (λ b. cond b (after_switch p (take k streams) qs) (set (after_switch p (take k streams) qs) k (emptied (get_or qs k x)))) goes)

pub states_kept : (p : PlanValue) (streams : List Stream) (qs : List QueueValue) (states now : List InputState) (k : ℕ) (st : Stream) → length streams ≡ length qs → slice_get streams k ≡ Some st
    → now ≡ with_dropped p (take k streams) qs states → has_stream p st ≡ true → now ≡ with_dropped p (take (k + 1) streams) qs states
states_kept p streams qs states now k st e at is has =
    let none : QueueValue = record { items = []; capacity = 0 } in
    is ∙ sym (dropped_more p streams qs k st none states e at ∙ ap (λ b. cond b (with_dropped p (take k streams) qs states) (add_dropped st.input (length (get_or qs k none).items) (with_dropped p (take k streams) qs states))) has)

pub states_counted : (p : PlanValue) (streams : List Stream) (qs nows : List QueueValue) (states now : List InputState) (k : ℕ) (st : Stream) (x : InputState) (q : QueueValue) (n : ℕ)
    → length streams ≡ length qs → slice_get streams k ≡ Some st → nows ≡ after_switch p (take k streams) qs → now ≡ with_dropped p (take k streams) qs states → has_stream p st ≡ false
    → st.input < length now → x ≡ get_or now st.input x → q ≡ get_or nows k q → n ≡ told (x.dropped + length q.items)
    → set now st.input (record x { dropped = n }) ≡ with_dropped p (take (k + 1) streams) qs states
states_counted p streams qs nows states now k st x q n e at qs_are is goes within here queue count =
    let was : q ≡ get_or qs k q = queue ∙ ap (λ xs. get_or xs k q) qs_are ∙ not_yet p streams qs k q in
    let none : InputState = record { closed = false; last_stamp = 0; full_noted = false; early_noted = false; sent = 0; dropped = 0 } in
    let same : x ≡ get_or now st.input none = here ∙ get_or_any now st.input x none within in
    let items = ap (λ (y : QueueValue). length y.items) was in
    let one : set now st.input (record x { dropped = n }) ≡ add_dropped st.input (length (get_or qs k q).items) now =
    ap (λ m. set now st.input (record x { dropped = m })) (count ∙ ap (λ m. told (x.dropped + m)) items)
    ∙ ap (λ (y : InputState). set now st.input (record y { dropped = told (y.dropped + length (get_or qs k q).items) })) same in
    one ∙ ap (add_dropped st.input (length (get_or qs k q).items)) is ∙ sym (dropped_more p streams qs k st q states e at ∙ ap (λ b. cond b (with_dropped p (take k streams) qs states) (add_dropped st.input (length (get_or qs k q).items) (with_dropped p (take k streams) qs states))) goes)
