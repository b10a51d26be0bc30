-- The best of the streams up to a place.
use Rattle.std.proofs.Common.{ℕ, ◌+◌, ◌<◌, ◌≤◌, ◌≡◌, ◌⊎◌, List, [], ◌∷◌, length, map, get_or, Option, Some, None, refl, ap, ◌∙◌, sym, subst, arith, inl, inr}
use Rattle.std.specs.Prelude.{IfSome, IfNone}
use Rattle.std.specs.List.{slice_get}
use Rattle.std.proofs.lemmas.Bool.{cases_order}
use Rattle.std.proofs.lemmas.List.{length-map, get_or-map, get_or_default}
use Rattle.std.proofs.lemmas.Option.{same_Some, slice_get_read, slice_get-get_or, slice_get_within}
use Rattle.tspkt.specs.declared.stamped.Stamped.{Stamped}
use Rattle.request.specs.declared.stream.Stream.{Stream}
use Rattle.mux.specs.declared.candidate.Candidate.{Candidate}
use Rattle.buffers.specs.QueueValue.{QueueValue, first_stamp}
use Rattle.buffers.specs.BucketValue.{BucketValue, HasRoom}
use Rattle.mux.specs.Lawful.{IsNotAfter}
use Rattle.mux.specs.declared.head.Head.{Head}
use Rattle.mux.specs.declared.head_list.TheConstants.{UNRANKED}
use Rattle.mux.specs.HeadList.{head_at, IsFirst}
use Rattle.mux.specs.Keeping.{head_time, KeepsHeads}
use Rattle.mux.specs.Choosing.{IsEligibleHead, IsFirstHead, Precedes, Leads, IsBetterHead, IsNoBetterHead}
use Rattle.mux.proofs.HeadTimes.{time_of, pid_of_head, output_of, length_heads, time_of_head}

-- of the streams before place n, this one goes first
pub record IsBest (streams : List Stream) (queues : List QueueValue) (buckets : List BucketValue) (now n : ℕ) (b : Candidate) : Type 0 where
  pub item : Stamped
  pub can : IsEligibleHead streams queues buckets now b.index b.stream item
  pub stamp_is : item.stamp ≡ b.stamp
  pub first : (j : ℕ) (su : Stream) (other : Stamped) → j < n → IsEligibleHead streams queues buckets now j su other → IsNotAfter b.stream item su other

-- of the streams before place n, this one goes first, or none can go
abbrev pub IsBestBelow : List Stream → List QueueValue → List BucketValue → ℕ → ℕ → Option Candidate → Type 0
IsBestBelow streams queues buckets now n None = (j : ℕ) (su : Stream) (other : Stamped) → j < n → IsEligibleHead streams queues buckets now j su other → ⊥
IsBestBelow streams queues buckets now n (Some b) = IsBest streams queues buckets now n b

-- of all streams
pub none_eligible : (streams : List Stream) (queues : List QueueValue) (buckets : List BucketValue) (now : ℕ) (best : Option Candidate) → IsBestBelow streams queues buckets now (length streams) best
    → IfNone best ((k : ℕ) (st : Stream) (item : Stamped) → IsEligibleHead streams queues buckets now k st item → ⊥)
none_eligible streams queues buckets now None none = λ k st item due. none k st item (slice_get_within streams k st due.stream) due
none_eligible streams queues buckets now (Some b) best = tt

pub first_eligible : (streams : List Stream) (queues : List QueueValue) (buckets : List BucketValue) (now : ℕ) (best : Option Candidate) → IsBestBelow streams queues buckets now (length streams) best
    → IfSome best (IsFirstHead streams queues buckets now)
first_eligible streams queues buckets now None none = tt
first_eligible streams queues buckets now (Some b) best =
    record { item = best.item; head = best.can; first = λ j su other due. best.first j su other (slice_get_within streams j su due.stream) due }

-- below the next place: below this one, or this one
below : (j n : ℕ) → j < n + 1 → (j < n) ⊎ (j ≡ n)
below j n l = elim (cases_order j n) [ inl e ↦ inr e | inr (inl m) ↦ inl m | inr (inr m) ↦ absurd (omega arith) ]

-- a place has one head
one_head : {streams : List Stream} {queues : List QueueValue} {buckets : List BucketValue} {now n : ℕ} {st su : Stream} {item other : Stamped} → IsEligibleHead streams queues buckets now n st item → IsEligibleHead streams queues buckets now n su other → (st ≡ su) × (item ≡ other)
one_head a b =
    let same : a.queue ≡ b.queue = same_Some _ _ (sym a.here ∙ b.here) in
    (same_Some _ _ (sym a.stream ∙ b.stream), same_Some _ _ (sym a.head ∙ ap (λ (x : QueueValue). slice_get x.items 0) same ∙ b.head))

-- nothing can go at the next place
pub skips : (streams : List Stream) (queues : List QueueValue) (buckets : List BucketValue) (now n : ℕ) (best : Option Candidate) → IsBestBelow streams queues buckets now n best
    → ((st : Stream) (item : Stamped) → IsEligibleHead streams queues buckets now n st item → ⊥) → IsBestBelow streams queues buckets now (n + 1) best
skips streams queues buckets now n None none nothing =
    λ j su other l can.
    elim (below j n l) [ inl m ↦ none j su other m can | inr e ↦ nothing su other (let P : ℕ → Type 0 = λ k. IsEligibleHead streams queues buckets now k su other in subst P e can) ]
skips streams queues buckets now n (Some b) best nothing = record {
  item = best.item;
  can = best.can;
  stamp_is = best.stamp_is;
  first = λ j su other l can.
      elim (below j n l) [ inl m ↦ best.first j su other m can | inr e ↦ absurd (nothing su other (let P : ℕ → Type 0 = λ k. IsEligibleHead streams queues buckets now k su other in subst P e can)) ];
}

goes : (a b : Candidate) (item other : Stamped) → item.stamp ≡ a.stamp → other.stamp ≡ b.stamp → Precedes a b → IsNotAfter a.stream item b.stream other
goes a b item other e f p = elim p [ inl l ↦ inl (omega arith) | inr s ↦ inr (omega arith, s.1) ]

goes_on : (st su sv : Stream) (a b c : Stamped) → IsNotAfter st a su b → IsNotAfter su b sv c → IsNotAfter st a sv c
goes_on st su sv a b c p q =
    elim p [
      | inl l ↦ elim q [ inl m ↦ inl (omega arith) | inr m ↦ inl (omega (arith, m.0)) ]
      | inr l ↦ elim q [ inl m ↦ inl (omega (arith, l.0)) | inr m ↦ inr (omega (arith, l.0, m.0), omega (arith, l.1, m.1)) ]
    ]

goes_itself : (st : Stream) (a : Stamped) → IsNotAfter st a st a
goes_itself st a = inr (refl, omega arith)

-- what goes before the head at a place goes before whatever can go there
at_place : {streams : List Stream} {queues : List QueueValue} {buckets : List BucketValue} {now : ℕ} {st su : Stream} {item other : Stamped} (a : Stream) (x : Stamped) (k j : ℕ) → IsEligibleHead streams queues buckets now k st item → j ≡ k → IsEligibleHead streams queues buckets now j su other
    → IsNotAfter a x st item → IsNotAfter a x su other
at_place {streams} {queues} {buckets} {now} {st} {su} {item} {other} a x k j can e there p =
    let Q : ℕ → Type 0 = λ m. IsEligibleHead streams queues buckets now m su other in
    let one = one_head can (subst Q e there) in
    let R : Stream → Type 0 = λ y. IsNotAfter a x y other in
    let T : Stamped → Type 0 = λ y. IsNotAfter a x st y in
    subst R one.0 (subst T one.1 p)

-- no head of a later time goes before the best
abbrev pub IsLimit : ℕ → Option Candidate → ℕ → Type 0
IsLimit now None limit = limit ≡ now
IsLimit now (Some b) limit = limit ≡ b.stamp

limit_within : (streams : List Stream) (queues : List QueueValue) (buckets : List BucketValue) (now n : ℕ) (best : Option Candidate) (limit : ℕ) → IsBestBelow streams queues buckets now n best → IsLimit now best limit → limit ≤ now
limit_within streams queues buckets now n None limit is at = omega arith
limit_within streams queues buckets now n (Some b) limit is at = let due = is.can.due in let e = is.stamp_is in omega arith

pub limit_some : (now : ℕ) (best : Option Candidate) (limit : ℕ) (next : Candidate) → best ≡ Some next → limit ≡ next.stamp → IsLimit now best limit
limit_some now best limit next e l =
    let P : Option Candidate → Type 0 = λ o. IsLimit now o limit in
    subst P (sym e) l

pub limit_same : (now : ℕ) (best : Option Candidate) (limit : ℕ) (old : Option Candidate) (before : ℕ) → best ≡ old → limit ≡ before → IsLimit now old before → IsLimit now best limit
limit_same now best limit old before e l is =
    let P : Option Candidate → Type 0 = λ o. IsLimit now o limit in
    let Q : ℕ → Type 0 = λ n. IsLimit now old n in
    subst P (sym e) (subst Q (sym l) is)

-- nothing at the next place goes before the best
pub skips_read : (streams : List Stream) (queues : List QueueValue) (buckets : List BucketValue) (now n : ℕ) (best : Option Candidate) (q : QueueValue) (d : Stream) (limit : ℕ) → IsBestBelow streams queues buckets now n best → IsLimit now best limit
    → n < length queues → length streams ≡ length queues → q ≡ get_or queues n q → IsNoBetterHead best n (get_or streams n d) q buckets limit → IsBestBelow streams queues buckets now (n + 1) best
skips_read streams queues buckets now n None q d limit is at_limit l size at nothing =
    skips streams queues buckets now n None is (λ st item can.
    let same : can.queue ≡ q = same_Some _ _ (sym can.here ∙ slice_get_read queues (length queues) n q refl l at) in
    let due = can.due in
    nothing item can.bucket (ap (λ (x : QueueValue). slice_get x.items 0) (sym same) ∙ can.head) (omega arith) can.bucket_here can.room)
skips_read streams queues buckets now n (Some b) q d limit best at_limit l size at nothing =
    let st : Stream = get_or streams n d in
    record {
      item = best.item;
      can = best.can;
      stamp_is = best.stamp_is;
      first = λ j su other m can.
          elim (below j n m) [
            | inl earlier ↦ best.first j su other earlier can
            | inr e ↦
                (let P : ℕ → Type 0 = λ k. IsEligibleHead streams queues buckets now k su other in
                let here = subst P e can in
                let same : here.queue ≡ q = same_Some _ _ (sym here.here ∙ slice_get_read queues (length queues) n q refl l at) in
                let stream : st ≡ su = same_Some _ _ (sym (slice_get-get_or streams n d (omega arith)) ∙ here.stream) in
                let head = ap (λ (x : QueueValue). slice_get x.items 0) (sym same) ∙ here.head in
                let stamp = best.stamp_is in
                let next : Candidate = record { index = n; stream = st; stamp = other.stamp } in
                let Q : Stream → Type 0 = λ y. IsNotAfter b.stream best.item y other in
                elim (cases_order other.stamp limit) [
                  | inl s ↦ subst Q stream (goes b next best.item other stamp refl (nothing other here.bucket head (omega arith) here.bucket_here here.room))
                  | inr (inl s) ↦ subst Q stream (goes b next best.item other stamp refl (nothing other here.bucket head (omega arith) here.bucket_here here.room))
                  | inr (inr s) ↦ inl (omega arith)
                ])
          ];
    }

-- the head at the next place has a later time
pub passed_over : (streams : List Stream) (queues : List QueueValue) (heads : List Head) (buckets : List BucketValue) (now n : ℕ) (best : Option Candidate) (limit : ℕ) → IsBestBelow streams queues buckets now n best → IsLimit now best limit
    → n < length queues → length streams ≡ length queues → map time_of heads ≡ map head_time queues → limit < (head_at heads n).time → IsBestBelow streams queues buckets now (n + 1) best
passed_over streams queues heads buckets now n best limit is at_limit l size heads_are later =
    let empty : QueueValue = record { items = []; capacity = 0 } in
    let nobody : Stream = record { input = 0; pid = 0; output_pid = 0; leak = 0 } in
    let q : QueueValue = get_or queues n empty in
    let none : Head = record { time = 0; pid = 0 } in
    let within : n < length heads = omega (arith, sym (length-map heads time_of) ∙ ap length heads_are ∙ length-map queues head_time) in
    let of_head : (head_at heads n).time ≡ head_time q = sym (get_or-map time_of heads n none 0 within) ∙ ap (λ ns. get_or ns n 0) heads_are ∙ get_or-map head_time queues n empty 0 l in
    skips_read streams queues buckets now n best q nobody limit is at_limit l size (get_or_default queues n empty q l)
    (λ item bucket head due here room. let e = time_of_head q.items item head in absurd (omega arith))

-- the head that lies beside a queue
head_of : {heads : List Head} {queues : List QueueValue} {streams : List Stream} → KeepsHeads heads queues streams → (j : ℕ) (queue : QueueValue) → slice_get queues j ≡ Some queue → (head_at heads j).time ≡ head_time queue
head_of {heads} {queues} {streams} kept j queue here =
    let empty : QueueValue = record { items = []; capacity = 0 } in
    let none : Head = record { time = 0; pid = 0 } in
    let l : j < length queues = slice_get_within queues j queue here in
    let m : j < length heads = omega (arith, length_heads kept) in
    let q : get_or queues j empty ≡ queue = same_Some _ _ (sym (slice_get-get_or queues j empty l) ∙ here) in
    sym (get_or-map time_of heads j none 0 m) ∙ ap (λ ns. get_or ns j 0) kept.times_are ∙ get_or-map head_time queues j empty 0 l ∙ ap head_time q

-- and its PID
pid_beside : {heads : List Head} {queues : List QueueValue} {streams : List Stream} → KeepsHeads heads queues streams → (j : ℕ) (st : Stream) → slice_get streams j ≡ Some st → (head_at heads j).pid ≡ st.output_pid
pid_beside {heads} {queues} {streams} kept j st here =
    let nobody : Stream = record { input = 0; pid = 0; output_pid = 0; leak = 0 } in
    let none : Head = record { time = 0; pid = 0 } in
    let l : j < length streams = slice_get_within streams j st here in
    let m : j < length heads = omega (arith, sym (length-map heads pid_of_head) ∙ ap length kept.pids_are ∙ length-map streams output_of) in
    let q : get_or streams j nobody ≡ st = same_Some _ _ (sym (slice_get-get_or streams j nobody l) ∙ here) in
    sym (get_or-map pid_of_head heads j none 0 m) ∙ ap (λ ns. get_or ns j 0) kept.pids_are ∙ get_or-map output_of streams j nobody 0 l ∙ ap output_of q

-- where the first of all heads isn't due, none is
pub none_due : {heads : List Head} {queues : List QueueValue} {streams : List Stream} → KeepsHeads heads queues streams → (buckets : List BucketValue) (now i : ℕ) (h : Head) → IsFirst heads i h → now < h.time
    → (k : ℕ) (st : Stream) (item : Stamped) → IsEligibleHead streams queues buckets now k st item → ⊥
none_due {heads} {queues} {streams} kept buckets now i h is later k st item can =
    let e = head_of kept k can.queue can.here in
    let t = time_of_head can.queue.items item can.head in
    let l = slice_get_within queues k can.queue can.here in
    let due = can.due in
    elim (is.first k (omega (arith, length_heads kept))) [ inl m ↦ absurd (omega arith) | inr m ↦ absurd (omega (arith, m.0)) ]

-- where no head has a rank, none is due before the least time without one
pub none_unranked : {heads : List Head} {queues : List QueueValue} {streams : List Stream} → KeepsHeads heads queues streams → (buckets : List BucketValue) (now : ℕ) → ((j : ℕ) → j < length heads → UNRANKED ≤ (head_at heads j).time) → now < UNRANKED
    → (k : ℕ) (st : Stream) (item : Stamped) → IsEligibleHead streams queues buckets now k st item → ⊥
none_unranked {heads} {queues} {streams} kept buckets now unranked ranked k st item can =
    let e = head_of kept k can.queue can.here in
    let t = time_of_head can.queue.items item can.head in
    let l = slice_get_within queues k can.queue can.here in
    let due = can.due in
    let later = unranked k (omega (arith, length_heads kept)) in
    absurd (omega arith)

-- something waits where the time isn't the greatest
waits : (items : List Stamped) → first_stamp items < 18446744073709551615 → (item : Stamped) × (slice_get items 0 ≡ Some item) × (item.stamp ≡ first_stamp items)
waits [] l = absurd (omega arith)
waits (x ∷ xs) l = (x, refl, refl)

-- the first of all heads goes, where it is due and its bucket has room
pub first_goes : {heads : List Head} {queues : List QueueValue} {streams : List Stream} → KeepsHeads heads queues streams → (buckets : List BucketValue) (now i : ℕ) (h : Head) → IsFirst heads i h → h.time ≤ now → h.time < 18446744073709551615
    → (b : BucketValue) → slice_get buckets i ≡ Some b → HasRoom b → (st : Stream) → slice_get streams i ≡ Some st → IsFirstHead streams queues buckets now (record { index = i; stream = st; stamp = h.time })
first_goes {heads} {queues} {streams} kept buckets now i h is due small b bucket_here room st stream_here =
    let empty : QueueValue = record { items = []; capacity = 0 } in
    let q : QueueValue = get_or queues i empty in
    let within = is.within in
    let here : slice_get queues i ≡ Some q = slice_get-get_or queues i empty (omega (arith, length_heads kept)) in
    let time : h.time ≡ head_time q = ap time_of is.here ∙ head_of kept i q here in
    let pid : h.pid ≡ st.output_pid = ap pid_of_head is.here ∙ pid_beside kept i st stream_here in
    let one = waits q.items (omega arith) in
    let item : Stamped = one.0 in
    let stamp : item.stamp ≡ first_stamp q.items = one.2 in
    record {
      item = item;
      head = record { stream = stream_here; queue = q; here = here; head = one.1; due = omega arith; bucket = b; bucket_here = bucket_here; room = room };
      first = λ j su other can.
          let e = head_of kept j can.queue can.here in
          let t = time_of_head can.queue.items other can.head in
          let p = pid_beside kept j su can.stream in
          let l = slice_get_within queues j can.queue can.here in
          elim (is.first j (omega (arith, length_heads kept))) [ inl m ↦ inl (omega arith) | inr m ↦ inr (omega (arith, m.0), omega (arith, m.1)) ];
    }

-- the head at the next place goes first
picks : (streams : List Stream) (queues : List QueueValue) (buckets : List BucketValue) (now n : ℕ) (best : Option Candidate) (next : Candidate) (item : Stamped) → IsBestBelow streams queues buckets now n best
    → next.index ≡ n → IsEligibleHead streams queues buckets now next.index next.stream item → item.stamp ≡ next.stamp → Leads best next → IsBest streams queues buckets now (n + 1) next
picks streams queues buckets now n None next item none place can stamp leads = record {
  item = item;
  can = can;
  stamp_is = stamp;
  first = λ j su other l there.
      elim (below j n l) [
        | inl m ↦ absurd (none j su other m there)
        | inr e ↦ at_place next.stream item next.index j can (e ∙ sym place) there (goes_itself next.stream item)
      ];
}
picks streams queues buckets now n (Some b) next item best place can stamp leads = record {
  item = item;
  can = can;
  stamp_is = stamp;
  first = λ j su other l there.
      elim (below j n l) [
        | inl m ↦ goes_on next.stream b.stream su item best.item other (goes next b item best.item stamp best.stamp_is leads) (best.first j su other m there)
        | inr e ↦ at_place next.stream item next.index j can (e ∙ sym place) there (goes_itself next.stream item)
      ];
}

pub picks_read : (streams : List Stream) (queues : List QueueValue) (buckets : List BucketValue) (now n : ℕ) (best : Option Candidate) (q : QueueValue) (d : Stream) (limit : ℕ) (next : Candidate) → IsBestBelow streams queues buckets now n best → IsLimit now best limit
    → n < length queues → length streams ≡ length queues → q ≡ get_or queues n q → IsBetterHead best n (get_or streams n d) q buckets limit next → IsBestBelow streams queues buckets now (n + 1) (Some next)
picks_read streams queues buckets now n best q d limit next is at_limit l size at better =
    let low = limit_within streams queues buckets now n best limit is at_limit in
    let due = better.due in
    let stamp = better.stamp_is in
    let place : next.index ≡ n = ap (λ (c : Candidate). c.index) better.here in
    let can : IsEligibleHead streams queues buckets now n (get_or streams n d) better.item = record {
      stream = slice_get-get_or streams n d (omega arith);
      queue = q;
      here = slice_get_read queues (length queues) n q refl l at;
      head = better.head;
      due = omega arith;
      bucket = better.bucket;
      bucket_here = better.bucket_here;
      room = better.room;
    } in
    let P : Candidate → Type 0 = λ c. IsEligibleHead streams queues buckets now c.index c.stream better.item in
    picks streams queues buckets now n best next better.item is place (subst P (sym better.here) can) stamp better.leads
