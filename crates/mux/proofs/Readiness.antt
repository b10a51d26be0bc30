-- What is kept of inputs and queues says who is ready, and what goes next.
use Rattle.std.proofs.Common.{ℕ, ◌<◌, ◌≡◌, false, List, [], length, get_or, Option, Some, None, ap, ◌∙◌, sym, subst, arith, inl, inr, All}
use Rattle.std.specs.Prelude.{IsTrue, IfNone}
use Rattle.std.specs.List.{slice_get}
use Rattle.std.proofs.lemmas.List.FromFn.{get_or-map-range_with_len}
use Rattle.std.proofs.lemmas.Option.{same_Some, slice_get-map, slice_get_within, get_or_from_slice_get, slice_get-get_or}
use Rattle.std.specs.Option.{option_map}
use Rattle.std.proofs.lemmas.Bool.{cases_Bool}
use Rattle.tspkt.specs.declared.stamped.Stamped.{Stamped}
use Rattle.mux.specs.declared.event.Event.{Event}
use Rattle.mux.specs.declared.content.Content.TheVariants.{Null, Elementary}
use Rattle.request.specs.declared.stream.Stream.{Stream}
use Rattle.mux.specs.declared.candidate.Candidate.{Candidate}
use Rattle.mux.specs.declared.input_state.InputState.{InputState}
use Rattle.buffers.specs.QueueValue.{QueueValue}
use Rattle.buffers.specs.BucketValue.{BucketValue, HasRoom}
use Rattle.mux.specs.Buckets.{AreBuckets}
use Rattle.mux.proofs.BucketSteps.{room_fits}
use Rattle.mux.specs.History.{Run, in_force, plan_in_force, has_stream, queue, slots, emitted}
use Rattle.mux.specs.Lawful.{table_due, AllReady, is_ready, IsDone, IsEligible, IsContent, input_count}
use Rattle.mux.specs.Keeping.{AgreesWith, state_of, queue_of, ready_at}
use Rattle.mux.specs.Choosing.{IsEligibleHead, IsFirstHead}
use Rattle.mux.proofs.Contents.{untabled}
use Rattle.mux.proofs.Plans.{IsAt, in_plan}
use Rattle.mux.proofs.Force.{has_in_force, force_within}
use Rattle.mux.proofs.Queues.{queue_gone, head_in_force}
use Rattle.mux.proofs.Steps.{length_states, length_queues}
use Rattle.schedule.specs.Schedule.{slot_time}
use Rattle.schedule.specs.Streams.{all_streams}

-- the state that is kept of an input, at any default
state_get : {r : Run} {h : List Event} {states : List InputState} {queues : List QueueValue} → AgreesWith r h states queues → (i : ℕ) (d : InputState) → i < input_count r.schedule → get_or states i d ≡ state_of r.schedule h i
state_get {r} {h} k i d l = ap (λ ys. get_or ys i d) k.states_are ∙ get_or-map-range_with_len (state_of r.schedule h) 0 (input_count r.schedule) i i d l (omega arith)

-- the queue that is kept at a place
queue_get : {r : Run} {h : List Event} {states : List InputState} {queues : List QueueValue} → AgreesWith r h states queues → (k : ℕ) (st : Stream) → IsAt r.schedule k st → slice_get queues k ≡ Some (queue_of r.schedule h st)
queue_get {r} {h} kept k st at = ap (λ ys. slice_get ys k) kept.queues_are ∙ slice_get-map (queue_of r.schedule h) (all_streams r.schedule) k ∙ ap (option_map (queue_of r.schedule h)) at

-- whether an input is ready, by what is kept of it
ready_is : {r : Run} {h : List Event} {states : List InputState} {queues : List QueueValue} → AgreesWith r h states queues → (now i : ℕ) (d : InputState) → now ≡ slot_time r.schedule.first (slots h) → i < input_count r.schedule
    → ready_at now (get_or states i d) ≡ is_ready r.schedule i h
ready_is {r} {h} k now i d t l = ap (ready_at now) (state_get k i d l) ∙ ap (λ m. ready_at m (state_of r.schedule h i)) t

pub all_ready : {r : Run} {h : List Event} {states : List InputState} {queues : List QueueValue} → AgreesWith r h states queues → (now : ℕ) → now ≡ slot_time r.schedule.first (slots h)
    → All (λ x. IsTrue (ready_at now x)) states → AllReady r.schedule h
all_ready {r} {h} k now t all i l = sym (ready_is k now i (state_of r.schedule h i) t l) ∙ all i (state_of r.schedule h i) (let e = length_states k in omega arith)

pub not_ready : {r : Run} {h : List Event} {states : List InputState} {queues : List QueueValue} → AgreesWith r h states queues → (now i : ℕ) → now ≡ slot_time r.schedule.first (slots h)
    → i < length states → ((d : InputState) → ready_at now (get_or states i d) ≡ false) → ((j : ℕ) (d : InputState) → j < i → IsTrue (ready_at now (get_or states j d)))
    → (i < input_count r.schedule) × (is_ready r.schedule i h ≡ false) × ((j : ℕ) → j < i → IsTrue (is_ready r.schedule j h))
not_ready {r} {h} k now i t l isnt below =
    let e = length_states k in (
      omega arith,
      sym (ready_is k now i (state_of r.schedule h i) t (omega arith)) ∙ isnt (state_of r.schedule h i),
      λ j m. sym (ready_is k now j (state_of r.schedule h j) t (omega arith)) ∙ below j (state_of r.schedule h j) m,
    )

-- all inputs are closed, and nothing waits
pub done_from : {r : Run} {h : List Event} {states : List InputState} {queues : List QueueValue} → AgreesWith r h states queues → All (λ (x : InputState). IsTrue x.closed) states → All (λ (q : QueueValue). q.items ≡ []) queues → IsDone r.schedule h
done_from {r} {h} {states} {queues} k closed empty = record {
  closed = λ i l. sym (ap (λ (x : InputState). x.closed) (state_get k i (state_of r.schedule h i) l)) ∙ closed i (state_of r.schedule h i) (let e = length_states k in omega arith);
  empty = λ st in_plan.
      let has = has_in_force r.schedule h st k.schedule k.lawful in_plan in
      let at = queue_get k has.0 st has.1 in
      let l = slice_get_within _ has.0 _ at in
      sym (ap (λ (q : QueueValue). q.items) (get_or_from_slice_get queues has.0 (queue_of r.schedule h st) (queue_of r.schedule h st) at)) ∙ empty has.0 (queue_of r.schedule h st) l;
}

pub closed_from : {r : Run} {h : List Event} {states : List InputState} {queues : List QueueValue} → AgreesWith r h states queues → IsDone r.schedule h → All (λ (x : InputState). IsTrue x.closed) states
closed_from {r} {h} k done i d l = let e = length_states k in ap (λ (x : InputState). x.closed) (state_get k i d (omega arith)) ∙ done.closed i (omega arith)

pub empty_from : {r : Run} {h : List Event} {states : List InputState} {queues : List QueueValue} → AgreesWith r h states queues → IsDone r.schedule h → All (λ (q : QueueValue). q.items ≡ []) queues
empty_from {r} {h} {states} {queues} k done i d l =
    let e = length_queues k in
    let nobody : Stream = record { input = 0; pid = 0; output_pid = 0; leak = 0 } in
    let st = get_or (all_streams r.schedule) i nobody in
    let at : IsAt r.schedule i st = slice_get-get_or (all_streams r.schedule) i nobody (omega arith) in
    ap (λ (q : QueueValue). q.items) (get_or_from_slice_get queues i (queue_of r.schedule h st) d (queue_get k i st at))
    ∙ elim (cases_Bool (has_stream (plan_in_force r.schedule h) st)) [
      | inl has ↦ done.empty st (in_plan r.schedule (in_force h) i st k.schedule (force_within r.schedule h k.schedule k.lawful) at has)
      | inr gone ↦ queue_gone r.schedule st h gone
    ]

-- an eligible head may go next at its place, by what is kept, and the other way round
head_from : {r : Run} {h : List Event} {states : List InputState} {queues : List QueueValue} {buckets : List BucketValue} (k : AgreesWith r h states queues) → AreBuckets r.schedule (emitted r.schedule h) buckets
    → (now : ℕ) → now ≡ slot_time r.schedule.first (slots h) → (st : Stream) (item : Stamped)
    → (e : IsEligible r.schedule h st item) → IsEligibleHead (all_streams r.schedule) queues buckets now (has_in_force r.schedule h st k.schedule k.lawful e.stream).0 st item
head_from {r} {h} k are now t st item e =
    let has = has_in_force r.schedule h st k.schedule k.lawful e.stream in
    let own = are.each has.0 st has.1 in
    record {
      stream = has.1;
      queue = queue_of r.schedule h st;
      here = queue_get k has.0 st has.1;
      head = e.head;
      due = let l = e.due in omega arith;
      bucket = own.0;
      bucket_here = own.1;
      room = (room_fits r.schedule h has.0 st item own.0 k.schedule k.lawful has.1 e.head own.2).1 e.fits;
    }

head_to : {r : Run} {h : List Event} {states : List InputState} {queues : List QueueValue} {buckets : List BucketValue} → AgreesWith r h states queues → AreBuckets r.schedule (emitted r.schedule h) buckets
    → (now : ℕ) → now ≡ slot_time r.schedule.first (slots h) → (k : ℕ) (st : Stream) (item : Stamped)
    → IsEligibleHead (all_streams r.schedule) queues buckets now k st item → IsEligible r.schedule h st item
head_to {r} {h} kept are now t k st item can =
    let same : can.queue ≡ queue_of r.schedule h st = same_Some _ _ (sym can.here ∙ queue_get kept k st can.stream) in
    let own = are.each k st can.stream in
    let bucket : can.bucket ≡ own.0 = same_Some _ _ (sym can.bucket_here ∙ own.1) in
    let head : slice_get (queue r.schedule st h) 0 ≡ Some item = sym (ap (λ (q : QueueValue). slice_get q.items 0) same) ∙ can.head in
    record {
      stream = in_plan r.schedule (in_force h) k st kept.schedule (force_within r.schedule h kept.schedule kept.lawful) can.stream (head_in_force r.schedule st h item head).0;
      head = head;
      due = let l = can.due in omega arith;
      fits = (room_fits r.schedule h k st item own.0 kept.schedule kept.lawful can.stream head own.2).0 (subst HasRoom bucket can.room);
    }

-- what the next slot carries
pub none_goes : {r : Run} {h : List Event} {states : List InputState} {queues : List QueueValue} {buckets : List BucketValue} → AgreesWith r h states queues → AreBuckets r.schedule (emitted r.schedule h) buckets
    → (now : ℕ) → now ≡ slot_time r.schedule.first (slots h) → table_due r.schedule h ≡ None
    → ((k : ℕ) (st : Stream) (item : Stamped) → IsEligibleHead (all_streams r.schedule) queues buckets now k st item → ⊥) → IsContent r.schedule h Null
none_goes {r} {h} k are now t free none = untabled r.schedule h Null free (λ st item e. none (has_in_force r.schedule h st k.schedule k.lawful e.stream).0 st item (head_from k are now t st item e))

pub one_goes : {r : Run} {h : List Event} {states : List InputState} {queues : List QueueValue} {buckets : List BucketValue} → AgreesWith r h states queues → AreBuckets r.schedule (emitted r.schedule h) buckets
    → (now : ℕ) → now ≡ slot_time r.schedule.first (slots h) → table_due r.schedule h ≡ None → (c : Candidate) → IsFirstHead (all_streams r.schedule) queues buckets now c
    → (slice_get (all_streams r.schedule) c.index ≡ Some c.stream) × IsContent r.schedule h (Elementary c.stream)
one_goes {r} {h} k are now t free c best =
    (best.head.stream, untabled r.schedule h (Elementary c.stream) free (best.item, head_to k are now t c.index c.stream best.item best.head, λ su other e. best.first (has_in_force r.schedule h su k.schedule k.lawful e.stream).0 su other (head_from k are now t su other e)))

-- what follows where there is no value
pub when_none : {X : Type 0} {P Q : Type 0} (o : Option X) → IfNone o P → (P → Q) → IfNone o Q
when_none None p f = f p
when_none (Some x) p f = tt
