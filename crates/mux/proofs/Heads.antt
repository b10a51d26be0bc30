-- The head of a queue that goes out.
use Rattle.std.proofs.Common.{ℕ, ◌≡◌, ◌≤◌, List, get_or, Option, Some, None, Bor, rules, sym, ap, ◌∙◌}
use Rattle.std.specs.Prelude.{IsSome, option_copied}
use Rattle.std.specs.List.{slice_get}
use Rattle.tspkt.specs.declared.stamped.Stamped.{Stamped}
use Rattle.request.specs.declared.stream.Stream.{Stream}
use Rattle.buffers.specs.QueueValue.{QueueValue}
use Rattle.mux.specs.declared.content.Content.TheVariants.{Elementary}
use Rattle.mux.specs.declared.event.Event.{Event}
use Rattle.mux.specs.declared.input_state.InputState.{InputState}
use Rattle.mux.specs.History.{Run, slots}
use Rattle.mux.specs.Lawful.{IsContent}
use Rattle.mux.specs.Keeping.{AgreesWith, queue_of}
use Rattle.mux.proofs.Contents.{stream_choice}
use Rattle.mux.proofs.Plans.{IsAt}
use Rattle.mux.proofs.Steps.{queue_at}
use Rattle.schedule.specs.Schedule.{slot_time}

-- the reference to a value that is there
pub some_of : {X : Type 0} (o : Option (Bor X)) (x : X) → option_copied o ≡ Some x → IsSome o
some_of None x e = cc
some_of (Some r) x e = search rules

pub copied_is : {X : Type 0} (o : Option (Bor X)) (r : Bor X) (x : Option X) → o ≡ Some r → option_copied o ≡ x → x ≡ Some r.now
copied_is o r x e c = sym c ∙ ap option_copied e

-- the head of the queue that is kept of a stream, where the next slot carries its packet
pub record GoesNext (r : Run) (h : List Event) (q : QueueValue) : Type 0 where
  pub item : Stamped
  pub head : slice_get q.items 0 ≡ Some item
  pub due : item.stamp ≤ slot_time r.schedule.first (slots h)

pub goes_next : {r : Run} {h : List Event} {states : List InputState} {queues : List QueueValue} → AgreesWith r h states queues → (k : ℕ) (st : Stream) (q : QueueValue)
    → IsAt r.schedule k st → q ≡ get_or queues k q → IsContent r.schedule h (Elementary st) → GoesNext r h q
goes_next {r} {h} kept k st q at q_at content =
    let chosen = stream_choice r.schedule h st content in
    let q_is : q ≡ queue_of r.schedule h st = queue_at kept k st q at q_at in
    record {
      item = chosen.0;
      head = ap (λ (x : QueueValue). slice_get x.items 0) q_is ∙ chosen.1.head;
      due = chosen.1.due;
    }
