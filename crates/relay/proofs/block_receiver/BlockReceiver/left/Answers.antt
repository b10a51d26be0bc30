use Rattle.std.proofs.Common.{rules, ◌≡◌, List, ◌++◌, length, true, arith, ap, ◌∙◌, sym}
use Rattle.rtrb.specs.Ring.{sent, received, known_items}
use Rattle.relay.specs.Messages.{marks_of, mark_count, blocks_of}
use Rattle.relay.specs.Relays.{relay_id, SenderValue, ReceiverValue, FinishedValue}
use Rattle.relay.specs.declared.message.Message.{Message}
use Rattle.relay.proofs.MessageLaws.{blocks_left, marks_left, length_messages, mark_came, marks_are}
use Rattle.relay.proofs.block_receiver.BlockReceiver.left.Goals as goal
use Rattle.relay.proofs.block_receiver.BlockReceiver.left.Goals.{then-is_ended+then-not-self, else-is_ended, else-is_ended-via-then-is_ended+else-not-self, else-is_ended-via-else-is_ended}

pub returns-clause-left : goal.returns-clause-left
returns-clause-left c =
    let look = c.slots_beside-items in
    let got : List Message = received c.self.inside.consumer in
    let rest : List Message = known_items look.new.self in
    let all : List Message = sent c.finished.inside.producer in
    let fifo : got ++ rest ≡ all = search rules in
    let value : length rest ≡ look.result = sym look.ensures.value in
    let same : relay_id c.finished.inside.producer.end c.finished.inside.empties.end ≡ relay_id c.self.inside.consumer.end c.self.inside.empties.end = search rules in
    let sent_marks : marks_of all ≡ mark_count c.finished.inside.is_ended = marks_are c.finished.inside.is_ended all c.finished.invariant in
    let got_marks : marks_of got ≡ mark_count c.self.inside.is_ended = c.self.invariant in
    let counted = marks_left got rest all fifo in
    let most = length_messages rest in
    let blocks = blocks_left got rest all fifo in
    record {
      rest = blocks_of rest;
      sender =
          sym (ap (λ (f : FinishedValue). f.sender) c.finished.view_is)
          ∙ ((λ i. record { relay = same i; sent = blocks i })
          ∙ ap (λ (e : ReceiverValue). let s : SenderValue = record { relay = e.relay; sent = e.received ++ blocks_of rest } in s) c.self.view_is);
      marked = λ m.
          let own : c.self.inside.is_ended ≡ true = ap (λ (e : ReceiverValue). e.is_ended) c.self.view_is ∙ m in
          let came = mark_came c.finished.inside.is_ended got rest all fifo c.finished.invariant (got_marks ∙ ap mark_count own) in
          (sym (ap (λ (f : FinishedValue). f.is_ended) c.finished.view_is) ∙ came.0, ap blocks_of came.1);
      count_is = elim c.if-is_ended.branch [
        | then-is_ended+then-not-self w ↦
            let a : mark_count c.finished.inside.is_ended ≡ 1 = ap mark_count w.if-is_ended.true in
            let b : mark_count c.self.inside.is_ended ≡ 0 = ap mark_count w.if-not-self.true in
            omega (arith, w.marks-is)
        | else-is_ended w ↦
            elim w.else-is_ended.branch [
              | else-is_ended-via-then-is_ended+else-not-self w' ↦
                  let a : mark_count c.finished.inside.is_ended ≡ 1 = ap mark_count w'.if-is_ended.true in
                  let b : mark_count c.self.inside.is_ended ≡ 1 = ap mark_count w'.if-not-self.false in
                  omega (arith, w.marks-is)
              | else-is_ended-via-else-is_ended w' ↦
                  let a : mark_count c.finished.inside.is_ended ≡ 0 = ap mark_count w'.if-is_ended.false in
                  omega (arith, w.marks-is)
            ]
      ];
    }

pub overflow_sub-result : goal.overflow_sub-result
overflow_sub-result c =
    let look = c.slots_beside-items in
    let got : List Message = received c.self.inside.consumer in
    let rest : List Message = known_items look.new.self in
    let all : List Message = sent c.finished.inside.producer in
    let fifo : got ++ rest ≡ all = search rules in
    let value : length rest ≡ look.result = sym look.ensures.value in
    let sent_marks : marks_of all ≡ mark_count c.finished.inside.is_ended = marks_are c.finished.inside.is_ended all c.finished.invariant in
    let got_marks : marks_of got ≡ mark_count c.self.inside.is_ended = c.self.invariant in
    let counted = marks_left got rest all fifo in
    elim c.if-is_ended.branch [
      | then-is_ended+then-not-self w ↦
          let a : mark_count c.finished.inside.is_ended ≡ 1 = ap mark_count w.if-is_ended.true in
          let b : mark_count c.self.inside.is_ended ≡ 0 = ap mark_count w.if-not-self.true in
          omega (arith, w.marks-is)
      | else-is_ended w ↦ omega (arith, w.marks-is)
    ]
