use Rattle.std.proofs.Common.{rules, ◌≡◌, List, ◌++◌, length, true, arith, ap, ◌∙◌, sym}
use Rattle.rtrb.specs.Ring.{sent}
use Rattle.port.specs.Arrivals.{CarriedValue, marks_of, mark_count, packets_of}
use Rattle.port.specs.Rings.{ring_id, PortValue, RingEndValue, FinishedValue}
use Rattle.port.proofs.ArrivalLaws.{packets_left, marks_left, length_arrivals, mark_came, marks_are}
use Rattle.port.proofs.ring_end.RingEnd.left.Goals as goal
use Rattle.port.proofs.ring_end.RingEnd.left.Goals.{then-is_ended+then-not-self, else-is_ended, else-is_ended-via-then-is_ended+else-not-self, else-is_ended-via-else-is_ended}

pub returns-clause-left : goal.returns-clause-left
returns-clause-left c =
    let got : List CarriedValue = c.self.inside.reader.handed in
    let rest : List CarriedValue = c.left-items.ensures.left.0 in
    let all : List CarriedValue = sent c.finished.inside.producer in
    let fifo : got ++ rest ≡ all = sym c.left-items.ensures.left.1 in
    let value : length rest ≡ c.left-items.result = c.left-items.ensures.left.2 in
    let same : ring_id c.finished.inside.producer.end c.finished.inside.input ≡ c.self.inside.reader.ring = search rules in
    let sent_marks : marks_of all ≡ mark_count c.finished.inside.is_ended = marks_are c.finished.inside.is_ended all c.finished.invariant in
    let got_marks : marks_of got ≡ mark_count c.self.inside.is_ended = c.self.invariant.0 in
    let counted = marks_left got rest all fifo in
    let most = length_arrivals rest in
    let packets = packets_left got rest all fifo in
    record {
      rest = packets_of rest;
      port =
          sym (ap (λ (f : FinishedValue). f.port) c.finished.view_is)
          ∙ ((λ i. record { ring = same i; sent = packets i })
          ∙ ap (λ (e : RingEndValue). let p : PortValue = record { ring = e.ring; sent = e.received ++ packets_of rest } in p) c.self.view_is);
      marked = λ m.
          let own : c.self.inside.is_ended ≡ true = ap (λ (e : RingEndValue). e.is_ended) c.self.view_is ∙ m in
          let came = mark_came c.finished.inside.is_ended got rest all fifo c.finished.invariant (got_marks ∙ ap mark_count own) in
          (sym (ap (λ (f : FinishedValue). f.is_ended) c.finished.view_is) ∙ came.0, ap packets_of came.1);
      count_is = elim c.if-is_ended.branch [
        | then-is_ended+then-not-self w ↦
            let a : mark_count c.finished.inside.is_ended ≡ 1 = ap mark_count w.if-is_ended.true in
            let b : mark_count c.self.inside.is_ended ≡ 0 = ap mark_count w.if-not-self.true in
            omega (arith, w.marks-is)
        | else-is_ended w ↦
            elim w.else-is_ended.branch [
              | else-is_ended-via-then-is_ended+else-not-self w' ↦
                  let a : mark_count c.finished.inside.is_ended ≡ 1 = ap mark_count w'.if-is_ended.true in
                  let b : mark_count c.self.inside.is_ended ≡ 1 = ap mark_count w'.if-not-self.false in
                  omega (arith, w.marks-is)
              | else-is_ended-via-else-is_ended w' ↦
                  let a : mark_count c.finished.inside.is_ended ≡ 0 = ap mark_count w'.if-is_ended.false in
                  omega (arith, w.marks-is)
            ]
      ];
    }

pub overflow_sub-result : goal.overflow_sub-result
overflow_sub-result c =
    let got : List CarriedValue = c.self.inside.reader.handed in
    let rest : List CarriedValue = c.left-items.ensures.left.0 in
    let all : List CarriedValue = sent c.finished.inside.producer in
    let fifo : got ++ rest ≡ all = sym c.left-items.ensures.left.1 in
    let value : length rest ≡ c.left-items.result = c.left-items.ensures.left.2 in
    let sent_marks : marks_of all ≡ mark_count c.finished.inside.is_ended = marks_are c.finished.inside.is_ended all c.finished.invariant in
    let got_marks : marks_of got ≡ mark_count c.self.inside.is_ended = c.self.invariant.0 in
    let counted = marks_left got rest all fifo in
    elim c.if-is_ended.branch [
      | then-is_ended+then-not-self w ↦
          let a : mark_count c.finished.inside.is_ended ≡ 1 = ap mark_count w.if-is_ended.true in
          let b : mark_count c.self.inside.is_ended ≡ 0 = ap mark_count w.if-not-self.true in
          omega (arith, w.marks-is)
      | else-is_ended w ↦ omega (arith, w.marks-is)
    ]
