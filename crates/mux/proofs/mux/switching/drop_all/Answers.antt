use Rattle.std.proofs.Common.{length, ap, ◌∙◌, arith}
use Rattle.buffers.specs.QueueValue.{QueueValue}
use Rattle.mux.proofs.QueueLengths.{one_fewer, none_left}
use Rattle.mux.proofs.mux.switching.drop_all.Goals as goal

pub loop-taken-preserved : goal.loop-taken-preserved
loop-taken-preserved c =
    let l = c.loop-taken in record {
      left = omega (arith, l.invariant.left, one_fewer l.queue (omega (arith, l.invariant.left)), ap (λ (q : QueueValue). length q.items) c.take.ensures.rest);
      capacity = ap (λ (q : QueueValue). q.capacity) c.take.ensures.rest ∙ l.invariant.capacity;
    }

pub returns-clause-empty : goal.returns-clause-empty
returns-clause-empty c = none_left c.loop-taken.queue.items (omega (arith, c.loop-taken.invariant.left))
