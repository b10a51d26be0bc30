use Rattle.std.proofs.Common.{◌≡◌, [], ℕ, List, Err, Option, Some, ap, sym, subst, ◌∙◌}
use Rattle.std.proofs.lemmas.Result.{err_from_is_err_and}
use Rattle.relay.specs.declared.message.Message.{Message}
use Rattle.relay.specs.Receiving.{IsReceived}
use Rattle.handing.specs.Outputs.{IsPut}
use Rattle.outlet.specs.declared.outlet.Outlet.{Outlet}
use Rattle.handing.proofs.WritingLaws.{comes, gave_back, writes_nothing, writes_block, fails_block, writes_flushed, writes_waiting, fails_waiting}
use Rattle.handing.proofs.output_worker.write_all.Goals as goal

pub loop-init : goal.loop-init
loop-init g c = record { writes = writes_nothing g.W.Sink.contents g.W.Sink.failures c.args.receiver.now c.args.outlet.now }

pub returns-in_err-put_all-in-Some-Block : goal.returns-in_err-put_all-in-Some-Block
returns-in_err-put_all-in-Some-Block g c =
    let C = g.W.Sink.contents in
    let F = g.W.Sink.failures in
    let mid = c.next-in-loop.new.self in
    let R : Option Message → Type 0 = λ v. IsReceived c.loop.receiver v mid in
    let r = subst R (c.in-Some-Block.is ∙ ap Some c.in-Some-Block.field-0-is) c.next-in-loop.ensures.received in
    let block : List (List ℕ) = c.in-Some-Block.block.items in
    let came = comes c.loop.receiver mid block r.1 in
    let P : List (List ℕ) → Type 0 = λ v. IsPut C F c.loop.outlet v c.put_all.new.outlet c.put_all.result in
    let put = subst P c.as_slice.ensures.value c.put_all.ensures in
    let passed = err_from_is_err_and c.from_residual.result c.from_residual.ensures.1 in
    fails_block C F c.args.receiver.now c.args.outlet.now c.loop.receiver c.loop.outlet block mid c.put_all.new.outlet c.put_all.result passed.0 c.from_residual.result
    c.loop.invariant.writes came (c.in_err-put_all-in-Some-Block.was ∙ ap Err (sym passed.2)) passed.1 put

pub loop-preserved-in_ok-put_all-in-Some-Block : goal.loop-preserved-in_ok-put_all-in-Some-Block
loop-preserved-in_ok-put_all-in-Some-Block g c =
    let C = g.W.Sink.contents in
    let F = g.W.Sink.failures in
    let mid = c.next-in-loop.new.self in
    let R : Option Message → Type 0 = λ v. IsReceived c.loop.receiver v mid in
    let r = subst R (c.in-Some-Block.is ∙ ap Some c.in-Some-Block.field-0-is) c.next-in-loop.ensures.received in
    let block : List (List ℕ) = c.in-Some-Block.block.items in
    let came = comes c.loop.receiver mid block r.1 in
    let P : List (List ℕ) → Type 0 = λ v. IsPut C F c.loop.outlet v c.put_all.new.outlet c.put_all.result in
    let put = subst P c.as_slice.ensures.value c.put_all.ensures in
    let back = gave_back (λ back. back.items ≡ []) c.give_back.result c.loop.receiver mid c.give_back.new.self block came c.give_back.ensures in
    record {
      writes = writes_block C F c.args.receiver.now c.args.outlet.now c.loop.receiver c.loop.outlet block c.give_back.new.self c.put_all.new.outlet c.put_all.result tt
          c.loop.invariant.writes back c.in_ok-put_all-in-Some-Block.was put;
    }

pub loop-preserved-in_ok-put_all-in-Some-Block-2 : goal.loop-preserved-in_ok-put_all-in-Some-Block-2
loop-preserved-in_ok-put_all-in-Some-Block-2 g c =
    let C = g.W.Sink.contents in
    let F = g.W.Sink.failures in
    let mid = c.next-in-loop.new.self in
    let R : Option Message → Type 0 = λ v. IsReceived c.loop.receiver v mid in
    let r = subst R (c.in-Some-Block.is ∙ ap Some c.in-Some-Block.field-0-is) c.next-in-loop.ensures.received in
    let block : List (List ℕ) = c.in-Some-Block.block.items in
    let came = comes c.loop.receiver mid block r.1 in
    let P : List (List ℕ) → Type 0 = λ v. IsPut C F c.loop.outlet v c.put_all.new.outlet c.put_all.result in
    let put = subst P c.as_slice.ensures.value c.put_all.ensures in
    let back = gave_back (λ back. back.items ≡ []) c.give_back.result c.loop.receiver mid c.give_back.new.self block came c.give_back.ensures in
    record {
      writes = writes_block C F c.args.receiver.now c.args.outlet.now c.loop.receiver c.loop.outlet block c.give_back.new.self c.put_all.new.outlet c.put_all.result tt
          c.loop.invariant.writes back c.in_ok-put_all-in-Some-Block.was put;
    }

pub returns-in-Some-End : goal.returns-in-Some-End
returns-in-Some-End g c =
    let R : Option Message → Type 0 = λ v. IsReceived c.loop.receiver v c.next-in-loop.new.self in
    let r = subst R (c.in-Some-End.is ∙ ap Some c.in-Some-End.field-0-is) c.next-in-loop.ensures.received in
    let b : Outlet _ = record { output = c.flush.new.self; sink = c.flush.new.sink } in
    writes_flushed g.W.Sink.contents g.W.Sink.failures c.args.receiver.now c.args.outlet.now c.loop.receiver c.loop.outlet c.next-in-loop.new.self b c.flush.result
    c.loop.invariant.writes r.1 c.flush.ensures.stays c.flush.ensures.ok c.flush.ensures.begun c.flush.ensures.failures c.flush.ensures.failed

pub returns-in_err-write_waiting-in-None-next : goal.returns-in_err-write_waiting-in-None-next
returns-in_err-write_waiting-in-None-next g c =
    let mid = c.next-in-loop.new.self in
    let R : Option Message → Type 0 = λ v. IsReceived c.loop.receiver v mid in
    let still = subst R c.in-None-next.is c.next-in-loop.ensures.received in
    let answer = c.from_residual-in_err-write_waiting-in-None-next in
    let passed = err_from_is_err_and answer.result answer.ensures.1 in
    fails_waiting g.W.Sink.contents g.W.Sink.failures c.args.receiver.now c.args.outlet.now c.loop.receiver c.loop.outlet mid c.write_waiting.new.outlet c.write_waiting.result passed.0 answer.result
    c.loop.invariant.writes still (c.in_err-write_waiting-in-None-next.was ∙ ap Err (sym passed.2)) passed.1 c.write_waiting.ensures.put

pub loop-preserved : goal.loop-preserved
loop-preserved g c =
    let mid = c.next-in-loop.new.self in
    let R : Option Message → Type 0 = λ v. IsReceived c.loop.receiver v mid in
    let still = subst R c.in-None-next.is c.next-in-loop.ensures.received in
    record {
      writes = writes_waiting g.W.Sink.contents g.W.Sink.failures c.args.receiver.now c.args.outlet.now c.loop.receiver c.loop.outlet mid c.write_waiting.new.outlet c.write_waiting.result tt
          c.loop.invariant.writes still c.in_ok-write_waiting-in-None-next.was c.write_waiting.ensures.put;
    }
