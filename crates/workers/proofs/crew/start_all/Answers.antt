use Rattle.std.proofs.Common.{rules, ◌≡◌, [], ◌∷◌, ◌++◌, length, ap, ◌∙◌, arith, length-append}
use Rattle.schedule.specs.Schedule.{ScheduleValue}
use Rattle.workers.proofs.ListLaws.{drop_next}
use Rattle.workers.proofs.CrewLaws.{started_of, started_next, rest_next}
use Rattle.workers.proofs.crew.start_all.Goals as goal

pub new-worker-requires-clause-number : goal.new-worker-requires-clause-number
new-worker-requires-clause-number g c =
    let l = c.loop-reader in
    let size = ap (λ (v : ScheduleValue). length v.first.request.inputs) c.in_ok-own.ensures in
    omega (arith, l.invariant.left, c.in-Some.ensures.steps.1, c.requires.count, c.len-number.ensures, l.handles.ok.0, size)

pub new-worker-requires-clause-unsent : goal.new-worker-requires-clause-unsent
new-worker-requires-clause-unsent g c =
    let l = c.loop-reader in
    let next = drop_next (length l.handles.items) c.args.seats.items _ _ (l.invariant.rest ∙ c.in-Some.ensures.steps.0) in
    c.requires.unsent (length l.handles.items) _ next.0

pub loop-reader-preserved : goal.loop-reader-preserved
loop-reader-preserved g c =
    let l = c.loop-reader in
    let seats = c.args.seats.items in
    let handle = c.in_ok-handle.handle in
    let new = c.push.new.self.items in
    let grown : new ≡ l.handles.items ++ handle ∷ [] = search rules in
    let at = l.invariant.rest ∙ c.in-Some.ensures.steps.0 in
    let next = drop_next (length l.handles.items) seats _ _ at in
    let number : c.len-number.result ≡ length l.handles.items = omega (arith, c.len-number.ensures, l.handles.ok.0) in
    let made = c.new-worker.ensures in
    let woken = c.woken.ensures in
    record {
      started = started_next _ c.args.limit c.args.schedule.now seats l.handles.items new handle _ l.invariant.started next.0
          (started_of c.args.limit c.args.schedule.now (length l.handles.items) _ _ c.in_ok-own.own c.len-number.result c.woken.result _ c.in_ok-handle.ensures
          (woken.input.0 ∙ made.input.0, woken.input.1 ∙ made.input.1, woken.input.2 ∙ made.input.2) (woken.ends.0 ∙ made.ends.0) (woken.ends.2 ∙ made.ends.2) c.in_ok-own.ensures number)
          grown;
      rest = rest_next l.handles.items new handle seats _ _ grown at;
      left = (let size = ap length grown in let more = length-append l.handles.items (handle ∷ []) in omega (arith, l.invariant.left, c.in-Some.ensures.steps.1, size, more));
      room = omega (arith, l.invariant.room, c.push.ensures.capacity);
    }
