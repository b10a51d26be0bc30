use Rattle.std.proofs.Common.{◌<◌, ◌≤◌, List, length, subst}
use Rattle.request.specs.declared.stream.Stream.{Stream}
use Rattle.schedule.proofs.PlaceLaws.{place_in_one, no_place}
use Rattle.schedule.proofs.schedule.number_in.Goals as goal

pub returns-then-stream-streams : goal.returns-then-stream-streams
returns-then-stream-streams c =
    let p = c.args.plan.now in
    let n = c.args.stream in
    place_in_one p c.known.ensures.request n
    (subst (λ (xs : List Stream). n < length xs) c.streams.ensures c.if-stream-streams.true)

pub returns-else-stream-streams : goal.returns-else-stream-streams
returns-else-stream-streams c =
    let streams = c.args.plan.now.request.streams in
    let n = c.args.stream in
    no_place streams streams n (subst (λ (xs : List Stream). length xs ≤ n) c.streams.ensures c.if-stream-streams.false)
