use Rattle.std.proofs.Common.{rules, ◌≡◌, List, [], ◌∷◌, ◌++◌, length, Some, option_map, ap, ◌∙◌, sym, subst, arith, length-append}
use Rattle.std.proofs.lemmas.Option.{slice_get-map}
use Rattle.mux.specs.History.{is_closed}
use Rattle.station.specs.Stations.{StationValue, IsLawfulStation, rings_of}
use Rattle.station.specs.Settling.{IsSettled}
use Rattle.std.specs.List.{slice_get}
use Rattle.port.specs.Rings.{RingId}
use Rattle.outcome.specs.declared.ended.Ended.{Ended}
use Rattle.workers.proofs.ListLaws.{drop_next}
use Rattle.workers.proofs.CrewLaws.{ended_next, rest_next, of_work, ring_within}
use Rattle.workers.proofs.crew.join_all.Goals as goal

pub is_closed-is_closed-requires : goal.is_closed-is_closed-requires
is_closed-is_closed-requires g c =
    let l = c.loop-handle in
    let handles = c.args.handles.items in
    let next = drop_next (length l.ended.items) handles _ _ (l.invariant.rest ∙ c.in-Some.ensures.steps.0) in
    let w = c.in-Some.handle.promise.worker.value in
    let at = slice_get-map _ handles (length l.ended.items) ∙ ap (option_map _) next.0 in
    let P : List RingId → Type 0 = λ v. slice_get v w.port.ring.input ≡ Some w.port.ring in
    let L : StationValue → Type 0 = λ s. IsLawfulStation s.history s.inputs in
    let finished = c.join-port.result.1 in
    let rings = ap (λ (s : StationValue). rings_of s.inputs) l.invariant.station in
    let here = of_work g.R.Source.remaining g.R.Source.failures (rings_of l.station.inputs) w c.join-port.result.0 finished c.join-port.result.2 c.join-port.ensures
    (subst P (sym rings) (c.requires.station (length l.ended.items) w at)) in
    omega (arith, ring_within l.station finished.port.ring.input finished.port.ring (subst L (sym l.invariant.station) c.known.ensures.lawful) here, c.input.ensures)

pub settle-requires : goal.settle-requires
settle-requires g c =
    let l = c.loop-handle in
    let handles = c.args.handles.items in
    let next = drop_next (length l.ended.items) handles _ _ (l.invariant.rest ∙ c.in-Some.ensures.steps.0) in
    let w = c.in-Some.handle.promise.worker.value in
    let at = slice_get-map _ handles (length l.ended.items) ∙ ap (option_map _) next.0 in
    let P : List RingId → Type 0 = λ v. slice_get v w.port.ring.input ≡ Some w.port.ring in
    let rings = ap (λ (s : StationValue). rings_of s.inputs) l.invariant.station in
    of_work g.R.Source.remaining g.R.Source.failures (rings_of l.station.inputs) w c.join-port.result.0 c.join-port.result.1 c.join-port.result.2 c.join-port.ensures
    (subst P (sym rings) (c.requires.station (length l.ended.items) w at))

pub loop-handle-preserved : goal.loop-handle-preserved
loop-handle-preserved g c =
    let l = c.loop-handle in
    let handles = c.args.handles.items in
    let new = c.push.new.self.items in
    let at = l.invariant.rest ∙ c.in-Some.ensures.steps.0 in
    let next = drop_next (length l.ended.items) handles _ _ at in
    let finished = c.join-port.result.1 in
    let left : Ended _ = record { report = c.join-port.result.0; is_closed = c.is_closed-is_closed.result; lent = (c.join-port.result.2, c.join-port.result.3.given) } in
    let grown : new ≡ l.ended.items ++ left ∷ [] = search rules in
    let S : StationValue → Type 0 = λ s. IsSettled s finished c.settle.result in
    let closed = c.is_closed-is_closed.ensures ∙ ap (λ n. is_closed n l.station.history.events) c.input.ensures ∙ ap (λ (s : StationValue). is_closed finished.port.ring.input s.history.events) l.invariant.station in
    record {
      station = c.settle.ensures.same ∙ l.invariant.station;
      ended = ended_next _ g.R.Source.remaining g.R.Source.failures c.args.station.now handles l.ended.items new c.in-Some.handle left l.invariant.ended next.0
          (record { finished = finished; work = c.join-port.ensures; closed_is = closed; settled = c.settle.result; settles = subst S l.invariant.station c.settle.ensures.settled })
          grown;
      rest = rest_next l.ended.items new left handles _ _ grown at;
      left = (let size = ap length grown in let more = length-append l.ended.items (left ∷ []) in omega (arith, l.invariant.left, c.in-Some.ensures.steps.1, size, more));
      room = omega (arith, l.invariant.room, c.push.ensures.capacity);
    }
