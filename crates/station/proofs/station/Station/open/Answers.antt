use Rattle.std.proofs.Common.{rules, ◌≡◌, List, length, ap, sym, subst, ◌∙◌}
use Rattle.mux.specs.Lawful.{input_count}
use Rattle.std.proofs.lemmas.List.{length-map}
use Rattle.request.specs.Request.{InputValue, input_value}
use Rattle.plan.specs.Build.{PlanValue}
use Rattle.mux.specs.History.{History}
use Rattle.station.specs.Stations.{Input, IsLawfulStation}
use Rattle.station.proofs.OpeningLaws.{opened_lawful, is_opened}
use Rattle.station.proofs.station.Station.open.Goals as goal

pub invariant_of-result : goal.invariant_of-result
invariant_of-result c =
    let xs = c.inputs.result.now in
    let s = c.args.schedule in
    let count : length xs ≡ input_count s = sym (length-map xs input_value) ∙ ap (λ (v : List InputValue). length v) c.inputs.ensures ∙ ap (λ (p : PlanValue). length p.request.inputs) c.plan-plan.ensures in
    let ring : c.ring-ring.result ≡ s.first.request.ring = search rules in
    let lawful = opened_lawful s c.args.slots (length xs) c.in_ok-ports.ports.items c.in_ok-ports.ends.items c.in_ok-ports.ensures count in (
      subst (λ (z : History × List Input). IsLawfulStation z.0 z.1) (λ k. (sym c.in_ok-mux.ensures k, sym c.in_ok-entries.ensures k)) lawful,
      ring ∙ ap (λ (h : History). h.run.schedule.first.request.ring) (sym c.in_ok-mux.ensures),
    )

pub returns : goal.returns
returns c =
    let xs = c.inputs.result.now in
    let s = c.args.schedule in
    let count : length xs ≡ input_count s = sym (length-map xs input_value) ∙ ap (λ (v : List InputValue). length v) c.inputs.ensures ∙ ap (λ (p : PlanValue). length p.request.inputs) c.plan-plan.ensures in
    is_opened s c.args.slots (length xs) c.in_ok-ports.ports.items c.in_ok-ports.ends.items c.in_ok-entries.entries.items c.in_ok-mux.mux c.in_ok-ports.ensures count c.in_ok-entries.ensures c.in_ok-mux.ensures
