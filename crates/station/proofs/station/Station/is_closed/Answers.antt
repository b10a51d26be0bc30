use Rattle.std.proofs.Common.{rules, ◌≡◌, ◌<◌, length, get_or, refl, ap, ◌∙◌, arith}
use Rattle.mux.specs.Lawful.{input_count}
use Rattle.std.proofs.lemmas.Option.{slice_get_read}
use Rattle.mux.specs.History.{is_closed}
use Rattle.station.specs.Stations.{StationValue}
use Rattle.station.proofs.station.Station.is_closed.Goals as goal

pub returns : goal.returns
returns c =
    let x = c.index.result.now in
    let xs = c.self.inside.entries.items in
    let i = c.args.input in
    let is : x ≡ get_or xs i x = search rules in
    let inputs = ap (λ (s : StationValue). input_count s.history.run.schedule) c.self.view_is in
    let within : i < length xs = omega (arith, c.requires, c.self.invariant.0.count, inputs) in
    let at = slice_get_read xs (length xs) i x refl within is in
    (c.self.invariant.0.each i x at).closed ∙ ap (λ (s : StationValue). is_closed i s.history.events) c.self.view_is
