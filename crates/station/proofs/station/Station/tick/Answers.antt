use Rattle.std.proofs.Common.{ap, sym, ◌∙◌}
use Rattle.mux.specs.History.{Run}
use Rattle.station.specs.Stations.{StationValue, rings_of}
use Rattle.station.proofs.StationLaws.{lawful_with, rings_stay}
use Rattle.station.proofs.station.Station.tick.Goals as goal

pub invariant_of-self : goal.invariant_of-self
invariant_of-self c = (
  lawful_with c.move_all.new.mux c.slot.new.self c.slot.result c.move_all.new.entries.items c.slot.ensures.answer c.move_all.ensures.lawful,
  c.self.invariant.1 ∙ ap (λ (r : Run). r.schedule.first.request.ring) (sym (c.slot.ensures.run ∙ c.move_all.ensures.run)),
)

pub returns-clause-rings : goal.returns-clause-rings
returns-clause-rings c =
    rings_stay 0 c.self.inside.ring c.self.inside.mux c.self.inside.entries.items c.move_all.new.mux c.move_all.new.entries.items c.move_all.ensures.moves
    ∙ ap (λ (s : StationValue). rings_of s.inputs) c.self.view_is
