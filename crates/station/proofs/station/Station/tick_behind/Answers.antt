use Rattle.std.proofs.Common.{◌++◌, ap, sym, ◌∙◌}
use Rattle.mux.specs.History.{Run, emitted}
use Rattle.station.specs.Stations.{StationValue, rings_of}
use Rattle.station.proofs.StationLaws.{lawful_sent, rings_stay}
use Rattle.station.proofs.TickLaws.{tick_emits}
use Rattle.station.proofs.station.Station.tick_behind.Goals as goal

pub invariant_of-self : goal.invariant_of-self
invariant_of-self g c = (
  lawful_sent c.move_all.new.mux c.send_next.new.self c.send_next.result c.move_all.new.entries.items c.send_next.ensures.answer c.move_all.ensures.lawful,
  c.self.invariant.1 ∙ ap (λ (r : Run). r.schedule.first.request.ring) (sym (c.send_next.ensures.run ∙ c.move_all.ensures.run)),
)

pub returns-clause-rings : goal.returns-clause-rings
returns-clause-rings g c =
    rings_stay 0 c.self.inside.ring c.self.inside.mux c.self.inside.entries.items c.move_all.new.mux c.move_all.new.entries.items c.move_all.ensures.moves
    ∙ ap (λ (s : StationValue). rings_of s.inputs) c.self.view_is

pub returns-clause-emitted : goal.returns-clause-emitted
returns-clause-emitted g c =
    let old : StationValue = record { history = c.self.inside.mux; inputs = c.self.inside.entries.items } in
    let new : StationValue = record { history = c.send_next.new.self; inputs = c.move_all.new.entries.items } in
    let is = tick_emits old c.move_all.new.mux c.send_next.result new c.self.inside.ring (g.O.Outgoing.packets c.args.out.now) (g.O.Outgoing.packets c.send_next.new.out) (g.O.Outgoing.room c.args.out.now) (g.O.Outgoing.room c.send_next.new.out) c.move_all.ensures.moves c.send_next.ensures.answer c.send_next.ensures.sent c.send_next.ensures.room
    (λ other. (ap g.O.Outgoing.packets (c.send_next.ensures.unsent other), ap g.O.Outgoing.room (c.send_next.ensures.unsent other))) in
    (is.0, is.1, is.2 ∙ ap (λ (s : StationValue). emitted s.history.run.schedule s.history.events ++ is.0) c.self.view_is, is.3)
