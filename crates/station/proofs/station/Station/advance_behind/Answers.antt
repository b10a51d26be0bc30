use Rattle.std.proofs.Common.{◌≡◌, ◌++◌, List, ap, sym, ◌∙◌}
use Rattle.std.specs.Prelude.{ℕ}
use Rattle.std.proofs.lemmas.List.{append_cancel_left}
use Rattle.mux.specs.History.{Run, emitted}
use Rattle.station.specs.Stations.{StationValue, rings_of}
use Rattle.station.proofs.AdvancingLaws.{steps_rings, steps_emit}
use Rattle.station.proofs.station.Station.advance_behind.Goals as goal

pub invariant_of-self : goal.invariant_of-self
invariant_of-self c =
    let a = c.advance_behind.ensures.advances.advances in
    let out = c.advance_behind.ensures.advances.packets in
    let old : StationValue = record { history = c.self.inside.mux; inputs = c.self.inside.entries.items } in
    let new : StationValue = record { history = c.advance_behind.new.mux; inputs = c.advance_behind.new.entries.items } in
    let run = (steps_emit a.count old new out a.steps).run in
    (c.advance_behind.ensures.lawful, c.self.invariant.1 ∙ ap (λ (r : Run). r.schedule.first.request.ring) (sym run))

pub returns-clause-emitted : goal.returns-clause-emitted
returns-clause-emitted c packets is =
    let b = c.advance_behind.ensures.advances in
    let a = b.advances in
    let old : StationValue = record { history = c.self.inside.mux; inputs = c.self.inside.entries.items } in
    let new : StationValue = record { history = c.advance_behind.new.mux; inputs = c.advance_behind.new.entries.items } in
    let same : b.packets ≡ packets = append_cancel_left c.args.sent.now.items b.packets packets (sym b.behind ∙ is) in
    (steps_emit a.count old new b.packets a.steps).out
    ∙ (ap (λ (v : List (List ℕ)). emitted old.history.run.schedule old.history.events ++ v) same
    ∙ ap (λ (s : StationValue). emitted s.history.run.schedule s.history.events ++ packets) c.self.view_is)

pub returns-clause-rings : goal.returns-clause-rings
returns-clause-rings c =
    let b = c.advance_behind.ensures.advances in
    let a = b.advances in
    let old : StationValue = record { history = c.self.inside.mux; inputs = c.self.inside.entries.items } in
    let new : StationValue = record { history = c.advance_behind.new.mux; inputs = c.advance_behind.new.entries.items } in
    steps_rings a.count old new b.packets a.steps ∙ ap (λ (s : StationValue). rings_of s.inputs) c.self.view_is

pub returns-clause-run : goal.returns-clause-run
returns-clause-run c =
    let b = c.advance_behind.ensures.advances in
    let a = b.advances in
    let old : StationValue = record { history = c.self.inside.mux; inputs = c.self.inside.entries.items } in
    let new : StationValue = record { history = c.advance_behind.new.mux; inputs = c.advance_behind.new.entries.items } in
    (steps_emit a.count old new b.packets a.steps).run ∙ ap (λ (s : StationValue). s.history.run) c.self.view_is
