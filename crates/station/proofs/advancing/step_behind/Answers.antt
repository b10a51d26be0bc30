use Rattle.std.proofs.Common.{ℕ, List, refl, ap, sym, subst}
use Rattle.std.specs.declared.alloc.Global.{Global}
use Rattle.std.specs.declared.vec.Vec.{Vec}
use Rattle.mux.specs.declared.sending.Sending.TheVariants as sending
use Rattle.station.specs.Stations.{Input, IsLawfulStation}
use Rattle.station.proofs.StationLaws.{lawful_sent}
use Rattle.station.proofs.AdvancingLaws.{stepped, lawful_stepped, lawful_turned, waits_on, stuck_other}
use Rattle.station.proofs.advancing.step_behind.Goals as goal

pub returns-in-Sent-clause-step : goal.returns-in-Sent-clause-step
returns-in-Sent-clause-step c =
    stepped c.args.mux.now c.take_step.new.mux c.args.entries.now.items c.take_step.new.entries.items c.take_step.result c.args.sent.now.items c.take_step.new.out.items c.in-Sent.is c.requires.lawful c.take_step.ensures.steps c.take_step.ensures.sent
    (λ other. ap (λ (v : Vec (List ℕ) Global). v.items) (c.take_step.ensures.unsent other))

pub returns-in-Sent-clause-lawful : goal.returns-in-Sent-clause-lawful
returns-in-Sent-clause-lawful c =
    lawful_stepped c.args.mux.now c.take_step.new.mux c.args.entries.now.items c.take_step.new.entries.items c.take_step.result c.in-Sent.is c.take_step.ensures.run c.requires.lawful c.take_step.ensures.steps

pub returns-in-Waits-clause-step : goal.returns-in-Waits-clause-step
returns-in-Waits-clause-step c =
    let is = waits_on c.args.mux.now c.take_step.new.mux c.args.entries.now.items c.take_step.new.entries.items c.in-Waits.input c.requires.lawful c.in-Waits.ensures.steps in
    (is.0, is.1, ap (λ (v : Vec (List ℕ) Global). v.items) (c.in-Waits.ensures.unsent (λ e. cc)), is.2)

pub returns-in-Waits-clause-lawful : goal.returns-in-Waits-clause-lawful
returns-in-Waits-clause-lawful c =
    lawful_turned c.args.mux.now c.take_step.new.mux c.args.entries.now.items c.take_step.new.entries.items c.in-Waits.input _ c.take_step.ensures.run c.requires.lawful c.in-Waits.ensures.steps

pub returns-in-Done-clause-step : goal.returns-in-Done-clause-step
returns-in-Done-clause-step c =
    let is = c.in-Done.ensures.steps in
    (is.0.0, is.1, ap (λ (v : Vec (List ℕ) Global). v.items) (c.in-Done.ensures.unsent (λ e. cc)), stuck_other c.args.mux.now c.take_step.new.mux c.take_step.new.entries.items sending.Done is.0 is.0.0 (λ i e. cc))

pub returns-in-Done-clause-lawful : goal.returns-in-Done-clause-lawful
returns-in-Done-clause-lawful c =
    let is = c.in-Done.ensures.steps in
    let P : List Input → Type 0 = IsLawfulStation c.take_step.new.mux in
    subst P (sym is.1) (lawful_sent c.args.mux.now c.take_step.new.mux sending.Done c.args.entries.now.items is.0 c.requires.lawful)

pub returns-in-RunFull-clause-step : goal.returns-in-RunFull-clause-step
returns-in-RunFull-clause-step c =
    let is = c.in-RunFull.ensures.steps in
    (is.0.0, is.1, ap (λ (v : Vec (List ℕ) Global). v.items) (c.in-RunFull.ensures.unsent (λ e. cc)), stuck_other c.args.mux.now c.take_step.new.mux c.take_step.new.entries.items sending.RunFull is.0 is.0.0 (λ i e. cc))

pub returns-in-RunFull-clause-lawful : goal.returns-in-RunFull-clause-lawful
returns-in-RunFull-clause-lawful c =
    let is = c.in-RunFull.ensures.steps in
    let P : List Input → Type 0 = IsLawfulStation c.take_step.new.mux in
    subst P (sym is.1) (lawful_sent c.args.mux.now c.take_step.new.mux sending.RunFull c.args.entries.now.items is.0 c.requires.lawful)
