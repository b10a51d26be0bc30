use Rattle.std.proofs.Common.{refl, ap, ◌∙◌}
use Rattle.mux.specs.History.{History, is_closed}
use Rattle.inlets.specs.declared.taking.Taking.{Taking}
use Rattle.inlets.specs.Stepping.{HasTurn}
use Rattle.inlets.proofs.StepLaws.{unready_open, not_waiting, had_turn}
use Rattle.inlets.proofs.stepping.take_step.Goals as goal

pub take-requires-clause-open : goal.take-requires-clause-open
take-requires-clause-open g c =
    let h = c.args.mux.now in
    let i = c.in-NotReady.input in
    let is = c.in-NotReady.ensures.answer in
    ap (λ (v : History). is_closed i v.events) is.0 ∙ unready_open h.run.schedule i h.events is.3.unready

pub returns-in-Sent-clause-steps : goal.returns-in-Sent-clause-steps
returns-in-Sent-clause-steps g c = (c.in-Sent.ensures.answer, refl)

pub returns-in-Switched-clause-steps : goal.returns-in-Switched-clause-steps
returns-in-Switched-clause-steps g c = (c.in-Switched.ensures.answer, refl)

pub returns-in-Took-clause-steps : goal.returns-in-Took-clause-steps
returns-in-Took-clause-steps g c =
    let i = c.in-NotReady.input in (
      i,
      c.take.result,
      not_waiting c.take.result c.in-Took.is,
      had_turn g.I.Inlet.shown g.I.Inlet.IsOver g.I.Inlet.IsWaiting g.I.Inlet.looks g.I.Inlet.released i c.args.mux.now c.send_next.new.self c.args.entries.now.items c.index_mut.result.now c.take.new.entry c.take.result c.take.new.mux
          c.in-NotReady.ensures.answer c.requires.entries c.index_mut.ensures.value c.take.ensures.turns,
    )

pub returns-in-Waits-clause-steps : goal.returns-in-Waits-clause-steps
returns-in-Waits-clause-steps g c =
    let i = c.in-NotReady.input in
    had_turn g.I.Inlet.shown g.I.Inlet.IsOver g.I.Inlet.IsWaiting g.I.Inlet.looks g.I.Inlet.released i c.args.mux.now c.send_next.new.self c.args.entries.now.items c.index_mut.result.now c.take.new.entry _ c.take.new.mux
    c.in-NotReady.ensures.answer c.requires.entries c.index_mut.ensures.value c.in-Waits.ensures.turns

pub returns-in-Done-clause-steps : goal.returns-in-Done-clause-steps
returns-in-Done-clause-steps g c = (c.in-Done.ensures.answer, refl)

pub returns-in-RunFull-clause-steps : goal.returns-in-RunFull-clause-steps
returns-in-RunFull-clause-steps g c = (c.in-RunFull.ensures.answer, refl)
