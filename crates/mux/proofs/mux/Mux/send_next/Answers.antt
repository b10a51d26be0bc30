use Rattle.std.proofs.Common.{refl, sym, ◌∙◌}
use Rattle.mux.specs.History.{emitted, packet_behind}
use Rattle.mux.proofs.mux.Mux.send_next.Goals as goal

pub switch-requires : goal.switch-requires
switch-requires g c = record { may = record { next = refl; due = sym c.is_switch_due.ensures ∙ c.if-is_switch_due.true; running = c.in_default.ensures.none.0.not_done } }

pub returns-then-is_switch_due-clause-answer : goal.returns-then-is_switch_due-clause-answer
returns-then-is_switch_due-clause-answer g c = (c.in_default.ensures.none.0, sym c.is_switch_due.ensures ∙ c.if-is_switch_due.true, c.switch.ensures)

pub send-requires-clause-ready : goal.send-requires-clause-ready
send-requires-clause-ready g c = c.in_default.ensures.none.1 (sym c.is_switch_due.ensures ∙ c.if-is_switch_due.false)

pub returns-clause-answer : goal.returns-clause-answer
returns-clause-answer g c = (c.in_default.ensures.none.0, (c.send.ensures.sent.0, c.send.ensures.sent.1, c.send.ensures.sent.2))

pub returns-clause-sent : goal.returns-clause-sent
returns-clause-sent g c = λ _.
    let s = c.send.ensures.sent in
    let h = c.args.self.now in
    record { packet = packet_behind h.run.schedule h.events (emitted h.run.schedule h.events) s.0; behind = s.3; slot = (c.in_default.ensures.none.0, (s.0, s.1, (s.2, refl))) }
