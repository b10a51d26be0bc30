use Rattle.std.proofs.Common.{◌∙◌, sym, rules}
use Rattle.worker.specs.declared.sender.Sender.{Sender}
use Rattle.worker.proofs.SendingLaws.{sends_gate, sends_found, sends_looked, sends_sends, unfailed_found, unfailed_reading}
use Rattle.worker.proofs.sender.Sender.send_all.Goals as goal

pub returns-then-not-send_held-clause-sent : goal.returns-then-not-send_held-clause-sent
returns-then-not-send_held-clause-sent g c =
    let M = g.R.Source.remaining in
    let F = g.R.Source.failures in
    let a = c.args.self.now in
    let l = c.loop.self in
    let looked : Sender _ _ = record l { reader = c.look.new.self } in
    let on = sends_sends M F a l looked c.loop.invariant.sent (sends_looked M F l c.look.new.self c.look.ensures.read c.look.ensures.source c.look.ensures.goes) in
    sends_sends M F a looked c.send_held.new.self on c.send_held.ensures.sent

pub loop-preserved-else-not-send_held : goal.loop-preserved-else-not-send_held
loop-preserved-else-not-send_held g c =
    let M = g.R.Source.remaining in
    let F = g.R.Source.failures in
    let a = c.args.self.now in
    let l = c.loop.self in
    let looked : Sender _ _ = record l { reader = c.look.new.self } in
    let on = sends_sends M F a l looked c.loop.invariant.sent (sends_looked M F l c.look.new.self c.look.ensures.read c.look.ensures.source c.look.ensures.goes) in
    record {
      sent = sends_sends M F a looked c.send_held.new.self on c.send_held.ensures.sent;
      stops = search rules;
      held = c.send_held.ensures.released c.if-not-send_held.false;
    }

pub returns-in-Over-clause-sent : goal.returns-in-Over-clause-sent
returns-in-Over-clause-sent g c =
    let M = g.R.Source.remaining in
    let F = g.R.Source.failures in
    let a = c.args.self.now in
    let l = c.loop.self in
    let looked : Sender _ _ = record l { reader = c.look.new.self } in
    sends_sends M F a l looked c.loop.invariant.sent (sends_looked M F l c.look.new.self c.look.ensures.read c.look.ensures.source c.look.ensures.goes)

pub returns-then-not-pass-clause-sent : goal.returns-then-not-pass-clause-sent
returns-then-not-pass-clause-sent g c =
    let M = g.R.Source.remaining in
    let F = g.R.Source.failures in
    let a = c.args.self.now in
    let l = c.loop.self in
    let looked : Sender _ _ = record l { reader = c.look.new.self } in
    let asked : Sender _ _ = record looked { gate = c.pass.new.self } in
    let on = sends_sends M F a l looked c.loop.invariant.sent (sends_looked M F l c.look.new.self c.look.ensures.read c.look.ensures.source c.look.ensures.goes) in
    sends_sends M F a looked asked on (sends_gate M F looked c.pass.new.self)

pub returns-then-is_err-clause-sent : goal.returns-then-is_err-clause-sent
returns-then-is_err-clause-sent g c =
    let M = g.R.Source.remaining in
    let F = g.R.Source.failures in
    let a = c.args.self.now in
    let l = c.loop.self in
    let looked : Sender _ _ = record l { reader = c.look.new.self } in
    let asked : Sender _ _ = record looked { gate = c.pass.new.self } in
    let found : Sender _ _ = record asked { reader = c.read.new.self } in
    let on = sends_sends M F a l looked c.loop.invariant.sent (sends_looked M F l c.look.new.self c.look.ensures.read c.look.ensures.source c.look.ensures.goes) in
    let ask = sends_sends M F a looked asked on (sends_gate M F looked c.pass.new.self) in
    sends_sends M F a asked found ask (sends_found M F asked c.read.new.self (c.read.ensures.read l.schedule) c.read.ensures.goes)

pub loop-preserved : goal.loop-preserved
loop-preserved g c =
    let M = g.R.Source.remaining in
    let F = g.R.Source.failures in
    let a = c.args.self.now in
    let l = c.loop.self in
    let looked : Sender _ _ = record l { reader = c.look.new.self } in
    let asked : Sender _ _ = record looked { gate = c.pass.new.self } in
    let found : Sender _ _ = record asked { reader = c.read.new.self } in
    let on = sends_sends M F a l looked c.loop.invariant.sent (sends_looked M F l c.look.new.self c.look.ensures.read c.look.ensures.source c.look.ensures.goes) in
    let ask = sends_sends M F a looked asked on (sends_gate M F looked c.pass.new.self) in
    record {
      sent = sends_sends M F a asked found ask (sends_found M F asked c.read.new.self (c.read.ensures.read l.schedule) c.read.ensures.goes);
      stops = search rules;
      held = c.read.ensures.held ∙ (c.look.ensures.more (search rules)).held;
    }

pub returns-then-not-send_held-clause-unfailed : goal.returns-then-not-send_held-clause-unfailed
returns-then-not-send_held-clause-unfailed g c e start sent failed =
    let l = c.loop.self in
    unfailed_found g.R.Source.remaining l c.look.new.self start (c.loop.invariant.sent.sent start sent) c.loop.invariant.held c.look.ensures.read c.look.ensures.goes.origin c.look.ensures.stopped
    (c.look.ensures.found _ c.in-Packet.is) (sym c.send_held.ensures.stopped ∙ failed)

pub returns-then-not-pass-clause-unfailed : goal.returns-then-not-pass-clause-unfailed
returns-then-not-pass-clause-unfailed g c e start sent failed =
    let l = c.loop.self in
    unfailed_reading g.R.Source.remaining l c.look.new.self start (c.loop.invariant.sent.sent start sent) c.look.ensures.read (c.look.ensures.more (search rules)).framer failed
