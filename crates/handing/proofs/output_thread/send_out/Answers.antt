use Rattle.std.proofs.Common.{rules, ap, sym, subst, ◌∙◌}
use Rattle.relay.specs.Relays.{SenderValue}
use Rattle.outlet.proofs.SendingLaws.{on_err_always}
use Rattle.handing.specs.Outputs.{HasWritten}
use Rattle.handing.specs.declared.output_worker.OutputWorker.{OutputWorker}
use Rattle.handing.proofs.HandingLaws.{all_some, received_some, received_all, received_none, one_relay, is_driven, is_broken}
use Rattle.handing.proofs.output_thread.send_out.Goals as goal

pub left-requires : goal.left-requires
left-requires g c =
    let M = g.W.Sink.contents in
    let F = g.W.Sink.failures in
    let done = c.join-receiver.result in
    let H : OutputWorker _ → Type 0 = λ v. HasWritten M F v done in
    let written = subst H c.in-Ok.ensures.started.1 c.join-receiver.ensures in
    one_relay c.args.station.now c.drive-finished.new.station c.in-Ok.sender.relay c.drive-finished.result done.receiver c.drive-finished.ensures
    (written.relay ∙ (c.requires.relay.relay ∙ sym (ap (λ (p : SenderValue). p.relay) c.in-Ok.ensures.started.0)))

pub returns-in-Ok : goal.returns-in-Ok
returns-in-Ok g c =
    let M = g.W.Sink.contents in
    let F = g.W.Sink.failures in
    let x = c.args.station.now in
    let y = c.drive-finished.new.station in
    let done = c.join-receiver.result in
    let H : OutputWorker _ → Type 0 = λ v. HasWritten M F v done in
    let written = subst H c.in-Ok.ensures.started.1 c.join-receiver.ensures in
    record {
      driven = is_driven M F x y c.args.passage.receiver c.args.outlet done.receiver done.outlet done.result written c.requires.relay.unreceived
          (received_all x y c.in-Ok.sender.relay c.drive-finished.result done.receiver c.left.result c.drive-finished.ensures c.left.ensures.left);
      broken = on_err_always done.result
          (is_broken M F x y c.args.passage.receiver c.args.outlet done.receiver done.outlet done.result written c.requires.relay.unreceived
          (received_some x y c.in-Ok.sender.relay c.drive-finished.result done.receiver c.left.result c.drive-finished.ensures c.left.ensures.left));
      unfailed = written.unfailed;
      memory = written.memory;
      failed = written.failed;
    }

-- no thread could be made, and nothing was sent
pub returns : goal.returns
returns g c =
    let s = c.args.station.now in
    let done = c.in-Err.written in
    let refused = c.in-Err.ensures.refused in
    record {
      driven = search rules;
      broken = on_err_always c.and.result
          (is_broken g.W.Sink.contents g.W.Sink.failures s s c.args.passage.receiver c.args.outlet done.receiver done.outlet done.result refused.1 c.requires.relay.unreceived
          (all_some s s done.receiver.received (received_none s c.args.passage.sender c.in-Err.finished done.receiver c.left-in-Err.result refused.0 c.requires.relay.unsent c.left-in-Err.ensures.left)));
      unfailed = search rules;
      memory = search rules;
      failed = search rules;
    }
