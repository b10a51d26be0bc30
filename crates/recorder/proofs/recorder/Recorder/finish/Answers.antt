use Rattle.recorder.proofs.RecordingLaws.{on_ok, on_err, ends_whole, ends_within}
use Rattle.recorder.proofs.recorder.Recorder.finish.Goals as goal

pub returns-clause-ok : goal.returns-clause-ok
returns-clause-ok g c =
    let done = c.record_to-result in
    on_ok done.result (λ ok. ends_whole g.W.Sink.contents c.args.self done.new.self _ c.recorder.view_is done.ensures.given done.ensures.reads done.ensures.written c.args.mark ok.0 ok.1) done.ensures.ok

pub returns-clause-err : goal.returns-clause-err
returns-clause-err g c =
    let done = c.record_to-result in
    on_err done.result (ends_within g.W.Sink.contents c.args.self done.new.self _ c.recorder.view_is done.ensures.given done.ensures.reads done.ensures.written)
