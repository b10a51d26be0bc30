use Rattle.outlet.specs.declared.outlet.Outlet.{Outlet}
use Rattle.handing.proofs.WritingLaws.{put_none, puts_flushed}
use Rattle.handing.proofs.output_worker.write_waiting.Goals as goal

pub returns-then-not-has_waited-clause-put : goal.returns-then-not-has_waited-clause-put
returns-then-not-has_waited-clause-put g c = put_none g.W.Sink.contents g.W.Sink.failures c.args.outlet.now tt

pub returns-clause-put : goal.returns-clause-put
returns-clause-put g c =
    let b : Outlet _ = record { output = c.flush.new.self; sink = c.flush.new.sink } in
    puts_flushed g.W.Sink.contents g.W.Sink.failures c.args.outlet.now b c.flush.result c.flush.ensures.stays c.flush.ensures.ok c.flush.ensures.begun c.flush.ensures.failures c.flush.ensures.failed
