use Rattle.std.proofs.Common.{rules}
use Rattle.outlet.proofs.KnownLaws.{front_sent, appends_part}
use Rattle.outlet.proofs.writing.write_all.Goals as goal

pub returns-in-Err-clause-err : goal.returns-in-Err-clause-err
returns-in-Err-clause-err g c = front_sent _ _ _ c.args.bytes.now c.loop-done.done c.loop-done.invariant.sent c.in-Err.ensures.bytes

pub loop-done-preserved : goal.loop-done-preserved
loop-done-preserved g c = record {
  within = search rules;
  sent = appends_part _ _ _ c.args.bytes.now c.loop-done.done c.in-Ok.count c.loop-done.invariant.sent c.in-Ok.ensures.bytes;
  failures = search rules;
}
