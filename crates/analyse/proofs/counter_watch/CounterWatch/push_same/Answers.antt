use Rattle.std.proofs.Common.{ap, ◌∙◌}
use Rattle.tspkt.specs.Counters.{is_copy}
use Rattle.analyse.specs.CounterWatching.{CounterState, is_next_lawful}
use Rattle.analyse.proofs.CounterLaws.{lawful_now, packets_more}
use Rattle.analyse.proofs.counter_watch.CounterWatch.push_same.Goals as goal

pub returns-clause-seen : goal.returns-clause-seen
returns-clause-seen c packets s =
    let e = c.is_copy-is_copy.ensures ∙ ap (λ (w : CounterState). is_copy w.last c.args.next.now) c.self.view_is in
    rw e (packets_more c.args.self.now packets c.args.next.now s)

pub returns-clause-lawful : goal.returns-clause-lawful
returns-clause-lawful c packets s =
    let e = c.is_copy-is_copy.ensures ∙ ap (λ (w : CounterState). is_copy w.last c.args.next.now) c.self.view_is in
    c.is_lawful-lawful.ensures ∙ ap (is_next_lawful c.args.self.now c.args.next.now) e ∙ lawful_now c.args.self.now packets c.args.next.now s
