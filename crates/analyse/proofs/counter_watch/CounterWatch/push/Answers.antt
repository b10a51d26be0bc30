use Rattle.std.proofs.Common.{◌≡◌, false, ap, sym, ◌∙◌}
use Rattle.tspkt.specs.Counters.{is_copy}
use Rattle.tspkt.specs.Packet.{continuity_counter_of}
use Rattle.analyse.specs.CounterWatching.{CounterState, is_next_lawful}
use Rattle.analyse.proofs.CounterLaws.{lawful_now, packets_more, other_counter}
use Rattle.analyse.proofs.counter_watch.CounterWatch.push.Goals as goal

pub returns-clause-seen : goal.returns-clause-seen
returns-clause-seen c packets s =
    let last = ap (λ (w : CounterState). continuity_counter_of w.last) c.self.view_is in
    let e : is_copy c.args.self.now.last c.args.next.now ≡ false =
    other_counter c.args.self.now.last c.args.next.now (λ q. c.if-counter.false (c.counter.ensures.value ∙ last ∙ q ∙ sym c.counter-2.ensures.value)) in
    rw (← e) (packets_more c.args.self.now packets c.args.next.now s)

pub returns-clause-lawful : goal.returns-clause-lawful
returns-clause-lawful c packets s =
    let last = ap (λ (w : CounterState). continuity_counter_of w.last) c.self.view_is in
    let e : is_copy c.args.self.now.last c.args.next.now ≡ false =
    other_counter c.args.self.now.last c.args.next.now (λ q. c.if-counter.false (c.counter.ensures.value ∙ last ∙ q ∙ sym c.counter-2.ensures.value)) in
    c.is_lawful-lawful.ensures ∙ ap (is_next_lawful c.args.self.now c.args.next.now) (sym e) ∙ lawful_now c.args.self.now packets c.args.next.now s
