use Rattle.std.proofs.Common.{◌≡◌, IsTrue, List, length, subst, sym, ap}
use Rattle.rate_meter.specs.declared.seen.Seen.{Seen}
use Rattle.rate_meter.specs.declared.pid_clock.PidClock.{PidClock}
use Rattle.rate_meter.specs.Meter.{ClocksValue, IsNoLonger, measured_of}
use Rattle.rate_meter.proofs.MeasuredLaws.{NoneLonger, none_longer_of_any}
use Rattle.rate_meter.proofs.clocks.Clocks.measured.Goals as goal

pub returns-clause-most : goal.returns-clause-most
returns-clause-most c = λ whole pid.
    let N : List PidClock → Type 0 = λ cs. NoneLonger cs (length cs) c.longest.result in
    let most : N c.self.inside.clocks.items = subst N c.deref.ensures.value c.longest.ensures.most in
    let seen : c.self.inside.past ≡ c.args.self.now.seen = ap (λ (v : ClocksValue). v.seen) c.self.view_is in
    let all : c.self.inside.is_whole ≡ c.args.self.now.is_whole = ap (λ (v : ClocksValue). v.is_whole) c.self.view_is in
    let G : List Seen → Type 0 = λ s. IsNoLonger (measured_of pid s) c.longest.result in
    subst G seen
    (none_longer_of_any c.self.inside.past pid c.self.inside.clocks.items c.longest.result c.self.invariant.each most
    (c.self.invariant.others (subst IsTrue (sym all) whole) pid))
