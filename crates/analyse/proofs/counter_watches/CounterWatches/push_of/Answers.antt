use Rattle.std.proofs.Common.{◌≡◌, ℕ, List, [], ◌∷◌, ◌++◌, length, get_or, Option, ap, sym, ◌∙◌}
use Rattle.std.specs.Prelude.{not}
use Rattle.tspkt.specs.Counters.{lawful_of}
use Rattle.tspkt.specs.Packet.{pid_of}
use Rattle.analyse.specs.Faults.{last_is_lawful}
use Rattle.analyse.specs.CounterWatching.{CounterState}
use Rattle.analyse.proofs.CountersLaws.{bad_null, bad_now}
use Rattle.analyse.proofs.counter_watches.CounterWatches.push_of.Goals as goal

pub returns-then-pid-eq-NULL_PID-clause-bad : goal.returns-then-pid-eq-NULL_PID-clause-bad
returns-then-pid-eq-NULL_PID-clause-bad c slots slot s h = bad_null slots slot h.1 (ap pid_of (sym h.0) ∙ sym c.requires.of_packet ∙ c.if-pid-eq-NULL_PID.true)

pub returns-clause-bad : goal.returns-clause-bad
returns-clause-bad c slots slot s h =
    let watch = c.index_mut.result.now in
    let at : watch ≡ get_or c.args.self.now c.args.pid watch =
    c.index_mut.ensures.value ∙ ap (λ (k : ℕ). get_or c.self.inside.watches.items k watch) c.from.ensures
    ∙ ap (λ (l : List (Option CounterState)). get_or l c.args.pid watch) c.self.view_is in
    bad_now c.args.self.now watch slots slot c.args.pid c.see_packet.result s h.1 (ap pid_of (sym h.0) ∙ sym c.requires.of_packet)
    c.if-pid-eq-NULL_PID.false c.requires.fits
    (ap (λ (l : List (Option CounterState)). length l) (sym c.self.view_is) ∙ c.self.invariant) at
    (λ packets seen. c.see_packet.ensures.bad packets seen ∙ ap (λ (x : List ℕ). not (last_is_lawful (lawful_of (packets ++ x ∷ [])))) h.0)
