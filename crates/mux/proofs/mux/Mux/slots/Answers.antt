use Rattle.std.proofs.Common.{ap, ◌∙◌}
use Rattle.mux.specs.SlotClock.{ClockValue}
use Rattle.mux.specs.History.{History, slots}
use Rattle.mux.proofs.mux.Mux.slots.Goals as goal

pub returns : goal.returns
returns c =
    c.slot.ensures ∙ ap (λ (x : ClockValue). x.slot) c.self.invariant.0.clock_is ∙ ap (λ (x : History). slots x.events) c.self.view_is
