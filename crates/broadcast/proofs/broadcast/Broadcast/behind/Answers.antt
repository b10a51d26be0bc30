use Rattle.std.proofs.Common.{length, ap, ◌∙◌}
use Rattle.marks.specs.Marks.{MarkValue}
use Rattle.broadcast.specs.Broadcasts.{BroadcastValue, behind_of}
use Rattle.broadcast.proofs.KeepingLaws.{count_within, count_behind}
use Rattle.broadcast.proofs.broadcast.Broadcast.behind.Goals as goal

pub overflow_sub-result : goal.overflow_sub-result
overflow_sub-result g c =
    let shown = c.count-2.ensures ∙ ap (λ (m : MarkValue). length m.packets) c.mark.ensures in
    count_within c.self.inside.station c.self.inside.feed.published c.slots.result c.count-2.result c.self.invariant.0.begins c.slots.ensures shown

pub returns : goal.returns
returns g c =
    let shown = c.count-2.ensures ∙ ap (λ (m : MarkValue). length m.packets) c.mark.ensures in
    count_behind c.self.inside.station c.self.inside.feed.published c.slots.result c.count-2.result c.slots.ensures shown
    ∙ ap (λ (b : BroadcastValue). length (behind_of b)) c.self.view_is
