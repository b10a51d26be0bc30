use Rattle.std.proofs.Common.{◌∙◌, ℕ, List, ap}
use Rattle.std.specs.Prelude.{option_map, slice_get}
use Rattle.schedule.specs.Schedule.{SpanValue, ScheduleValue, slot_time}
use Rattle.schedule.proofs.TimeLaws.{time_read}
use Rattle.schedule.proofs.schedule.Schedule.switch_time.Goals as goal

pub returns : goal.returns
returns c =
    let number = c.args.number in
    c.time_at.ensures ∙ ap (λ (ts : List ℕ). slice_get ts number) (c.deref.ensures.value ∙ c.self.invariant.2)
    ∙ time_read c.self.inside.first c.self.inside.later.items number
    ∙ ap (λ (s : ScheduleValue). option_map (λ (w : SpanValue). slot_time s.first w.slot) (slice_get s.later number)) c.self.view_is
