use Rattle.std.proofs.Common.{◌≡◌, ◌<◌, ◌≤◌, ◌∙◌, ℕ, List, Option, length, ap, sym, subst, arith}
use Rattle.std.specs.Prelude.{vec_len, slice_get, option_and_then}
use Rattle.std.proofs.lemmas.Bool.{eqb-true}
use Rattle.schedule.specs.Schedule.{ScheduleValue, schedule_of, plan_at}
use Rattle.schedule.specs.Streams.{all_streams}
use Rattle.schedule.proofs.KeptLaws.{places_some}
use Rattle.schedule.proofs.PlaceLaws.{some_of, place_by, place_read, kept_at, stream_in_one}
use Rattle.schedule.proofs.schedule.Schedule.place.Goals as goal

pub returns-then-is_empty : goal.returns-then-is_empty
returns-then-is_empty c =
    let first = c.self.inside.first in
    let later = c.self.inside.later.items in
    let number = c.args.number in
    let stream = c.args.stream in
    let zero = eqb-true (vec_len c.self.inside.later) 0 (sym c.is_empty.ensures ∙ c.if-is_empty.true) in
    let none : length later ≡ 0 = omega (arith, zero, c.self.inside.later.ok.0) in
    let within : number ≤ length (schedule_of first later).later = subst (λ (s : ScheduleValue). number ≤ length s.later) (sym c.self.view_is) c.requires in
    c.number_in.ensures ∙ stream_in_one first later number stream none within
    ∙ ap (λ (s : ScheduleValue). place_by (all_streams s) (plan_at s number).request.streams stream) c.self.view_is

pub returns : goal.returns
returns c =
    let first = c.self.inside.first in
    let later = c.self.inside.later.items in
    let s : ScheduleValue = schedule_of first later in
    let number = c.args.number in
    let stream = c.args.stream in
    let more = some_of (vec_len c.self.inside.later) (sym c.is_empty.ensures ∙ c.if-is_empty.false) in
    let some : 0 < length later = omega (arith, more, c.self.inside.later.ok.0) in
    let within : number ≤ length s.later = subst (λ (x : ScheduleValue). number ≤ length x.later) (sym c.self.view_is) c.requires in
    let kept = kept_at (λ v. v.items) c.self.inside.places.items s number c.index.result.now (c.self.invariant.4 ∙ sym (places_some first later some)) within c.index.ensures in
    c.place_at.ensures ∙ ap (λ (l : List (Option ℕ)). option_and_then (λ (p : Option ℕ). p) (slice_get l stream)) (c.deref.ensures.value ∙ kept)
    ∙ place_read (all_streams s) (plan_at s number).request.streams stream
    ∙ ap (λ (x : ScheduleValue). place_by (all_streams x) (plan_at x number).request.streams stream) c.self.view_is
