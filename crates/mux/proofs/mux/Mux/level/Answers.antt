use Rattle.std.proofs.Common.{ℕ, ◌≡◌, ◌<◌, List, length, get_or, Option, Some, None, sym, ap, ◌∙◌, subst, arith}
use Rattle.std.specs.Prelude.{option_and_then}
use Rattle.std.specs.List.{slice_get}
use Rattle.std.proofs.lemmas.Option.{same_Some, slice_get_within, slice_get-get_or}
use Rattle.request.specs.declared.stream.Stream.{Stream}
use Rattle.schedule.specs.Schedule.{ScheduleValue, plan_at}
use Rattle.schedule.specs.Streams.{all_streams, place_of}
use Rattle.mux.specs.declared.event.Event.{Event}
use Rattle.schedule.specs.Laws.{IsMultiplexSchedule}
use Rattle.mux.specs.History.{History, in_force, plan_in_force}
use Rattle.mux.specs.Lawful.{IsLawful}
use Rattle.mux.specs.Headline.{IsLevelOf}
use Rattle.mux.proofs.Plans.{IsAt, placed}
use Rattle.mux.proofs.Force.{force_within}
use Rattle.mux.proofs.BucketSteps.{level_is}
use Rattle.mux.proofs.mux.Mux.level.Goals as goal

-- the place that is told is that of the stream
told_place : (s : ScheduleValue) (h : List Event) (number k : ℕ) (st : Stream) (o : Option ℕ) → IsMultiplexSchedule s → IsLawful s h → number ≡ in_force h → slice_get (plan_in_force s h).request.streams k ≡ Some st
    → o ≡ option_and_then (λ (x : Stream). place_of (all_streams s) x.output_pid) (slice_get (plan_at s number).request.streams k) → (place : ℕ) × IsAt s place st × (o ≡ Some place)
told_place s h number k st o ok law is there e =
    let x = placed s (in_force h) k st ok (force_within s h ok law) there in
    (x.place, x.at, e ∙ ap (λ n. option_and_then (λ (y : Stream). place_of (all_streams s) y.output_pid) (slice_get (plan_at s n).request.streams k)) is ∙ x.told)

pub bucket-requires : goal.bucket-requires
bucket-requires c =
    let s = c.self.inside.schedule in
    let h = c.self.inside.past in
    let k = c.self.invariant.0.agrees in
    let none : Stream = record { input = 0; pid = 0; output_pid = 0; leak = 0 } in
    let streams = (plan_in_force s h).request.streams in
    let number = c.in_force.ensures.value ∙ sym (ap (λ (x : History). in_force x.events) c.self.view_is) in
    let l : c.args.stream < length streams = omega (arith, c.requires, ap (λ (x : History). length (plan_in_force x.run.schedule x.events).request.streams) c.self.view_is) in
    let st = get_or streams c.args.stream none in
    let f = told_place s h c.in_force.result c.args.stream st c.place.result k.schedule k.lawful number (slice_get-get_or streams c.args.stream none l) c.place.ensures in
    let same : f.0 ≡ c.in-Some.place = same_Some _ _ (sym f.2 ∙ c.in-Some.is) in
    omega (arith, same, slice_get_within (all_streams s) f.0 st f.1, c.self.invariant.0.buckets_are.count)

pub unreachable-requires : goal.unreachable-requires
unreachable-requires c =
    let s = c.self.inside.schedule in
    let h = c.self.inside.past in
    let k = c.self.invariant.0.agrees in
    let none : Stream = record { input = 0; pid = 0; output_pid = 0; leak = 0 } in
    let streams = (plan_in_force s h).request.streams in
    let number = c.in_force.ensures.value ∙ sym (ap (λ (x : History). in_force x.events) c.self.view_is) in
    let l : c.args.stream < length streams = omega (arith, c.requires, ap (λ (x : History). length (plan_in_force x.run.schedule x.events).request.streams) c.self.view_is) in
    let st = get_or streams c.args.stream none in
    let f = told_place s h c.in_force.result c.args.stream st c.place.result k.schedule k.lawful number (slice_get-get_or streams c.args.stream none l) c.place.ensures in
    let bad : Some f.0 ≡ None = sym f.2 ∙ c.in-None.is in
    cc

pub returns : goal.returns
returns c st there =
    let s = c.self.inside.schedule in
    let h = c.self.inside.past in
    let k = c.self.invariant.0.agrees in
    let number = c.in_force.ensures.value ∙ sym (ap (λ (x : History). in_force x.events) c.self.view_is) in
    let here : slice_get (plan_in_force s h).request.streams c.args.stream ≡ Some st = ap (λ (x : History). slice_get (plan_in_force x.run.schedule x.events).request.streams c.args.stream) c.self.view_is ∙ there in
    let f = told_place s h c.in_force.result c.args.stream st c.place.result k.schedule k.lawful number here c.place.ensures in
    let same : f.0 ≡ c.in-Some.place = same_Some _ _ (sym f.2 ∙ c.in-Some.is) in
    let at = subst (λ n. IsAt s n st) same f.1 in
    let P : ℕ → Type 0 = IsLevelOf s h st in
    let R : History → Type 0 = λ x. IsLevelOf x.run.schedule x.events st c.level.result in
    subst R c.self.view_is (subst P (sym c.level.ensures.value) (level_is s h c.self.inside.progress.buckets c.in-Some.place st c.bucket.result c.self.invariant.0.buckets_are at c.bucket.ensures))
