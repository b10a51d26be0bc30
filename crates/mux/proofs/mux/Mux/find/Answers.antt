use Rattle.std.proofs.Common.{◌≡◌, true, false, Some, ap, ◌∙◌, subst}
use Rattle.std.specs.Prelude.{IfSome, IfNone}
use Rattle.std.specs.List.{slice_get}
use Rattle.request.specs.declared.stream.Stream.{Stream}
use Rattle.schedule.specs.Streams.{all_streams, scheduled_place}
use Rattle.mux.specs.History.{History, is_mapped_to}
use Rattle.mux.specs.Lawful.{is_mapped}
use Rattle.mux.proofs.Refusals.{placed_some, placed_none}
use Rattle.mux.proofs.mux.Mux.find.Goals as goal

pub returns-clause-found : goal.returns-clause-found
returns-clause-found c =
    let R : History → Type 0 = λ h. IfSome c.find.result (λ place. (stream : Stream) × (slice_get (all_streams h.run.schedule) place ≡ Some stream) × (is_mapped_to h.run.schedule stream c.args.input c.args.item.now ≡ true)) in
    subst R c.self.view_is (placed_some c.self.inside.schedule c.self.invariant.0.agrees.schedule c.args.input c.args.item.now c.pid.result c.find.result (c.find.ensures ∙ ap (scheduled_place c.self.inside.schedule c.args.input c.pid.result) c.stamp.ensures) c.pid.ensures.value)

pub returns-clause-none : goal.returns-clause-none
returns-clause-none c =
    let R : History → Type 0 = λ h. IfNone c.find.result (is_mapped h.run.schedule c.args.input c.args.item.now ≡ false) in
    subst R c.self.view_is (placed_none c.self.inside.schedule c.self.invariant.0.agrees.schedule c.args.input c.args.item.now c.pid.result c.find.result (c.find.ensures ∙ ap (scheduled_place c.self.inside.schedule c.args.input c.pid.result) c.stamp.ensures) c.pid.ensures.value)
