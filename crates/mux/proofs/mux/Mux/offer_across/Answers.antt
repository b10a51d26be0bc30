use Rattle.std.proofs.Common.{◌<◌, true, sym, ap, ◌∙◌, arith, rules}
use Rattle.std.specs.Bool.{if◌then◌else◌}
use Rattle.std.proofs.lemmas.Bool.{le-ltb, ltb-true, not-true, not-false}
use Rattle.schedule.specs.Schedule.{number_for}
use Rattle.schedule.proofs.ForceLaws.{number_within}
use Rattle.mux.specs.declared.event.Event.TheVariants as events
use Rattle.mux.specs.declared.input_state.InputState.{InputState}
use Rattle.mux.specs.History.{History, with_event, in_force, last_stamp}
use Rattle.mux.proofs.Plans.{contains_of, stream_in}
use Rattle.mux.proofs.Refusals.{mapped_at, none_or_full, is_refused_early, is_unrefused}
use Rattle.mux.proofs.Queues.{gone_not_full}
use Rattle.mux.proofs.mux.Mux.offer_across.Goals as goal

pub state-requires : goal.state-requires
state-requires c = (stream_in c.args.self.now.run.schedule c.args.place c.args.stream c.known.ensures.schedule c.requires.place).input

pub note_early-requires : goal.note_early-requires
note_early-requires c =
    let s = c.args.self.now.run.schedule in
    let h = c.args.self.now.events in
    let st = c.args.stream in
    let stamp = c.args.item.now.stamp in
    let below : in_force h < number_for s stamp = ltb-true (in_force h) (number_for s stamp) (sym c.is_early.ensures ∙ c.if-is_early.true) in
    record {
      may = record {
        input = (stream_in s c.args.place st c.known.ensures.schedule c.requires.place).input;
        open_ = c.requires.open_;
        later = omega (arith, below, number_within s stamp);
        first = sym (ap (λ (x : InputState). x.early_noted) c.state.ensures) ∙ not-true c.state.result.early_noted c.if-not-state.true;
      };
    }

pub returns-else-not-state-clause-answer : goal.returns-else-not-state-clause-answer
returns-else-not-state-clause-answer c =
    let s = c.args.self.now.run.schedule in
    let h = c.args.self.now.events in
    let st = c.args.stream in
    let item = c.args.item.now in
    let noted = ap (λ (x : InputState). x.early_noted) c.state.ensures in
    let after : History = with_event c.args.self.now (events.Early st.input) in (
      is_refused_early s h st.input item c.requires.open_ (mapped_at s st.input item c.args.place st c.known.ensures.schedule c.requires.place c.requires.mapped)
          (le-ltb item.stamp (last_stamp st.input h) c.requires.order) (sym c.is_early.ensures ∙ c.if-is_early.true),
      ap (λ b. if◌then◌else◌ b c.args.self.now after) (sym (sym noted ∙ not-false c.state.result.early_noted c.if-not-state.false)),
    )

pub returns-then-not-state-clause-answer : goal.returns-then-not-state-clause-answer
returns-then-not-state-clause-answer c =
    let s = c.args.self.now.run.schedule in
    let h = c.args.self.now.events in
    let st = c.args.stream in
    let item = c.args.item.now in
    let noted = ap (λ (x : InputState). x.early_noted) c.state.ensures in
    let after : History = with_event c.args.self.now (events.Early st.input) in (
      is_refused_early s h st.input item c.requires.open_ (mapped_at s st.input item c.args.place st c.known.ensures.schedule c.requires.place c.requires.mapped)
          (le-ltb item.stamp (last_stamp st.input h) c.requires.order) (sym c.is_early.ensures ∙ c.if-is_early.true),
      c.note_early.ensures ∙ ap (λ b. if◌then◌else◌ b c.args.self.now after) (sym (sym noted ∙ not-true c.state.result.early_noted c.if-not-state.true)),
    )

pub offer_queued-requires-clause-refusal : goal.offer_queued-requires-clause-refusal
offer_queued-requires-clause-refusal c =
    let s = c.args.self.now.run.schedule in
    let h = c.args.self.now.events in
    let st = c.args.stream in
    let item = c.args.item.now in
    none_or_full s h st.input item c.requires.open_ (mapped_at s st.input item c.args.place st c.known.ensures.schedule c.requires.place c.requires.mapped)
    (le-ltb item.stamp (last_stamp st.input h) c.requires.order) (sym c.is_early.ensures ∙ c.if-is_early.false)

pub drop_late-requires-clause-stream : goal.drop_late-requires-clause-stream
drop_late-requires-clause-stream c = contains_of c.args.self.now.run.schedule c.args.place c.args.stream c.requires.place

pub drop_late-requires-clause-may : goal.drop_late-requires-clause-may
drop_late-requires-clause-may c =
    let s = c.args.self.now.run.schedule in
    let h = c.args.self.now.events in
    let st = c.args.stream in
    let item = c.args.item.now in
    let ok = c.known.ensures.schedule in
    record {
      input = (stream_in s c.args.place st ok c.requires.place).input;
      packet = search rules;
      unrefused = is_unrefused s h st.input item c.requires.open_ (mapped_at s st.input item c.args.place st ok c.requires.place c.requires.mapped)
          (le-ltb item.stamp (last_stamp st.input h) c.requires.order) (sym c.is_early.ensures ∙ c.if-is_early.false)
          (gone_not_full s h st.input item c.args.place st ok c.requires.place c.requires.mapped (sym c.is_in_force.ensures ∙ c.if-is_in_force.false));
    }

pub returns-clause-answer : goal.returns-clause-answer
returns-clause-answer c =
    let s = c.args.self.now.run.schedule in
    let h = c.args.self.now.events in
    let st = c.args.stream in
    let item = c.args.item.now in
    let ok = c.known.ensures.schedule in (
      is_unrefused s h st.input item c.requires.open_ (mapped_at s st.input item c.args.place st ok c.requires.place c.requires.mapped)
          (le-ltb item.stamp (last_stamp st.input h) c.requires.order) (sym c.is_early.ensures ∙ c.if-is_early.false)
          (gone_not_full s h st.input item c.args.place st ok c.requires.place c.requires.mapped (sym c.is_in_force.ensures ∙ c.if-is_in_force.false)),
      c.drop_late.ensures,
    )
