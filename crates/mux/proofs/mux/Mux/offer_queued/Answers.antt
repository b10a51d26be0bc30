use Rattle.std.proofs.Common.{length, true, refl, sym, ap, ◌∙◌, rules}
use Rattle.std.specs.Bool.{if◌then◌else◌}
use Rattle.std.proofs.lemmas.Bool.{eqb-true, not-true, not-false}
use Rattle.mux.specs.declared.event.Event.TheVariants as events
use Rattle.mux.specs.declared.input_state.InputState.{InputState}
use Rattle.mux.specs.History.{History, with_event, in_force, queue}
use Rattle.mux.proofs.Plans.{in_plan, stream_in}
use Rattle.mux.proofs.Force.{force_within}
use Rattle.mux.proofs.Refusals.{open_of, full_refused, room_unrefused}
use Rattle.mux.proofs.mux.Mux.offer_queued.Goals as goal

pub state-requires : goal.state-requires
state-requires c = (stream_in c.args.self.now.run.schedule c.args.place c.args.stream c.known.ensures.schedule c.requires.place).input

pub note_full-requires : goal.note_full-requires
note_full-requires c =
    let s = c.args.self.now.run.schedule in
    let h = c.args.self.now.events in
    let st = c.args.stream in
    let ok = c.known.ensures.schedule in
    record {
      may = record {
        stream = in_plan s (in_force h) c.args.place st ok (force_within s h ok c.known.ensures.lawful) c.requires.place c.requires.in_force;
        input = refl;
        open_ = open_of s h st.input c.args.item.now c.requires.refusal;
        full = eqb-true (length (queue s st h)) s.first.request.queue (sym c.is_full.ensures ∙ c.if-is_full.true);
        first = sym (ap (λ (x : InputState). x.full_noted) c.state.ensures) ∙ not-true c.state.result.full_noted c.if-not-state.true;
      };
    }

pub returns-else-not-state-clause-answer : goal.returns-else-not-state-clause-answer
returns-else-not-state-clause-answer c =
    let s = c.args.self.now.run.schedule in
    let h = c.args.self.now.events in
    let st = c.args.stream in
    let ok = c.known.ensures.schedule in
    let full = eqb-true (length (queue s st h)) s.first.request.queue (sym c.is_full.ensures ∙ c.if-is_full.true) in
    let noted = ap (λ (x : InputState). x.full_noted) c.state.ensures in
    let after : History = with_event c.args.self.now (events.Full st.input st) in (
      full_refused s h st.input c.args.item.now c.args.place st ok c.requires.place c.requires.mapped c.requires.refusal full,
      (
        st,
        in_plan s (in_force h) c.args.place st ok (force_within s h ok c.known.ensures.lawful) c.requires.place c.requires.in_force,
        c.requires.mapped,
        ap (λ b. if◌then◌else◌ b c.args.self.now after) (sym (sym noted ∙ not-false c.state.result.full_noted c.if-not-state.false)),
      ),
    )

pub returns-then-not-state-clause-answer : goal.returns-then-not-state-clause-answer
returns-then-not-state-clause-answer c =
    let s = c.args.self.now.run.schedule in
    let h = c.args.self.now.events in
    let st = c.args.stream in
    let ok = c.known.ensures.schedule in
    let full = eqb-true (length (queue s st h)) s.first.request.queue (sym c.is_full.ensures ∙ c.if-is_full.true) in
    let noted = ap (λ (x : InputState). x.full_noted) c.state.ensures in
    let after : History = with_event c.args.self.now (events.Full st.input st) in (
      full_refused s h st.input c.args.item.now c.args.place st ok c.requires.place c.requires.mapped c.requires.refusal full,
      (
        st,
        in_plan s (in_force h) c.args.place st ok (force_within s h ok c.known.ensures.lawful) c.requires.place c.requires.in_force,
        c.requires.mapped,
        c.note_full.ensures ∙ ap (λ b. if◌then◌else◌ b c.args.self.now after) (sym (sym noted ∙ not-true c.state.result.full_noted c.if-not-state.true)),
      ),
    )

pub add-requires-clause-may : goal.add-requires-clause-may
add-requires-clause-may c =
    let s = c.args.self.now.run.schedule in
    let ok = c.known.ensures.schedule in
    record {
      input = (stream_in s c.args.place c.args.stream ok c.requires.place).input;
      packet = search rules;
      unrefused = room_unrefused s c.args.self.now.events c.args.stream.input c.args.item.now c.args.place c.args.stream ok c.requires.place c.requires.mapped c.requires.refusal (sym c.is_full.ensures ∙ c.if-is_full.false);
    }

pub returns-clause-answer : goal.returns-clause-answer
returns-clause-answer c = (
  room_unrefused c.args.self.now.run.schedule c.args.self.now.events c.args.stream.input c.args.item.now c.args.place c.args.stream c.known.ensures.schedule c.requires.place c.requires.mapped c.requires.refusal
      (sym c.is_full.ensures ∙ c.if-is_full.false),
  c.add.ensures,
)
