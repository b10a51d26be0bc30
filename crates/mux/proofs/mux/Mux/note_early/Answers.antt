use Rattle.std.proofs.Common.{sym, ap, ◌∙◌, arith, subst, refl, List}
use Rattle.mux.specs.declared.event.Event.{Event}
use Rattle.mux.specs.declared.event.Event.TheVariants.{Early}
use Rattle.mux.specs.History.{History, with_event}
use Rattle.mux.specs.Lawful.{input_count, MayNoteEarly}
use Rattle.mux.proofs.Steps.{length_states, noting_early, span_stays}
use Rattle.mux.proofs.Peaks.{peaks_early}
use Rattle.mux.proofs.Noted.{noted_now}
use Rattle.mux.proofs.mux.Mux.note_early.Goals as goal

pub index_mut-requires : goal.index_mut-requires
index_mut-requires c =
    let n = length_states c.self.invariant.0.agrees in
    let v = ap (λ (h : History). input_count h.run.schedule) c.self.view_is in
    let l = c.requires.may.input in
    omega (arith, c.self.inside.inputs.ok.0)

pub invariant_of-self : goal.invariant_of-self
invariant_of-self c =
    let P : History → Type 0 = λ h. MayNoteEarly h.run.schedule h.events c.args.input in
    let may = subst P (sym c.self.view_is) c.requires.may in (
      noting_early c.self.invariant.0 _ c.args.input c.index_mut.result.now c.add.ensures c.index_mut.ensures.value may,
      span_stays c.self.invariant.1 (Early c.args.input) _ c.add.ensures refl,
      peaks_early c.self.invariant.2 _ c.args.input c.add.ensures,
      noted_now _,
      c.self.invariant.4,
    )

pub returns : goal.returns
returns c =
    let opened : List Event → History = λ es. record { run = record { schedule = c.self.inside.schedule; limit = c.self.inside.limit }; events = es } in
    ap opened c.add.ensures ∙ ap (λ (h : History). with_event h (Early c.args.input)) c.self.view_is
