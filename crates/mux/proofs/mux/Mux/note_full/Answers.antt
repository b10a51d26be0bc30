use Rattle.std.proofs.Common.{sym, ap, ◌∙◌, arith, subst, refl, List}
use Rattle.mux.specs.declared.event.Event.{Event}
use Rattle.mux.specs.declared.event.Event.TheVariants.{Full}
use Rattle.mux.specs.History.{History, with_event}
use Rattle.mux.specs.Lawful.{MayNoteFull}
use Rattle.mux.proofs.Plans.{stream_in}
use Rattle.mux.proofs.Force.{has_in_force}
use Rattle.mux.proofs.Steps.{length_states, noting, span_stays}
use Rattle.mux.proofs.Peaks.{peaks_full}
use Rattle.mux.proofs.Noted.{noted_now}
use Rattle.mux.proofs.mux.Mux.note_full.Goals as goal

pub index_mut-requires : goal.index_mut-requires
index_mut-requires c =
    let k = c.self.invariant.0.agrees in
    let n = length_states k in
    let P : History → Type 0 = λ h. MayNoteFull h.run.schedule h.events c.args.stream.input c.args.stream in
    let may = subst P (sym c.self.view_is) c.requires.may in
    let has = has_in_force c.self.inside.schedule c.self.inside.past c.args.stream k.schedule k.lawful may.stream in
    let l = (stream_in c.self.inside.schedule has.0 c.args.stream k.schedule has.1).input in
    omega (arith, c.self.inside.inputs.ok.0)

pub invariant_of-self : goal.invariant_of-self
invariant_of-self c =
    let k = c.self.invariant.0.agrees in
    let P : History → Type 0 = λ h. MayNoteFull h.run.schedule h.events c.args.stream.input c.args.stream in
    let may = subst P (sym c.self.view_is) c.requires.may in
    let has = has_in_force c.self.inside.schedule c.self.inside.past c.args.stream k.schedule k.lawful may.stream in
    let l = (stream_in c.self.inside.schedule has.0 c.args.stream k.schedule has.1).input in (
      noting c.self.invariant.0 _ c.args.stream.input c.args.stream c.index_mut.result.now c.add.ensures l c.index_mut.ensures.value may,
      span_stays c.self.invariant.1 (Full c.args.stream.input c.args.stream) _ c.add.ensures refl,
      peaks_full c.self.invariant.2 _ c.args.stream.input c.args.stream c.add.ensures,
      noted_now _,
      c.self.invariant.4,
    )

pub returns : goal.returns
returns c =
    let opened : List Event → History = λ es. record { run = record { schedule = c.self.inside.schedule; limit = c.self.inside.limit }; events = es } in
    ap opened c.add.ensures ∙ ap (λ (h : History). with_event h (Full c.args.stream.input c.args.stream)) c.self.view_is
