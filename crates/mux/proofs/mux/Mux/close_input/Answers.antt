use Rattle.std.proofs.Common.{◌<◌, refl, sym, ap, ◌∙◌, arith}
use Rattle.std.proofs.lemmas.Bool.{false≢true}
use Rattle.mux.specs.declared.event.Event.TheVariants.{Close}
use Rattle.mux.specs.declared.input_state.InputState.{InputState}
use Rattle.mux.specs.History.{History, is_closed}
use Rattle.mux.specs.Lawful.{input_count}
use Rattle.mux.proofs.Steps.{state_at, length_states, closing, span_stays}
use Rattle.mux.proofs.Peaks.{peaks_close}
use Rattle.mux.proofs.Noted.{noted_same}
use Rattle.mux.proofs.mux.Mux.close_input.Goals as goal

pub index-requires : goal.index-requires
index-requires c =
    let n = length_states c.self.invariant.0.agrees in
    let v = ap (λ (h : History). input_count h.run.schedule) c.self.view_is in
    omega (arith, c.self.inside.inputs.ok.0)

pub index_mut-requires : goal.index_mut-requires
index_mut-requires c =
    let n = length_states c.self.invariant.0.agrees in
    let v = ap (λ (h : History). input_count h.run.schedule) c.self.view_is in
    omega (arith, c.self.inside.inputs.ok.0)

pub invariant_of-self : goal.invariant_of-self
invariant_of-self c =
    let v = ap (λ (h : History). input_count h.run.schedule) c.self.view_is in
    let l : c.args.input < input_count c.self.inside.schedule = omega arith in
    let k = c.self.invariant.0.agrees in
    let same = state_at k c.args.input c.index_mut.result.now l c.index_mut.ensures.value ∙ sym (state_at k c.args.input c.index.result.now l c.index.ensures) in (
      closing c.self.invariant.0 _ c.args.input c.index_mut.result.now c.add.ensures l c.index_mut.ensures.value (ap (λ (x : InputState). x.closed) same ∙ c.if-not-index.true),
      span_stays c.self.invariant.1 (Close c.args.input) _ c.add.ensures refl,
      peaks_close c.self.invariant.2 _ c.args.input c.add.ensures,
      noted_same c.self.invariant.3 c.args.input c.index_mut.result.now _ (omega (arith, length_states k)) c.index_mut.ensures.value refl refl,
      c.self.invariant.4,
    )

pub returns-then-not-index-clause-again : goal.returns-then-not-index-clause-again
returns-then-not-index-clause-again c closed =
    let v = ap (λ (h : History). input_count h.run.schedule) c.self.view_is in
    let w = ap (λ (h : History). is_closed c.args.input h.events) c.self.view_is in
    let is = state_at c.self.invariant.0.agrees c.args.input c.index.result.now (omega arith) c.index.ensures in
    absurd (false≢true (sym c.if-not-index.true ∙ ap (λ (x : InputState). x.closed) is ∙ w ∙ closed))

pub returns-else-not-index-clause-first : goal.returns-else-not-index-clause-first
returns-else-not-index-clause-first c open_ =
    let v = ap (λ (h : History). input_count h.run.schedule) c.self.view_is in
    let w = ap (λ (h : History). is_closed c.args.input h.events) c.self.view_is in
    let is = state_at c.self.invariant.0.agrees c.args.input c.index.result.now (omega arith) c.index.ensures in
    absurd (false≢true (sym open_ ∙ sym w ∙ sym (ap (λ (x : InputState). x.closed) is) ∙ c.if-not-index.false))
