use Rattle.std.proofs.Common.{ap, ◌∙◌, arith}
use Rattle.mux.specs.History.{History}
use Rattle.mux.specs.Lawful.{input_count}
use Rattle.mux.specs.Keeping.{state_of}
use Rattle.mux.proofs.Steps.{state_at, length_states}
use Rattle.mux.proofs.mux.Mux.state.Goals as goal

pub index-requires : goal.index-requires
index-requires c =
    let n = length_states c.self.invariant.0.agrees in
    let v = ap (λ (h : History). input_count h.run.schedule) c.self.view_is in
    omega (arith, c.self.inside.inputs.ok.0)

pub returns : goal.returns
returns c =
    let v = ap (λ (h : History). input_count h.run.schedule) c.self.view_is in
    state_at c.self.invariant.0.agrees c.args.input _ (omega arith) c.index.ensures ∙ ap (λ (h : History). state_of h.run.schedule h.events c.args.input) c.self.view_is
