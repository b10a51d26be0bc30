use Rattle.std.proofs.Common.{◌≡◌, sym, ◌∙◌, subst, List, [], All}
use Rattle.std.specs.Prelude.{IsTrue}
use Rattle.std.proofs.lemmas.Bool.{false≢true}
use Rattle.mux.specs.declared.input_state.InputState.{InputState}
use Rattle.buffers.specs.QueueValue.{QueueValue}
use Rattle.mux.specs.History.{History}
use Rattle.mux.specs.Lawful.{IsDone}
use Rattle.mux.proofs.Readiness.{done_from, closed_from, empty_from}
use Rattle.mux.proofs.mux.Mux.is_done.Goals as goal

pub returns-then-all_closed-clause-done : goal.returns-then-all_closed-clause-done
returns-then-all_closed-clause-done c e =
    let R : History → Type 0 = λ h. IsDone h.run.schedule h.events in
    let Q : List InputState → Type 0 = All (λ (x : InputState). IsTrue x.closed) in
    let S : List QueueValue → Type 0 = All (λ (q : QueueValue). q.items ≡ []) in
    subst R c.self.view_is (done_from c.self.invariant.0.agrees (subst Q c.as_slice.ensures.value (c.all_closed.ensures.0 c.if-all_closed.true)) (subst S c.as_slice-then-all_closed.ensures.value (c.all_empty.ensures.0 e)))

pub returns-then-all_closed-clause-running : goal.returns-then-all_closed-clause-running
returns-then-all_closed-clause-running c e done =
    let R : History → Type 0 = λ h. IsDone h.run.schedule h.events in
    let S : List QueueValue → Type 0 = All (λ (q : QueueValue). q.items ≡ []) in
    false≢true (sym e ∙ c.all_empty.ensures.1 (subst S (sym c.as_slice-then-all_closed.ensures.value) (empty_from c.self.invariant.0.agrees (subst R (sym c.self.view_is) done))))

pub returns-else-all_closed-clause-running : goal.returns-else-all_closed-clause-running
returns-else-all_closed-clause-running c e done =
    let R : History → Type 0 = λ h. IsDone h.run.schedule h.events in
    let Q : List InputState → Type 0 = All (λ (x : InputState). IsTrue x.closed) in
    false≢true (sym e ∙ c.all_closed.ensures.1 (subst Q (sym c.as_slice.ensures.value) (closed_from c.self.invariant.0.agrees (subst R (sym c.self.view_is) done))))
