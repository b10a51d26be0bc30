use Rattle.std.proofs.Common.{ℕ, ◌≡◌, true, refl, sym, ap, ◌∙◌, subst}
use Rattle.mux.specs.declared.input_state.InputState.{InputState}
use Rattle.mux.specs.Answers.{OfferAnswers}
use Rattle.mux.specs.History.{is_mapped_to}
use Rattle.mux.proofs.Refusals.{goes_both, is_closed_first, is_stranger}
use Rattle.mux.proofs.mux.Mux.offer.Goals as goal

pub offer_to-requires : goal.offer_to-requires
offer_to-requires c =
    let s = c.args.self.now.run.schedule in
    let found = c.in-Some.ensures.found in
    let st = found.0 in
    let P : ℕ → Type 0 = λ i. is_mapped_to s st i c.args.item.now ≡ true in
    (st, found.1, subst P (goes_both s st c.args.input c.args.item.now found.2).0 found.2)

pub returns-in-Some-clause-answer : goal.returns-in-Some-clause-answer
returns-in-Some-clause-answer c =
    let s = c.args.self.now.run.schedule in
    let found = c.in-Some.ensures.found in
    let P : ℕ → Type 0 = λ i. OfferAnswers c.args.self.now i c.args.item.now c.offer_to.result c.offer_to.new.self in
    subst P (sym (goes_both s found.0 c.args.input c.args.item.now found.2).0) (c.offer_to.ensures.answer found.0 found.1)

pub returns-in-None-clause-answer : goal.returns-in-None-clause-answer
returns-in-None-clause-answer c =
    (is_closed_first c.args.self.now.run.schedule c.args.self.now.events c.args.input c.args.item.now (sym (ap (λ (x : InputState). x.closed) c.state.ensures) ∙ c.if-state.true), refl)

pub returns-in-None-2-clause-answer : goal.returns-in-None-2-clause-answer
returns-in-None-2-clause-answer c =
    (is_stranger c.args.self.now.run.schedule c.args.self.now.events c.args.input c.args.item.now (sym (ap (λ (x : InputState). x.closed) c.state.ensures) ∙ c.if-state.false) c.in-None-2.ensures.none, refl)
