use Rattle.std.proofs.Common.{ap, sym, subst, ◌∙◌, inl}
use Rattle.std.proofs.lemmas.Bool.{false≢true}
use Rattle.mux.specs.declared.event.Event.TheVariants.{Close}
use Rattle.mux.specs.declared.offered.Offered.{Offered}
use Rattle.mux.specs.History.{with_event}
use Rattle.mux.specs.Answers.{OfferAnswers}
use Rattle.inlets.proofs.RefusalLaws.{is_shut, refused_answer}
use Rattle.inlets.proofs.turns.give.Goals as goal

pub unreachable-requires : goal.unreachable-requires
unreachable-requires g c =
    let h = c.args.mux.now in
    let item = c.head.result in
    let P : Offered → Type 0 = λ v. OfferAnswers h c.args.number item v c.offer.new.mux in
    let a = subst P c.in-Closed.is c.offer.ensures.answer in
    false≢true (sym c.requires.open ∙ is_shut h.run.schedule h.events c.args.number item a.0)

pub returns-in-Stranger-clause-turned : goal.returns-in-Stranger-clause-turned
returns-in-Stranger-clause-turned g c =
    let i = c.args.number in
    let item = c.head.result in
    let bad = refused_answer c.args.mux.now i item c.offer.result c.offer.new.mux c.in-Stranger.is c.offer.ensures.answer in
    (inl (item, c.head.ensures, bad.0), c.close.ensures.mux ∙ ap (λ v. with_event v (Close i)) bad.1, c.close.ensures.entry)
