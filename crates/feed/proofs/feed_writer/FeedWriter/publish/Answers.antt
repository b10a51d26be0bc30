use Rattle.std.proofs.Common.{rules, ◌≡◌, ◌++◌, None, sym, ap, ◌∙◌, append-nil}
use Rattle.feed.specs.Writers.{FeedWriterValue, list_of}
use Rattle.feed.proofs.EmissionLaws.{lawful_as}
use Rattle.feed.proofs.feed_writer.FeedWriter.publish.Goals as goal

pub publish-requires-clause-lawful : goal.publish-requires-clause-lawful
publish-requires-clause-lawful g c =
    let E = g.E.PublishingEnd in
    let old = c.args.self.now in
    let end = c.settle.new.end in
    let none : c.settle.new.held ≡ None = search rules in
    let schedule : E.schedule end ≡ old.schedule = c.settle.ensures.feed.1 ∙ ap (λ (w : FeedWriterValue). w.schedule) c.self.view_is in
    let published : E.published end ≡ old.published = c.settle.ensures.published ∙ ap (λ (w : FeedWriterValue). w.published) c.self.view_is in
    let ends = E.pending end in
    let nothing : ends ≡ ends ++ list_of c.settle.new.held = sym (append-nil ends) ∙ ap (λ h. ends ++ list_of h) (sym none) in
    let pending : ends ≡ old.behind = nothing ∙ (c.settle.ensures.behind ∙ ap (λ (w : FeedWriterValue). w.behind) c.self.view_is) in
    lawful_as old.schedule (E.schedule end) (old.published ++ old.behind) (E.published end ++ E.pending end) schedule (λ i. published i ++ pending i) c.requires.lawful
