use Rattle.std.proofs.Common.{refl, sym, subst, take}
use Rattle.marks.specs.Marks.{FeedId}
use Rattle.feed.proofs.EmissionLaws.{lawful_as}
use Rattle.feed.proofs.ReadingLaws.{taken_on, known_within}
use Rattle.feed.proofs.feed_reader.FeedReader.learn.Goals as goal

pub invariant_of-self : goal.invariant_of-self
invariant_of-self g c =
    let E = g.E.ReadingEnd in
    let end = c.self.inside.end in
    let count = c.self.inside.count in
    let known = c.self.inside.known.packets in
    let all = c.later.result.packets in
    let begins = c.later.ensures.this in (
      subst (λ (f : FeedId). E.is_told f end) (sym begins.feed) c.self.invariant.0,
      known_within known all count begins.packets c.self.invariant.1,
      lawful_as (E.schedule end) (E.schedule end) (take count known) (take count all) refl (taken_on known all count begins.packets c.self.invariant.1) c.self.invariant.2,
    )
