use Rattle.std.proofs.Common.{rules, ◌≡◌, ◌≤◌, ◌+◌, ◌++◌, length, take, drop, List, ℕ, refl, sym, ap, ◌∙◌, subst}
use Rattle.marks.specs.Marks.{FeedId}
use Rattle.feed.specs.Readers.{FeedReaderValue}
use Rattle.feed.proofs.EmissionLaws.{emission_taken, lawful_as}
use Rattle.feed.proofs.ReadingLaws.{read_on, read_within}
use Rattle.feed.proofs.feed_reader.FeedReader.read.Goals as goal

pub returns-clause-read : goal.returns-clause-read
returns-clause-read g c =
    let known = c.self.inside.known.packets in
    let all = c.in-Some.shown.packets in
    let count = c.self.inside.count in
    let items = c.read.new.piece.items in
    let came : items ≡ take c.args.most (drop count all) = c.in-Some.ensures.shown.1 in
    let n : c.len.result ≡ length items = search rules in
    let was : take count known ≡ c.args.self.now.read = ap (λ (r : FeedReaderValue). r.read) c.self.view_is in
    ap (λ k. take (count + k) all) (n ∙ ap (λ (l : List (List ℕ)). length l) came)
    ∙ (read_on known all count c.args.most c.in-Some.ensures.shown.0.packets c.self.invariant.1 ∙ (λ i. was i ++ sym came i))

pub invariant_of-self-2 : goal.invariant_of-self-2
invariant_of-self-2 g c =
    let E = g.E.ReadingEnd in
    let known = c.self.inside.known.packets in
    let all = c.in-Some.shown.packets in
    let count = c.self.inside.count in
    let items = c.read.new.piece.items in
    let shown = c.in-Some.ensures.shown in
    let n : c.len.result ≡ length items = search rules in
    let m : c.len.result ≡ length (take c.args.most (drop count all)) = n ∙ ap (λ (l : List (List ℕ)). length l) shown.1 in
    let read = take (count + c.len.result) all in (
      subst (λ (f : FeedId). E.is_told f c.read.new.self) (sym shown.0.feed) c.in-Some.ensures.told,
      subst (λ (k : ℕ). count + k ≤ length all) (sym m) (read_within known all count c.args.most shown.0.packets c.self.invariant.1),
      lawful_as (E.schedule c.self.inside.end) (E.schedule c.read.new.self) read read c.in-Some.ensures.schedule refl
          (emission_taken (E.schedule c.self.inside.end) all (count + c.len.result) shown.2),
    )

pub returns-clause-lawful : goal.returns-clause-lawful
returns-clause-lawful g c =
    let E = g.E.ReadingEnd in
    let read = take (c.self.inside.count + c.len.result) c.in-Some.shown.packets in
    lawful_as (E.schedule c.self.inside.end) (E.schedule c.read.new.self) read read c.in-Some.ensures.schedule refl
    (emission_taken (E.schedule c.self.inside.end) c.in-Some.shown.packets (c.self.inside.count + c.len.result) c.in-Some.ensures.shown.2)
