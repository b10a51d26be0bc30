-- What a broadcast keeps, from call to call.
use Rattle.std.proofs.Common.{ℕ, ◌-◌, ◌≡◌, ◌≤◌, false, List, [], ◌++◌, length, take, drop, ap, sym, subst, ◌∙◌, arith, append_assoc, length-append, length-drop}
use mathlib.Core.List.{IsPrefix}
use Rattle.std.proofs.Math.Seq.{take-append_seam, drop-append_seam}
use Rattle.std.specs.Prelude.{Result, Ok, Err, MatchResult}
use Rattle.schedule.specs.Schedule.{ScheduleValue}
use Rattle.emission.specs.Spans.{IsEmissionOf}
use Rattle.mux.specs.History.{slots}
use Rattle.mux.proofs.Emitted.{length-emitted}
use Rattle.feed.specs.Writers.{FeedWriterValue}
use Rattle.feed.proofs.EmissionLaws.{emission_taken}
use Rattle.station.specs.Stations.{StationValue}
use Rattle.broadcast.specs.Broadcasts.{emitted_by}
use Rattle.broadcast.specs.Keeping.{KeepsFeed}

pub prefix_length : {A : Type 0} (xs ys : List A) → IsPrefix xs ys → length xs ≤ length ys
prefix_length {A} xs ys p = omega (arith, ap (λ (v : List A). length v) p.1, length-append xs p.0)

-- packets that waited were appended
pub keeps_appended : (s : StationValue) (w v : FeedWriterValue) (waiting left : List (List ℕ)) → KeepsFeed s w waiting → v ≡ record w { behind = v.behind } → v.behind ++ left ≡ w.behind ++ waiting → KeepsFeed s v left
keeps_appended s w v waiting left old same order =
    let published : v.published ≡ w.published = ap (λ (x : FeedWriterValue). x.published) same in
    let sealed : v.is_sealed ≡ w.is_sealed = ap (λ (x : FeedWriterValue). x.is_sealed) same in
    let P : List (List ℕ) → Type 0 = λ x. IsPrefix x (emitted_by s) in
    record {
      schedule = old.schedule ∙ sym (ap (λ (x : FeedWriterValue). x.schedule) same);
      begins = subst P (sym published) old.begins;
      rest = λ unsealed. old.rest (sym sealed ∙ unsealed) ∙ (λ i. sym published i ++ sym order i);
    }

-- all that is behind in the feed was published
pub keeps_published : (s : StationValue) (w v : FeedWriterValue) (waiting : List (List ℕ)) → w.is_sealed ≡ false → KeepsFeed s w waiting → v ≡ record w { published = w.published ++ w.behind; behind = [] } → KeepsFeed s v waiting
keeps_published s w v waiting unsealed old is =
    let published : v.published ≡ w.published ++ w.behind = ap (λ (x : FeedWriterValue). x.published) is in
    let behind : v.behind ≡ [] = ap (λ (x : FeedWriterValue). x.behind) is in
    let all : emitted_by s ≡ v.published ++ (v.behind ++ waiting) =
    old.rest unsealed ∙ (sym (append_assoc w.published w.behind waiting) ∙ (λ i. sym published i ++ (sym behind i ++ waiting))) in
    record {
      schedule = old.schedule ∙ sym (ap (λ (x : FeedWriterValue). x.schedule) is);
      begins = (v.behind ++ waiting, sym all);
      rest = λ _. all;
    }

-- What may be published.

pub may_publish : (s : StationValue) (w : FeedWriterValue) (waiting : List (List ℕ)) → w.is_sealed ≡ false → KeepsFeed s w waiting → IsEmissionOf s.history.run.schedule (emitted_by s) → IsEmissionOf w.schedule (w.published ++ w.behind)
may_publish s w waiting unsealed keeps law =
    let these = w.published ++ w.behind in
    let all : emitted_by s ≡ these ++ waiting = keeps.rest unsealed ∙ sym (append_assoc w.published w.behind waiting) in
    let first : take (length these) (emitted_by s) ≡ these = ap (take (length these)) all ∙ take-append_seam these waiting in
    let lawful : IsEmissionOf w.schedule (emitted_by s) = subst (λ (z : ScheduleValue). IsEmissionOf z (emitted_by s)) keeps.schedule law in
    subst (IsEmissionOf w.schedule) first (emission_taken w.schedule (emitted_by s) (length these) lawful)

-- Where there is no memory to publish, nothing changed.

pub keeps_tried : {T E : Type 0} (s : StationValue) (w v : FeedWriterValue) (waiting : List (List ℕ)) (r : Result T E) → w.is_sealed ≡ false → KeepsFeed s w waiting
    → MatchResult r (λ _. v ≡ record w { published = w.published ++ w.behind; behind = [] }) (λ _. v ≡ w) → KeepsFeed s v waiting
keeps_tried s w v waiting (Ok x) unsealed keeps is = keeps_published s w v waiting unsealed keeps is
keeps_tried s w v waiting (Err e) unsealed keeps is = (let P : FeedWriterValue → Type 0 = λ z. KeepsFeed s z waiting in subst P (sym is) keeps)

-- What was published and what is behind are all that was sent.

pub nothing_lost : (published sent : List (List ℕ)) → IsPrefix published sent → sent ≡ published ++ drop (length published) sent
nothing_lost published sent begins =
    let rest : begins.0 ≡ drop (length published) sent = sym (drop-append_seam published begins.0) ∙ ap (drop (length published)) begins.1 in
    sym begins.1 ∙ ap (λ v. published ++ v) rest

-- How many are behind.

pub count_within : (s : StationValue) (published : List (List ℕ)) (n m : ℕ) → IsPrefix published (emitted_by s) → n ≡ slots s.history.events → m ≡ length published → m ≤ n
count_within s published n m begins sent shown =
    omega (arith, sent, shown, prefix_length published (emitted_by s) begins, length-emitted s.history.run.schedule s.history.events)

pub count_behind : (s : StationValue) (published : List (List ℕ)) (n m : ℕ) → n ≡ slots s.history.events → m ≡ length published → n - m ≡ length (drop (length published) (emitted_by s))
count_behind s published n m sent shown =
    omega (arith, sent, shown, length-drop (length published) (emitted_by s), length-emitted s.history.run.schedule s.history.events)
