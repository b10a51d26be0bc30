-- What publishing needs of the end that publishes, and what it leaves.
use Rattle.std.proofs.Common.{◌≡◌, ℕ, List, [], ◌++◌, fold, sym, ap, ◌∙◌, append-nil}
use Rattle.crossbeam_utils.specs.Register.{TurnsAt}
use Rattle.marks.specs.Marks.{FeedId, MarkValue, open_mark}
use Rattle.emission.specs.Spans.{IsEmissionOf}
use Rattle.feed.specs.declared.append.Append.{Append}
use Rattle.feed.specs.declared.content.Content.{Content}
use Rattle.feed.specs.declared.knowledge.Knowledge.{Knowledge}
use Rattle.feed.specs.Versions.{Version, content_of, content_after, packets_in}
use Rattle.feed.specs.Knowing.{informed, feed_known}
use Rattle.feed.specs.FeedRule.{Keeps, Publishes}
use Rattle.feed.specs.Ends.{IsMarked}
use Rattle.feed.proofs.EmissionLaws.{nothing_sent, lawful_as}
use Rattle.feed.proofs.StepLaws.{publishes}
use Rattle.feed.proofs.VersionLaws.{schedule_kept, packets_more, mark_next}

abbrev MayPublish : ℕ → Knowledge → Version → Version → Type 0
MayPublish seat k v next = TurnsAt Keeps seat k v next (λ _ _ next now. Publishes next now)

feed_of_mark : (m : MarkValue) (f : FeedId) (ps : List (List ℕ)) → m ≡ open_mark f ps → m.feed ≡ f
feed_of_mark m f ps e = ap (λ (z : MarkValue). z.feed) e

pub may_publish : (seat : ℕ) (k : Knowledge) (v next : Version) (appends : List Append) → IsMarked k v appends → IsEmissionOf v.schedule.value (v.packets.items ++ packets_in appends)
    → content_of next ≡ fold content_after (content_of v) appends → MayPublish seat k v next
may_publish seat k v next appends marked law is =
    let mark = mark_next v next appends is (feed_known k) marked.then in
    publishes seat k v next (schedule_kept v next appends is) (feed_of_mark next.mark (feed_known k) next.packets.items mark ∙ sym (feed_of_mark v.mark (feed_known k) v.packets.items marked.now))
    (sym (ap (λ (z : MarkValue). z.packets) mark))
    (lawful_as v.schedule.value next.schedule.value (v.packets.items ++ packets_in appends) next.packets.items (schedule_kept v next appends is) (packets_more v next appends is) law)

-- what is published first is nothing
pub may_publish_first : (seat : ℕ) (k : Knowledge) (v next : Version) (appends : List Append) (f : FeedId) → v.mark ≡ open_mark f [] → v.packets.items ≡ [] → appends ≡ []
    → content_of next ≡ fold content_after (content_of v) appends → MayPublish seat k v next
may_publish_first seat k v next appends f mark packets none is =
    let same : content_of next ≡ content_of v = is ∙ ap (λ (l : List Append). fold content_after (content_of v) l) none in
    let schedule : next.schedule.value ≡ v.schedule.value = ap (λ (c : Content). c.schedule) same in
    let empty : next.packets.items ≡ [] = ap (λ (c : Content). c.packets) same ∙ packets in
    let mark' : next.mark ≡ open_mark f [] = ap (λ (c : Content). c.mark) same ∙ mark in
    publishes seat k v next schedule (feed_of_mark next.mark f [] mark' ∙ sym (feed_of_mark v.mark f [] mark)) (empty ∙ sym (ap (λ (z : MarkValue). z.packets) mark'))
    (lawful_as v.schedule.value next.schedule.value [] next.packets.items schedule empty (nothing_sent v.schedule.value))

-- what was published is marked, where nothing is pending any more
pub marked_again : (k k' : Knowledge) (v next : Version) (appends left : List Append) → IsMarked k v appends → content_of next ≡ fold content_after (content_of v) appends
    → Publishes next k' → left ≡ [] → (feed_known k' ≡ feed_known k) × IsMarked k' next left
marked_again k k' v next appends left marked is rule none =
    let f : FeedId = feed_known k in
    let ps : List (List ℕ) = next.packets.items in
    let mark : next.mark ≡ open_mark f ps = mark_next v next appends is f marked.then in
    let told : k' ≡ informed next.schedule.value f = rule ∙ ap (λ (z : MarkValue). informed next.schedule.value z.feed) mark in
    let feed : feed_known k' ≡ f = ap feed_known told in
    let now : next.mark ≡ open_mark (feed_known k') ps = mark ∙ ap (λ g. open_mark g ps) (sym feed) in
    let nothing : ps ++ packets_in left ≡ ps = ap (λ (l : List Append). ps ++ packets_in l) none ∙ append-nil ps in (
      feed,
      record {
        knows = told ∙ ap (informed next.schedule.value) (sym feed);
        now = now;
        then = ap (λ (l : List Append). (fold content_after (content_of next) l).mark) none ∙ (now ∙ ap (open_mark (feed_known k')) (sym nothing));
      },
    )
