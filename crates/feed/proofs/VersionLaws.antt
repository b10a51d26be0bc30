-- What appends do to a version.
use Rattle.std.proofs.Common.{◌≡◌, List, [], ◌∷◌, ◌++◌, sym, refl, ap, ◌∙◌, fold, append-nil, append_assoc}
use Rattle.marks.specs.Marks.{FeedId, open_mark}
use Rattle.feed.specs.declared.append.Append.{Append}
use Rattle.feed.specs.declared.content.Content.{Content}
use Rattle.feed.specs.Versions.{Version, content_of, content_after, packets_in}

pub packets_in_snoc : (appends : List Append) (a : Append) → packets_in (appends ++ a ∷ []) ≡ packets_in appends ++ a.packet ∷ []
packets_in_snoc [] a = refl
packets_in_snoc (b ∷ appends) a = ap (λ ps. b.packet ∷ ps) (packets_in_snoc appends a)

pub mark_snoc : (c : Content) (appends : List Append) (a : Append) → (fold content_after c (appends ++ a ∷ [])).mark ≡ a.mark
mark_snoc c [] a = refl
mark_snoc c (b ∷ appends) a = mark_snoc (content_after c b) appends a

schedule_stays : (c : Content) (appends : List Append) → (fold content_after c appends).schedule ≡ c.schedule
schedule_stays c [] = refl
schedule_stays c (a ∷ appends) = schedule_stays (content_after c a) appends

packets_grow : (c : Content) (appends : List Append) → (fold content_after c appends).packets ≡ c.packets ++ packets_in appends
packets_grow c [] = sym (append-nil c.packets)
packets_grow c (a ∷ appends) = packets_grow (content_after c a) appends ∙ append_assoc c.packets (a.packet ∷ []) (packets_in appends)

-- the next version, once these were appended to one
module _ (v next : Version) (appends : List Append) (is : content_of next ≡ fold content_after (content_of v) appends) where
  pub schedule_kept : next.schedule.value ≡ v.schedule.value
  schedule_kept = ap (λ (c : Content). c.schedule) is ∙ schedule_stays (content_of v) appends

  pub packets_more : next.packets.items ≡ v.packets.items ++ packets_in appends
  packets_more = ap (λ (c : Content). c.packets) is ∙ packets_grow (content_of v) appends

  pub mark_next : (f : FeedId) → (fold content_after (content_of v) appends).mark ≡ open_mark f (v.packets.items ++ packets_in appends) → next.mark ≡ open_mark f next.packets.items
  mark_next f then = ap (λ (c : Content). c.mark) is ∙ (then ∙ ap (open_mark f) (sym packets_more))
