-- Each step keeps the rule of a feed.
use Rattle.std.proofs.Common.{◌≡◌, ◌≢◌, ℕ, List, [], ◌∷◌, ◌++◌, true, false, set, sym, refl, ap, ◌∙◌, subst, inl, inr, ⊎_elim, Some}
use mathlib.Core.Option.{some}
use lib.ListN.{get_elem?}
use Rattle.crossbeam_utils.specs.Register.{Admits, TurnsAt, Forks, Merges}
use Rattle.atomic_table.proofs.Lists.{at_set, at_snoc}
use Rattle.marks.specs.Marks.{FeedId}
use Rattle.schedule.specs.Schedule.{ScheduleValue}
use Rattle.emission.specs.Spans.{IsEmissionOf}
use Rattle.feed.specs.declared.knowledge.Knowledge.{Knowledge}
use Rattle.feed.specs.Versions.{Version}
use Rattle.feed.specs.Knowing.{Knows, newcomer, informed, feed_known}
use Rattle.feed.specs.FeedRule.{Keeps, Sees, Publishes}

abbrev At : List Knowledge → ℕ → Knowledge → Type 0
At ends i k = get_elem? ends i ≡ some k

abbrev AllKnow : Version → List Knowledge → Type 0
AllKnow v ends = (i : ℕ) (k : Knowledge) → At ends i k → Knows v k

set_all : (v : Version) (ends : List Knowledge) (seat : ℕ) (k : Knowledge) → AllKnow v ends → Knows v k → AllKnow v (set ends seat k)
set_all v ends seat k all now i u at = ⊎_elim (λ (t : (i ≡ seat) × (k ≡ u)). subst (λ z. Knows v z) t.1 now) (λ (t : (i ≢ seat) × At ends i u). all i u t.1) (at_set ends seat i k u at)

snoc_all : (v : Version) (ends : List Knowledge) (k : Knowledge) → AllKnow v ends → Knows v k → AllKnow v (ends ++ k ∷ [])
snoc_all v ends k all now i u at = ⊎_elim (λ (t : At ends i u). all i u t) (λ (t : k ≡ u). subst (λ z. Knows v z) t now) (at_snoc ends k u i at)

knows_on : (v next : Version) (k : Knowledge) → next.schedule.value ≡ v.schedule.value → next.mark.feed ≡ v.mark.feed → Knows v k → Knows next k
knows_on v next k schedule feed knows =
    ⊎_elim (λ (e : k ≡ newcomer). inl e) (λ (e : k ≡ informed v.schedule.value v.mark.feed). inr (e ∙ (λ i. informed (sym schedule i) (sym feed i)))) knows

pub admits : Admits Keeps newcomer
admits v ends keeps = record { marked = keeps.marked; lawful = keeps.lawful; each = snoc_all v ends newcomer keeps.each (inl refl) }

pub enters : (seat : ℕ) (k : Knowledge) (v : Version) → TurnsAt Keeps seat k v v (λ k v _ now. Sees k v now)
enters seat k v ends keeps at =
    let knows = keeps.each seat k at in (
      k,
      record { marked = keeps.marked; lawful = keeps.lawful; each = set_all v ends seat k keeps.each knows },
      record { same = refl; marked = keeps.marked; lawful = keeps.lawful; known = knows },
    )

pub publishes : (seat : ℕ) (k : Knowledge) (v next : Version) → next.schedule.value ≡ v.schedule.value → next.mark.feed ≡ v.mark.feed → next.packets.items ≡ next.mark.packets
    → IsEmissionOf next.schedule.value next.packets.items → TurnsAt Keeps seat k v next (λ _ _ next now. Publishes next now)
publishes seat k v next schedule feed marked lawful ends keeps at =
    let now : Knowledge = informed next.schedule.value next.mark.feed in (
      now,
      record { marked = marked; lawful = lawful; each = set_all next ends seat now (λ i u a. knows_on v next u schedule feed (keeps.each i u a)) (inr refl) },
      refl,
    )

pub tells : (seat : ℕ) (k : Knowledge) → Forks Keeps seat k k k
tells seat k v ends keeps at =
    let knows = keeps.each seat k at in
    record { marked = keeps.marked; lawful = keeps.lawful; each = snoc_all v (set ends seat k) k (set_all v ends seat k keeps.each knows) knows }

pub joins : (seat : ℕ) (k : Knowledge) (other : ℕ) (told : Knowledge) → Merges Keeps seat k other told told newcomer
joins seat k other told v ends keeps at apart there =
    let knows : Knows v told = ⊎_elim (λ (t : (other ≡ seat) × (told ≡ told)). absurd (apart t.0)) (λ (t : (other ≢ seat) × At ends other told). keeps.each other told t.1) (at_set ends seat other told told there) in
    record { marked = keeps.marked; lawful = keeps.lawful; each = set_all v (set ends seat told) other newcomer (set_all v ends seat told keeps.each knows) (inl refl) }

-- an end that was told of a schedule and a feed sees a version of these
pub sees_its_feed : (v : Version) (k : Knowledge) (p : ScheduleValue) (f : FeedId) → Knows v k → k ≡ informed p f → informed v.schedule.value v.mark.feed ≡ informed p f
sees_its_feed v k p f knows told = ⊎_elim (λ (e : k ≡ newcomer). absurd (never e)) (λ (e : k ≡ informed v.schedule.value v.mark.feed). sym e ∙ told) knows
  where
    never : k ≡ newcomer → ⊥
    never e = let h : false ≡ true = sym (ap (λ (z : Knowledge). z.is_told) e) ∙ ap (λ (z : Knowledge). z.is_told) told in absurd (cc)

pub same_feed : (p q : ScheduleValue) (f g : FeedId) → informed p f ≡ informed q g → f ≡ g
same_feed p q f g e = ap feed_known e

pub same_schedule : (p q : ScheduleValue) (f g : FeedId) → informed p f ≡ informed q g → p ≡ q
same_schedule p q f g e = let h : Some p ≡ Some q = ap (λ (z : Knowledge). z.schedule) e in cc
