-- The mark whose gap is open decides whether the gap is told.
use Rattle.std.proofs.Common.{◌≡◌, ℕ, ◌+◌, ◌-◌, ◌<◌, ◌≤◌, refl, sym, ◌∙◌, ap, arith, Option, Some, None, Bool, true, false, ◌&&◌, ⊎_elim}
use Rattle.std.specs.Prelude.{not, nat_le, ◌==◌}
use Rattle.std.proofs.Math.Bool.{and_assoc}
use Rattle.std.proofs.lemmas.Bool.{cases_Bool, cases_lt, and_parts, and_left, and_right, false_from_ne_true, both_ways}
use Rattle.std.proofs.lemmas.Bool.Decides.{nat_tests}
use Rattle.analyse.specs.Slots.{each_from}
use Rattle.analyse.specs.Gaps.{is_gap_at}
use Rattle.analyse.specs.GapWatching.{is_open, IsSince, since_behind, is_long}
use Rattle.analyse.proofs.RangeLaws.{each_more, each_none, each_same, each_at, and_true}

sorted : (e w m n x : Bool) → ((e && w) && (m && (n && x))) ≡ (((e && (m && n)) && w) && x)
sorted true true true true x = refl
sorted true true true false x = refl
sorted true true false n x = refl
sorted true false true true x = refl
sorted true false true false x = refl
sorted true false false n x = refl
sorted false w m n x = refl

-- one number more behind the mark
open_more : (watched mark : ℕ → Bool) (first count : ℕ) → first < count → is_open watched mark first (count + 1) ≡ ((is_open watched mark first count && watched count) && not (mark count))
unfolding is_open
open_more watched mark first count h =
    let a = each_more first count watched (omega arith) in
    let b = each_more (first + 1) count (λ k. not (mark k)) (omega arith) in
    rw (a, b) (sorted (each_from first count watched) (watched count) (mark first) (each_from (first + 1) count (λ k. not (mark k))) (not (mark count)))

-- the mark itself
open_last : (watched mark : ℕ → Bool) (count : ℕ) → is_open watched mark count (count + 1) ≡ (watched count && mark count)
unfolding is_open
open_last watched mark count =
    let a = each_more count count watched (omega arith) in
    let b = each_none count count watched (omega arith) in
    let d = each_none (count + 1) (count + 1) (λ k. not (mark k)) (omega arith) in
    rw (a, b, d) (ap (λ (t : Bool). watched count && t) (and_true (mark count)))

marked : (watched mark : ℕ → Bool) (first count : ℕ) → is_open watched mark first count ≡ true → mark first ≡ true
unfolding is_open
marked watched mark first count h =
    (and_parts (mark first) (each_from (first + 1) count (λ k. not (mark k))) (and_parts (each_from first count watched) (mark first && each_from (first + 1) count (λ k. not (mark k))) h).1).0

unmarked : (watched mark : ℕ → Bool) (first count k : ℕ) → is_open watched mark first count ≡ true → first < k → k < count → not (mark k) ≡ true
unfolding is_open
unmarked watched mark first count k h p q =
    each_at (first + 1) count (λ j. not (mark j)) k (and_parts (mark first) (each_from (first + 1) count (λ j. not (mark j))) (and_parts (each_from first count watched) (mark first && each_from (first + 1) count (λ j. not (mark j))) h).1).1 (omega arith) q

not_later : (watched mark : ℕ → Bool) (first second count : ℕ) → is_open watched mark first count ≡ true → is_open watched mark second count ≡ true → second < count → first < second → ⊥
not_later watched mark first second count h k p q =
    both_ways (not (mark second)) (ap not (marked watched mark second count k)) (unmarked watched mark first count second h q p)

-- at most one mark's gap is open
open_once : (watched mark : ℕ → Bool) (first second count : ℕ) → first < count → second < count → is_open watched mark first count ≡ true → is_open watched mark second count ≡ true → first ≡ second
open_once watched mark first second count p q h k =
    ⊎_elim (λ (x : first < second). absurd (not_later watched mark first second count h k q x))
    (λ (x : second ≤ first).
    ⊎_elim (λ (y : second < first). absurd (not_later watched mark second first count k h p y)) (λ (y : first ≤ second). omega arith) (cases_lt second first))
    (cases_lt first second)

-- the open mark behind one number more
since_none : (watched mark : ℕ → Bool) (count : ℕ) → (watched count && mark count) ≡ false → ((first : ℕ) → first < count → is_open watched mark first (count + 1) ≡ false) → (first : ℕ) → first < count + 1 → is_open watched mark first (count + 1) ≡ false
since_none watched mark count last before first h =
    ⊎_elim (λ (x : first < count). before first x)
    (λ (x : count ≤ first). let e : first ≡ count = omega arith in rw e (open_last watched mark count ∙ last))
    (cases_lt first count)

pub since_more : (watched mark : ℕ → Bool) (count : ℕ) (since : Option ℕ) (is_watched is_mark : Bool) → watched count ≡ is_watched → mark count ≡ is_mark → IsSince watched mark count since → IsSince watched mark (count + 1) (since_behind since count is_watched is_mark)
since_more watched mark count since false is_mark p q s =
    since_none watched mark count (and_left (watched count) (mark count) p)
    (λ first h. open_more watched mark first count h ∙ and_left (is_open watched mark first count && watched count) (not (mark count)) (and_right (is_open watched mark first count) (watched count) p))
since_more watched mark count since true true p q s = (omega arith, open_last watched mark count ∙ ap (λ (b : Bool). b && mark count) p ∙ q)
since_more watched mark count None true false p q s =
    since_none watched mark count (and_right (watched count) (mark count) q)
    (λ first h. open_more watched mark first count h ∙ and_left (is_open watched mark first count && watched count) (not (mark count)) (and_left (is_open watched mark first count) (watched count) (s first h)))
since_more watched mark count (Some first) true false p q s =
    (omega arith, open_more watched mark first count s.0 ∙ ap (λ (b : Bool). (b && watched count) && not (mark count)) s.1 ∙ ap (λ (b : Bool). b && not (mark count)) p ∙ ap not q)

gap_is : (limit : ℕ) (watched mark : ℕ → Bool) (count : ℕ) → is_gap_at limit watched mark count ≡ (nat_le limit count && is_open watched mark (count - limit) (count + 1))
unfolding is_gap_at is_open
gap_is limit watched mark count = and_assoc (nat_le limit count) (each_from (count - limit) (count + 1) watched) (mark (count - limit) && each_from (count - limit + 1) (count + 1) (λ k. not (mark k)))

-- so many numbers behind `first` is the number `first`
apart : (limit count first : ℕ) → first < count + 1 → limit ≤ count → count - limit ≡ first → (nat_le first count && count - first == limit) ≡ true
apart limit count first h k e = grind (arith, nat_tests)

as_far : (limit count first : ℕ) → (nat_le first count && count - first == limit) ≡ true → (nat_le limit count ≡ true) × (count - limit ≡ first)
as_far limit count first h = grind (arith, nat_tests)

pub told_now : (limit : ℕ) (watched mark : ℕ → Bool) (count : ℕ) (since : Option ℕ) → IsSince watched mark (count + 1) since → is_long limit count since ≡ is_gap_at limit watched mark count
told_now limit watched mark count None s = sym (gap_is limit watched mark count ∙ and_right (nat_le limit count) (is_open watched mark (count - limit) (count + 1)) (s (count - limit) (omega arith)))
told_now limit watched mark count (Some first) s =
    let told = nat_le first count && count - first == limit in
    ⊎_elim
    (λ (t : told ≡ true).
    let f = as_far limit count first t in
    t ∙ sym (gap_is limit watched mark count ∙ ap (λ (b : Bool). b && is_open watched mark (count - limit) (count + 1)) f.0 ∙ ap (λ (k : ℕ). is_open watched mark k (count + 1)) f.1 ∙ s.1))
    (λ (t : told ≡ false).
    t ∙ sym (false_from_ne_true (is_gap_at limit watched mark count) (λ g.
    let parts = and_parts (nat_le limit count) (is_open watched mark (count - limit) (count + 1)) (sym (gap_is limit watched mark count) ∙ g) in
    let small : limit ≤ count = grind (arith, nat_tests) in
    both_ways told t (apart limit count first s.0 small (open_once watched mark (count - limit) first (count + 1) (omega arith) s.0 parts.1 s.1)))))
    (cases_Bool told)

-- what was seen depends on the numbers that were seen alone
open_same : (watched mark other : ℕ → Bool) (first count : ℕ) → first < count → ((k : ℕ) → k < count → mark k ≡ other k) → is_open watched mark first count ≡ is_open watched other first count
unfolding is_open
open_same watched mark other first count h e =
    let a = e first h in
    let b = each_same (first + 1) count (λ k. not (mark k)) (λ k. not (other k)) (λ k p q. ap not (e k q)) in
    rw (a, b) refl

pub since_same : (watched mark other : ℕ → Bool) (count : ℕ) (since : Option ℕ) → ((k : ℕ) → k < count → mark k ≡ other k) → IsSince watched mark count since → IsSince watched other count since
since_same watched mark other count None e s = λ first h. sym (open_same watched mark other first count h e) ∙ s first h
since_same watched mark other count (Some first) e s = (s.0, sym (open_same watched mark other first count s.0 e) ∙ s.1)

-- a number at which nothing is watched that was, and nothing is marked
pub since_quiet : (watched mark : ℕ → Bool) (count : ℕ) (since : Option ℕ) → (watched count ≡ false → since ≡ None) → mark count ≡ false → IsSince watched mark count since → IsSince watched mark (count + 1) since
since_quiet watched mark count since off q s =
    ⊎_elim
    (λ (p : watched count ≡ true). since_more watched mark count since true false p q s)
    (λ (p : watched count ≡ false). rw (off p) (since_more watched mark count since false false p q s))
    (cases_Bool (watched count))

-- the same, where both what is watched and the marks agree on the numbers that were seen
open_agree : (watched seen mark other : ℕ → Bool) (first count : ℕ) → first < count → ((k : ℕ) → k < count → watched k ≡ seen k) → ((k : ℕ) → k < count → mark k ≡ other k) → is_open watched mark first count ≡ is_open seen other first count
unfolding is_open
open_agree watched seen mark other first count h w e =
    let a = e first h in
    let b = each_same (first + 1) count (λ k. not (mark k)) (λ k. not (other k)) (λ k p q. ap not (e k q)) in
    let c = each_same first count watched seen (λ k p q. w k q) in
    rw (a, b, c) refl

pub since_agree : (watched seen mark other : ℕ → Bool) (count : ℕ) (since : Option ℕ) → ((k : ℕ) → k < count → watched k ≡ seen k) → ((k : ℕ) → k < count → mark k ≡ other k) → IsSince watched mark count since → IsSince seen other count since
since_agree watched seen mark other count None w e s = λ first h. sym (open_agree watched seen mark other first count h w e) ∙ s first h
since_agree watched seen mark other count (Some first) w e s = (s.0, sym (open_agree watched seen mark other first count s.0 w e) ∙ s.1)

-- a gap is told of what is seen up to its slot
pub gap_agree : (limit : ℕ) (watched seen mark other : ℕ → Bool) (m : ℕ) → ((k : ℕ) → k < m + 1 → watched k ≡ seen k) → ((k : ℕ) → k < m + 1 → mark k ≡ other k) → is_gap_at limit watched mark m ≡ is_gap_at limit seen other m
gap_agree limit watched seen mark other m w e =
    gap_is limit watched mark m
    ∙ ap (λ (b : Bool). nat_le limit m && b) (open_agree watched seen mark other (m - limit) (m + 1) (omega arith) w e)
    ∙ sym (gap_is limit seen other m)
