-- What is known of sync behind some slots gives the next slot's faults, and what is known behind that one.
use Rattle.std.proofs.Common.{◌≡◌, ℕ, zero, suc, ◌+◌, ◌-◌, ◌<◌, ◌≤◌, List, [], ◌∷◌, ◌++◌, length, refl, sym, ◌∙◌, ap, arith, length-append, Bool, true, false, ◌&&◌, ◌||◌, ⊎_elim}
use Rattle.std.specs.Prelude.{not, nat_le}
use Rattle.std.proofs.Math.ListN.{get_or-append}
use Rattle.std.proofs.Math.Seq.{get_or-append_seam}
use Rattle.std.proofs.Math.Bool.{and_assoc}
use Rattle.std.proofs.lemmas.Bool.{cases_Bool, cases_lt, and_parts, and_right, and_left}
use Rattle.std.proofs.lemmas.Bool.Decides.{nat_tests}
use Rattle.analyse.specs.Slots.{each_from, some_from, slot_at, is_good, ends_five_good, has_no_two_bad, is_sync_lost_at}
use Rattle.analyse.specs.SyncWatching.{SyncState, run_behind, is_lost_by, behind, ends_good, is_in_sync_behind, ends_bad, HasSeenSlots}
use Rattle.analyse.proofs.RangeLaws.{each_more, each_none, each_same, each_at, some_more, some_same, some_and, and_true}

-- ---- tests

step_run : (count run : ℕ) (good : Bool) → suc count ≤ 5 → nat_le (suc count) (run_behind run (not good)) ≡ (nat_le count run && good)
step_run count run true h = grind (arith, nat_tests)
step_run count run false h = let none : nat_le (suc count) 0 ≡ false = grind (arith, nat_tests) in none ∙ sym (and_right (nat_le count run) false refl)

any_run : (run : ℕ) → nat_le 0 run ≡ true
any_run run = grind (arith, nat_tests)

kept : (in_sync was_bad bad : Bool) → (in_sync && not (bad && (was_bad && in_sync))) ≡ (in_sync && not (bad && was_bad))
kept true true true = refl
kept true true false = refl
kept true false true = refl
kept true false false = refl
kept false was_bad bad = refl

reordered : (bad was_bad in_sync : Bool) → (bad && (was_bad && in_sync)) ≡ ((was_bad && bad) && in_sync)
reordered true true in_sync = refl
reordered true false in_sync = refl
reordered false true in_sync = refl
reordered false false in_sync = refl

one_good : (before good : Bool) → (before || good) ≡ not (not good && not before)
one_good true true = refl
one_good true false = refl
one_good false true = refl
one_good false false = refl

-- ---- one more slot

more : (slots : List (List ℕ)) (x : List ℕ) → length (slots ++ x ∷ []) ≡ length slots + 1
more slots x = length-append slots (x ∷ [])

same_at : (slots : List (List ℕ)) (x : List ℕ) (k : ℕ) → k < length slots → is_good (slot_at (slots ++ x ∷ []) k) ≡ is_good (slot_at slots k)
same_at slots x k h = ap (λ (s : List ℕ). is_good s) (get_or-append slots (x ∷ []) [] k h)

pub last_slot : (slots : List (List ℕ)) (x : List ℕ) → is_good (slot_at (slots ++ x ∷ []) (length slots)) ≡ is_good x
last_slot slots x = ap (λ (s : List ℕ). is_good s) (get_or-append_seam slots x [] [])

-- the last so many and one more are good
ends_good-more : (slots : List (List ℕ)) (x : List ℕ) (count : ℕ) → ends_good (suc count) (slots ++ x ∷ []) ≡ (ends_good count slots && is_good x)
ends_good-more slots x count =
    let n = length slots in
    let g = λ (k : ℕ). is_good (slot_at slots k) in
    let h = λ (k : ℕ). is_good (slot_at (slots ++ x ∷ []) k) in
    let place : n + 1 - suc count ≡ n - count = omega arith in
    let tests : nat_le (suc count) (n + 1) ≡ nat_le count n = grind (arith, nat_tests) in
    let each : each_from (n - count) (n + 1) h ≡ (each_from (n - count) n g && is_good x) =
    each_more (n - count) n h (omega arith)
    ∙ ap (λ (b : Bool). b && h n) (each_same (n - count) n h g (λ k p q. same_at slots x k q))
    ∙ ap (λ (b : Bool). each_from (n - count) n g && b) (last_slot slots x) in
    rw (more slots x) (rw place (rw (tests, each) (sym (and_assoc (nat_le count n) (each_from (n - count) n g) (is_good x)))))

run_more : (w : SyncState) (slots : List (List ℕ)) (x : List ℕ) → HasSeenSlots w slots → (count : ℕ) → count ≤ 5 → nat_le count (run_behind w.run (not (is_good x))) ≡ ends_good count (slots ++ x ∷ [])
run_more w slots x s zero h =
    let n = length (slots ++ x ∷ []) in
    let each = each_none (n - 0) n (λ k. is_good (slot_at (slots ++ x ∷ []) k)) (omega arith) in
    any_run (run_behind w.run (not (is_good x))) ∙ sym (ap (λ (b : Bool). b && each_from (n - 0) n (λ k. is_good (slot_at (slots ++ x ∷ []) k))) (any_run n) ∙ each)
run_more w slots x s (suc count) h =
    step_run count w.run (is_good x) h ∙ ap (λ (b : Bool). b && is_good x) (s.run count (omega arith)) ∙ sym (ends_good-more slots x count)

-- five good slots, the last of them before the new one
five_same : (slots : List (List ℕ)) (x : List ℕ) (e : ℕ) → e < length slots → ends_five_good (slots ++ x ∷ []) e ≡ ends_five_good slots e
five_same slots x e h =
    ap (λ (b : Bool). nat_le 4 e && b) (each_same (e - 4) (e + 1) (λ k. is_good (slot_at (slots ++ x ∷ []) k)) (λ k. is_good (slot_at slots k)) (λ k p q. same_at slots x k (omega arith)))

-- five good slots, the last of them the new one
five_last : (slots : List (List ℕ)) (x : List ℕ) → ends_five_good (slots ++ x ∷ []) (length slots) ≡ ends_good 5 (slots ++ x ∷ [])
five_last slots x =
    let n = length slots in
    let place : n + 1 - 5 ≡ n - 4 = omega arith in
    let tests : nat_le 5 (n + 1) ≡ nat_le 4 n = grind (arith, nat_tests) in
    rw (more slots x) (rw place (rw tests refl))

no_two_same : (slots : List (List ℕ)) (x : List ℕ) (e : ℕ) → has_no_two_bad (slots ++ x ∷ []) (e + 1) (length slots) ≡ has_no_two_bad slots (e + 1) (length slots)
no_two_same slots x e =
    each_same (e + 1 + 1) (length slots) (λ k. is_good (slot_at (slots ++ x ∷ []) (k - 1)) || is_good (slot_at (slots ++ x ∷ []) k)) (λ k. is_good (slot_at slots (k - 1)) || is_good (slot_at slots k))
    (λ k p q. let a = same_at slots x (k - 1) (omega arith) in let b = same_at slots x k q in rw (a, b) refl)

-- the last two slots are both bad, where the new one is
abbrev two_bad : List (List ℕ) → List ℕ → Bool
two_bad slots x = not (is_good x) && ends_bad slots

-- one of the last two is good
last_pair : (slots : List (List ℕ)) (x : List ℕ) → 0 < length slots → (is_good (slot_at (slots ++ x ∷ []) (length slots - 1)) || is_good (slot_at (slots ++ x ∷ []) (length slots))) ≡ not (two_bad slots x)
last_pair slots x h =
    let a = same_at slots x (length slots - 1) (omega arith) in
    let b = last_slot slots x in
    let c : nat_le 1 (length slots) ≡ true = grind (arith, nat_tests) in
    rw (a, b, c) (one_good (is_good (slot_at slots (length slots - 1))) (is_good x))

-- no two neighbours behind e are bad, the new slot among them
no_two_more : (slots : List (List ℕ)) (x : List ℕ) (e : ℕ) → e < length slots → ends_five_good slots e ≡ true → has_no_two_bad (slots ++ x ∷ []) (e + 1) (length slots + 1) ≡ (has_no_two_bad slots (e + 1) (length slots) && not (two_bad slots x))
no_two_more slots x e h five =
    let n = length slots in
    let pair = λ (k : ℕ). is_good (slot_at (slots ++ x ∷ []) (k - 1)) || is_good (slot_at (slots ++ x ∷ []) k) in
    ⊎_elim
    (λ (p : e + 1 < n).
    each_more (e + 1 + 1) n pair (omega arith)
    ∙ ap (λ (b : Bool). b && pair n) (no_two_same slots x e)
    ∙ ap (λ (b : Bool). has_no_two_bad slots (e + 1) n && b) (last_pair slots x (omega arith)))
    (λ (p : n ≤ e + 1).
    let place : n - 1 ≡ e = omega arith in
    let good : is_good (slot_at slots e) ≡ true = each_at (e - 4) (e + 1) (λ k. is_good (slot_at slots k)) e (and_parts (nat_le 4 e) (each_from (e - 4) (e + 1) (λ k. is_good (slot_at slots k))) five).1 (omega arith) (omega arith) in
    let last : is_good (slot_at slots (n - 1)) ≡ true = ap (λ (k : ℕ). is_good (slot_at slots k)) place ∙ good in
    let none : has_no_two_bad slots (e + 1) n ≡ true = each_none (e + 1 + 1) n (λ k. is_good (slot_at slots (k - 1)) || is_good (slot_at slots k)) (omega arith) in
    let never : two_bad slots x ≡ false = and_right (not (is_good x)) (ends_bad slots) (and_right (nat_le 1 n) (not (is_good (slot_at slots (n - 1)))) (ap not last)) in
    each_none (e + 1 + 1) (n + 1) pair (omega arith) ∙ sym (ap (λ (b : Bool). b && not (two_bad slots x)) none ∙ ap not never))
    (cases_lt (e + 1) n)

holds_more : (slots : List (List ℕ)) (x : List ℕ) (e : ℕ) → e < length slots → (ends_five_good (slots ++ x ∷ []) e && has_no_two_bad (slots ++ x ∷ []) (e + 1) (length slots + 1)) ≡ ((ends_five_good slots e && has_no_two_bad slots (e + 1) (length slots)) && not (two_bad slots x))
holds_more slots x e h =
    let a = five_same slots x e h in
    ⊎_elim
    (λ (t : ends_five_good slots e ≡ true).
    let b = no_two_more slots x e h t in
    ap (λ (c : Bool). c && has_no_two_bad (slots ++ x ∷ []) (e + 1) (length slots + 1)) (a ∙ t) ∙ b
    ∙ sym (ap (λ (c : Bool). (c && has_no_two_bad slots (e + 1) (length slots)) && not (two_bad slots x)) t))
    (λ (f : ends_five_good slots e ≡ false).
    ap (λ (c : Bool). c && has_no_two_bad (slots ++ x ∷ []) (e + 1) (length slots + 1)) (a ∙ f)
    ∙ sym (ap (λ (c : Bool). (c && has_no_two_bad slots (e + 1) (length slots)) && not (two_bad slots x)) f))
    (cases_Bool (ends_five_good slots e))

in_sync-more : (slots : List (List ℕ)) (x : List ℕ) → is_in_sync_behind (slots ++ x ∷ []) ≡ ((is_in_sync_behind slots && not (two_bad slots x)) || ends_good 5 (slots ++ x ∷ []))
in_sync-more slots x =
    let n = length slots in
    let new = slots ++ x ∷ [] in
    let held = λ (e : ℕ). ends_five_good new e && has_no_two_bad new (e + 1) (n + 1) in
    let before = λ (e : ℕ). ends_five_good slots e && has_no_two_bad slots (e + 1) n in
    let none : has_no_two_bad new (n + 1) (n + 1) ≡ true = each_none (n + 1 + 1) (n + 1) (λ k. is_good (slot_at new (k - 1)) || is_good (slot_at new k)) (omega arith) in
    let last : held n ≡ ends_good 5 new = ap (λ (b : Bool). ends_five_good new n && b) none ∙ and_true (ends_five_good new n) ∙ five_last slots x in
    rw (more slots x)
    (some_more n held
    ∙ ap (λ (b : Bool). b || held n) (some_same n held (λ e. before e && not (two_bad slots x)) (λ e h. holds_more slots x e h) ∙ some_and n before (not (two_bad slots x)))
    ∙ ap (λ (b : Bool). (is_in_sync_behind slots && not (two_bad slots x)) || b) (last ∙ ap (λ (k : ℕ). nat_le 5 k && each_from (k - 5) k (λ i. is_good (slot_at new i))) (more slots x)))

ends_bad-more : (slots : List (List ℕ)) (x : List ℕ) → ends_bad (slots ++ x ∷ []) ≡ not (is_good x)
ends_bad-more slots x =
    let n = length slots in
    let place : n + 1 - 1 ≡ n = omega arith in
    let some : nat_le 1 (n + 1) ≡ true = grind (arith, nat_tests) in
    rw (more slots x) (rw place (rw some (ap not (last_slot slots x))))

pub seen_more : (w : SyncState) (slots : List (List ℕ)) (x : List ℕ) → HasSeenSlots w slots → HasSeenSlots (behind w (not (is_good x))) (slots ++ x ∷ [])
unfolding behind
seen_more w slots x s =
    let bad = not (is_good x) in
    record {
      run = run_more w slots x s;
      in_sync = ap (λ (b : Bool). b || nat_le 5 (run_behind w.run bad)) (kept w.in_sync w.was_bad bad)
          ∙ ap (λ (b : Bool). (w.in_sync && not (bad && w.was_bad)) || b) (run_more w slots x s 5 (omega arith))
          ∙ ap (λ (b : Bool). (b && not (bad && w.was_bad)) || ends_good 5 (slots ++ x ∷ [])) s.in_sync
          ∙ ap (λ (b : Bool). (is_in_sync_behind slots && not (bad && b)) || ends_good 5 (slots ++ x ∷ [])) s.was_bad
          ∙ sym (in_sync-more slots x);
      was_bad = sym (ends_bad-more slots x);
    }

ends_bad-before : (slots : List (List ℕ)) (x : List ℕ) → (nat_le 1 (length slots) && not (is_good (slot_at (slots ++ x ∷ []) (length slots - 1)))) ≡ ends_bad slots
ends_bad-before slots x =
    ⊎_elim
    (λ (p : 0 < length slots). ap (λ (b : Bool). nat_le 1 (length slots) && not b) (same_at slots x (length slots - 1) (omega arith)))
    (λ (p : length slots ≤ 0).
    let none : nat_le 1 (length slots) ≡ false = grind (arith, nat_tests) in
    and_left (nat_le 1 (length slots)) (not (is_good (slot_at (slots ++ x ∷ []) (length slots - 1)))) none ∙ sym (and_left (nat_le 1 (length slots)) (not (is_good (slot_at slots (length slots - 1)))) none))
    (cases_lt 0 (length slots))

pub lost_now : (w : SyncState) (slots : List (List ℕ)) (x : List ℕ) → HasSeenSlots w slots → is_lost_by w (not (is_good x)) ≡ is_sync_lost_at (slots ++ x ∷ []) (length slots)
unfolding is_sync_lost_at
lost_now w slots x s =
    let n = length slots in
    let new = slots ++ x ∷ [] in
    let bad = not (is_good x) in
    let stood : some_from 0 n (λ e. ends_five_good new e && has_no_two_bad new (e + 1) n) ≡ is_in_sync_behind slots =
    some_same n (λ e. ends_five_good new e && has_no_two_bad new (e + 1) n) (λ e. ends_five_good slots e && has_no_two_bad slots (e + 1) n)
    (λ e h. let a = five_same slots x e h in let b = no_two_same slots x e in
    ap (λ (c : Bool). c && has_no_two_bad new (e + 1) n) a ∙ ap (λ (c : Bool). ends_five_good slots e && c) b) in
    reordered bad w.was_bad w.in_sync
    ∙ ap (λ (b : Bool). (b && bad) && w.in_sync) (s.was_bad ∙ sym (ends_bad-before slots x))
    ∙ ap (λ (b : Bool). ((nat_le 1 n && not (is_good (slot_at new (n - 1)))) && b) && w.in_sync) (ap not (sym (last_slot slots x)))
    ∙ ap (λ (b : Bool). ((nat_le 1 n && not (is_good (slot_at new (n - 1)))) && not (is_good (slot_at new n))) && b) (s.in_sync ∙ sym stood)
