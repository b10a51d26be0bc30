-- The step that adds an entry keeps the rule.
use Rattle.std.proofs.Common.{◌≡◌, ℕ, ◌+◌, ◌<◌, ◌==◌, Bool, true, false, List, [], ◌∷◌, ◌++◌, length, MatchBool, refl, ap, sym, ◌∙◌, subst, arith, inl, length-append, None}
use Rattle.std.proofs.lemmas.List.{append-nil}
use Rattle.std.proofs.lemmas.Bool.Decides.{nat_tests}
use mathlib.Core.List.{IsPrefix}
use prog.Atomic.{either}
use Rattle.logbook.specs.Pages.{Cell, cell, keeps, no_nib, step, Moves, Goes}
use Rattle.marks.specs.declared.entry.Entry.{Entry}
use Rattle.marks.specs.Entries.{has_seal, IsSealedLast}
use Rattle.marks.specs.SealedLast.{IsKept, Adds}
use Rattle.marks.proofs.MarkLaws.{sealed_last_add}

abbrev pub shown : List Entry → List Entry
shown log = []

abbrev pub moved : List Entry → List Entry → ℕ → Type 0
moved xs ys n = Unit {0}

-- a beginning as long as the whole is the whole
whole : {A : Type 0} (xs ys : List A) → IsPrefix xs ys → length xs ≡ length ys → xs ≡ ys
whole [] [] p e = refl
whole [] (y ∷ ys) p e = absurd (omega arith)
whole (x ∷ xs) [] p e = absurd (omega arith)
whole (x ∷ xs) (y ∷ ys) p e = let r = whole xs ys (p.0, cc (p.1)) (omega arith) in cc (p.1, r)

adds_goes : (log v : List Entry) (e : Entry) (old : ℕ) → length v ≡ old → has_seal v ≡ false → IsSealedLast log → IsPrefix v log
    → (b : Bool) → (length log == old) ≡ b
    → Goes IsKept shown moved 0 (v, (no_nib, None)) (λ n. either (n == old) (old + 1) n) (Adds (step 0 old (old + 1) e) (v, (no_nib, None))) ((length log, true) ∷ (0, true) ∷ []) log
adds_goes log v e old len loose last pre true is =
    let here : length log ≡ old = grind (arith, nat_tests) in
    let same : v ≡ log = whole v log pre (len ∙ sym here) in
    let n : either (length log == old) (old + 1) (length log) ≡ length (log ++ e ∷ []) = rw is (omega (arith, length-append log (e ∷ []))) in (
      keeps,
      e ∷ [],
      None,
      tt,
      record { words = ap (λ (k : ℕ). (k, true) ∷ (0, true) ∷ []) n; sealed_last = sealed_last_add log e last (ap has_seal (sym same) ∙ loose) },
      inl (refl, refl),
      rw is (ap (λ w. w ++ e ∷ []) (sym same)),
    )
adds_goes log v e old len loose last pre false is =
    let all : log ++ [] ≡ log = append-nil log in
    let n : either (length log == old) (old + 1) (length log) ≡ length (log ++ []) = rw is (ap length (sym all)) in (
      keeps,
      [],
      None,
      tt,
      record { words = ap (λ (k : ℕ). (k, true) ∷ (0, true) ∷ []) n; sealed_last = subst IsSealedLast (sym all) last },
      inl (refl, refl),
      rw is (tt),
    )

-- whatever the sequence is, the step adds the entry to all that was seen, or changes nothing
pub adds_moves : (v : List Entry) (e : Entry) (old : ℕ) → length v ≡ old → has_seal v ≡ false
    → Moves IsKept shown moved 0 (v, (no_nib, None)) (λ n. either (n == old) (old + 1) n) (Adds (step 0 old (old + 1) e) (v, (no_nib, None)))
adds_moves v e old len loose cs log kept pre away =
    let P : List Cell → Type 0 = λ c. (0 < length c) × ((cell c 0).1 ≡ true) × Goes IsKept shown moved 0 (v, (no_nib, None)) (λ n. either (n == old) (old + 1) n) (Adds (step 0 old (old + 1) e) (v, (no_nib, None))) c log in
    subst P (sym kept.words) (omega arith, refl, adds_goes log v e old len loose kept.sealed_last pre (length log == old) refl)

-- where the word was as expected, the entry was added
pub entry_added : (v w : List Entry) (e : Entry) (found old : ℕ) → MatchBool (found == old) (w ≡ v ++ e ∷ []) (Unit {0}) → found ≡ old → w ≡ v ++ e ∷ []
entry_added v w e found old a is = let t : (found == old) ≡ true = grind (arith, nat_tests) in rw t at a
