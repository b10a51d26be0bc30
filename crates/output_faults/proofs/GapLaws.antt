-- When a gap is told of a thing that is watched, and which slots are marks.
use Rattle.std.proofs.Common.{◌≡◌, ℕ, suc, ◌+◌, ◌-◌, ◌<◌, ◌≤◌, ◌==◌, List, [], ◌∷◌, ◌++◌, length, take, drop, refl, sym, ◌∙◌, ap, arith, Bool, true, false, ◌&&◌, Option, Some}
use Rattle.std.specs.Prelude.{not, nat_le}
use Rattle.std.specs.List.{filter_map}
use Rattle.std.proofs.lemmas.Bool.{and_parts}
use Rattle.std.proofs.lemmas.Bool.Decides.{nat_tests}
use Rattle.std.proofs.lemmas.List.Elements.{filter_map-append}
use Rattle.std.proofs.Math.Seq.{drop-append_seam}
use Rattle.analyse.specs.Slots.{each_from}
use Rattle.analyse.specs.Gaps.{is_gap_at}
use Rattle.analyse.specs.Faults.{completed_by, completes}
use Rattle.analyse.proofs.RangeLaws.{each_at}

-- a gap: the thing was watched all the while, and no mark came
pub record IsGap (limit : ℕ) (watched mark : ℕ → Bool) (m : ℕ) : Type 0 where
  pub room : limit ≤ m
  pub watched_at : (k : ℕ) → m - limit ≤ k → k ≤ m → watched k ≡ true
  pub unmarked : (k : ℕ) → m - limit < k → k ≤ m → mark k ≡ true → ⊥

pub is_gap : (limit : ℕ) (watched mark : ℕ → Bool) (m : ℕ) → is_gap_at limit watched mark m ≡ true → IsGap limit watched mark m
unfolding is_gap_at
is_gap limit watched mark m gap =
    let parts = and_parts (nat_le limit m && each_from (m - limit) (m + 1) watched) (mark (m - limit) && each_from (m - limit + 1) (m + 1) (λ j. not (mark j))) gap in
    let each = and_parts (nat_le limit m) (each_from (m - limit) (m + 1) watched) parts.0 in
    let quiet = and_parts (mark (m - limit)) (each_from (m - limit + 1) (m + 1) (λ j. not (mark j))) parts.1 in
    record {
      room = (let y = each.0 in grind (arith, nat_tests, y));
      watched_at = λ k low high. each_at (m - limit) (m + 1) watched k each.1 low (omega arith);
      unmarked = λ k low high t.
          let here : not (mark k) ≡ true = each_at (m - limit + 1) (m + 1) (λ j. not (mark j)) k quiet.1 (omega arith) (omega arith) in
          let clash : false ≡ true = ap not (sym t) ∙ here in absurd cc;
    }

-- a slot that brings one more is a mark
pub completed : {X : Type 0} (sections_of : List (List ℕ) → List X) (slots : List (List ℕ)) (m : ℕ) (new : X) → sections_of (take (suc m) slots) ≡ sections_of (take m slots) ++ new ∷ [] → completes sections_of slots (suc m) ≡ true
completed {X = X} sections_of slots m new e =
    let back : suc m - 1 ≡ m = omega arith in
    let one : completed_by sections_of slots (suc m) ≡ new ∷ [] =
    ap (λ (i : ℕ). drop (length (sections_of (take i slots))) (sections_of (take (suc m) slots))) back
    ∙ ap (drop (length (sections_of (take m slots)))) e ∙ drop-append_seam (sections_of (take m slots)) (new ∷ []) in
    ap (λ (l : List X). not (length l == 0)) one

-- what is read of one section more
pub read_more : {V : Type 0} (read : List ℕ → Option V) (section : List ℕ) (v : V) (bs cs : List (List ℕ)) → read section ≡ Some v → cs ≡ bs ++ section ∷ [] → filter_map read cs ≡ filter_map read bs ++ v ∷ []
read_more read section v bs cs r e =
    let one : filter_map read (section ∷ []) ≡ v ∷ [] = rw r refl in
    ap (filter_map read) e ∙ filter_map-append read bs (section ∷ []) ∙ ap (λ l. filter_map read bs ++ l) one
