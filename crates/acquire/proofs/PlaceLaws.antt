-- What programs' finders find comes to their places, one by one.
use Rattle.std.proofs.Common.{◌≡◌, ℕ, zero, suc, ◌+◌, ◌<◌, List, [], ◌∷◌, ◌++◌, Option, Some, None, map, take, drop, length, get_or, slice_set, refl, sym, ◌∙◌, ap, arith, ◌≤◌}
use Rattle.std.specs.List.{zip}
use Rattle.std.proofs.lemmas.List.{get_or-map, length-map, take_all, drop_all, append-nil}
use Rattle.std.proofs.lemmas.List.Edits.{map_over_more}
use Rattle.std.proofs.lemmas.Slice.Zip.{length-zip, get_or-zip}
use Rattle.tables.specs.Pmt.{PmtValue}
use Rattle.acquire.specs.Findings.{or_later}
use Rattle.acquire.specs.Seen.{pmt_told, pmt_finder_behind, places_behind}
use Rattle.acquire.specs.declared.pmt_finder.PmtFinder.{PmtFinder}

-- the first i finders have read the packet
pub record HaveRead (p : List ℕ) (i : ℕ) (finders read : List PmtFinder) (found places : List (Option PmtValue)) : Type 0 where
  pub behind : read ≡ map (pmt_finder_behind p) (take i finders) ++ drop i finders
  pub placed : places ≡ take i (places_behind p finders found) ++ drop i found

-- ---- lists whose first i elements are new

set_next : {X : Type 0} (new old : List X) (i : ℕ) (y : X) → i < length old → length new ≡ length old → y ≡ get_or new i y
    → slice_set (take i new ++ drop i old) i y ≡ take (i + 1) new ++ drop (i + 1) old
set_next new [] i y l e at = absurd (omega arith)
set_next [] (z ∷ old) i y l e at = absurd (omega arith)
set_next (x ∷ new) (z ∷ old) zero y l e at = ap (λ w. w ∷ old) at
set_next (x ∷ new) (z ∷ old) (suc i) y l e at =
    let next : suc i + 1 ≡ suc (i + 1) = omega arith in
    rw next (ap (λ rest. x ∷ rest) (set_next new old i y (omega arith) (omega arith) at))

keep_next : {X : Type 0} (new old : List X) (i : ℕ) (y : X) → i < length old → length new ≡ length old → get_or new i y ≡ get_or old i y
    → take i new ++ drop i old ≡ take (i + 1) new ++ drop (i + 1) old
keep_next new [] i y l e at = absurd (omega arith)
keep_next [] (z ∷ old) i y l e at = absurd (omega arith)
keep_next (x ∷ new) (z ∷ old) zero y l e at = ap (λ w. w ∷ old) (sym at)
keep_next (x ∷ new) (z ∷ old) (suc i) y l e at =
    let next : suc i + 1 ≡ suc (i + 1) = omega arith in
    rw next (ap (λ rest. x ∷ rest) (keep_next new old i y (omega arith) (omega arith) at))

over_at : {X : Type 0} (f : X → X) (xs : List X) (i : ℕ) (d : X) → i < length xs → get_or (map f (take i xs) ++ drop i xs) i d ≡ get_or xs i d
over_at f [] i d l = absurd (omega arith)
over_at f (x ∷ xs) zero d l = refl
over_at f (x ∷ xs) (suc i) d l = over_at f xs i d (omega arith)

-- ---- the places

count_places : (p : List ℕ) (finders : List PmtFinder) (found : List (Option PmtValue)) → length finders ≡ length found → length (places_behind p finders found) ≡ length found
count_places p finders found e =
    length-map (zip finders found) (λ (q : PmtFinder × Option PmtValue). or_later (pmt_told p q.0) q.1) ∙ omega (arith, length-zip finders found)

place_at : (p : List ℕ) (finders : List PmtFinder) (found : List (Option PmtValue)) (i : ℕ) (f : PmtFinder) (o : Option PmtValue) → i < length finders → length finders ≡ length found
    → get_or (places_behind p finders found) i o ≡ or_later (pmt_told p (get_or finders i f)) (get_or found i o)
place_at p finders found i f o l e =
    let put = λ (q : PmtFinder × Option PmtValue). or_later (pmt_told p q.0) q.1 in
    get_or-map put (zip finders found) i (f, o) o (omega (arith, length-zip finders found))
    ∙ ap put (get_or-zip finders found i (f, o) l (omega arith))

-- ---- the next finder reads the packet

-- it finds the PMT
pub found_next : (p : List ℕ) (i : ℕ) (finders read : List PmtFinder) (found places : List (Option PmtValue)) (f g : PmtFinder) (pmt : PmtValue)
    → i < length finders → length finders ≡ length found → HaveRead p i finders read found places → f ≡ get_or read i f → g ≡ pmt_finder_behind p f → Some pmt ≡ pmt_told p f
    → HaveRead p (i + 1) finders (slice_set read i g) found (slice_set places i (Some pmt))
found_next p i finders read found places f g pmt l e before at g_is told =
    let same : f ≡ get_or finders i f = at ∙ ap (λ fs. get_or fs i f) before.behind ∙ over_at (pmt_finder_behind p) finders i f l in
    record {
      behind = ap (slice_set read i) g_is ∙ map_over_more (pmt_finder_behind p) finders read i f l before.behind at;
      placed = ap (λ os. slice_set os i (Some pmt)) before.placed
          ∙ set_next (places_behind p finders found) found i (Some pmt) (omega arith) (count_places p finders found e)
          (ap (λ o. or_later o (get_or found i (Some pmt))) (told ∙ ap (pmt_told p) same) ∙ sym (place_at p finders found i f (Some pmt) l e));
    }

-- it finds nothing
pub passed_next : (p : List ℕ) (i : ℕ) (finders read : List PmtFinder) (found places : List (Option PmtValue)) (f g : PmtFinder)
    → i < length finders → length finders ≡ length found → HaveRead p i finders read found places → f ≡ get_or read i f → g ≡ pmt_finder_behind p f → None ≡ pmt_told p f
    → HaveRead p (i + 1) finders (slice_set read i g) found places
passed_next p i finders read found places f g l e before at g_is told =
    let same : f ≡ get_or finders i f = at ∙ ap (λ fs. get_or fs i f) before.behind ∙ over_at (pmt_finder_behind p) finders i f l in
    record {
      behind = ap (slice_set read i) g_is ∙ map_over_more (pmt_finder_behind p) finders read i f l before.behind at;
      placed = before.placed
          ∙ keep_next (places_behind p finders found) found i None (omega arith) (count_places p finders found e)
          (place_at p finders found i f None l e ∙ ap (λ o. or_later o (get_or found i None)) (sym (told ∙ ap (pmt_told p) same)));
    }

-- ---- all have read it

pub all_placed : (p : List ℕ) (i : ℕ) (finders read : List PmtFinder) (found places : List (Option PmtValue)) → length finders ≡ length found → length finders ≤ i
    → HaveRead p i finders read found places → places ≡ places_behind p finders found
all_placed p i finders read found places e all have =
    have.placed ∙ ap (λ os. os ++ drop i found) (take_all i (places_behind p finders found) (omega (arith, count_places p finders found e)))
    ∙ ap (λ os. places_behind p finders found ++ os) (drop_all i found (omega arith)) ∙ append-nil (places_behind p finders found)

-- ---- what is no other is none

pub none_but_some : (o : Option PmtValue) → ((x : PmtValue) → o ≡ Some x → ⊥) → o ≡ None
none_but_some None n = refl
none_but_some (Some x) n = absurd (n x refl)
