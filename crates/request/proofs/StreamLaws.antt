-- The streams of a plan, found row by row.
use Rattle.std.proofs.Common.{ℕ, zero, suc, get_or, drop, ◌+◌, ◌<◌, ◌≤◌, ◌≡◌, ◌||◌, ◌&&◌, Bool, true, false, not, List, [], ◌∷◌, ◌++◌, map, length, refl, ap, ◌∙◌, sym, arith, append_assoc, append-nil, length-append}
use Rattle.std.specs.Ordering.{int_eq}
use Rattle.std.proofs.lemmas.Cmp.{int_eq_equiv}
use Rattle.std.specs.List.{list_any, filter}
use Rattle.std.proofs.lemmas.Bool.{and_parts}
use Rattle.std.proofs.lemmas.List.Folds.{list_any-append}
use Rattle.std.proofs.lemmas.List.Elements.{filter_agree}
use Rattle.request.specs.declared.stream_row.StreamRow.{StreamRow}
use Rattle.request.specs.declared.service_parts.ServiceParts.{ServiceParts}
use Rattle.request.specs.Parts.{service_parts_value}
use Rattle.request.specs.Request.{has_same_source, without_repeats, service_rows, rows_of}
use Rattle.request.specs.Collected.{with_row, with_rows}
use Rattle.request.proofs.ListLaws.{filter-filter}

-- having one source is an equivalence
pub same_source_symm : (a b : StreamRow) → has_same_source a b ≡ has_same_source b a
same_source_symm a b = ap (λ x. x && int_eq a.pid b.pid) (int_eq_equiv.symm a.input b.input) ∙ ap (λ x. int_eq b.input a.input && x) (int_eq_equiv.symm a.pid b.pid)

pub same_source_congr : (a b c : StreamRow) → has_same_source a b ≡ true → has_same_source a c ≡ has_same_source b c
same_source_congr a b c e =
    let both = and_parts (int_eq a.input b.input) (int_eq a.pid b.pid) e in
    ap (λ x. x && int_eq a.pid c.pid) (int_eq_equiv.congr a.input b.input c.input both.0) ∙ ap (λ x. int_eq b.input c.input && x) (int_eq_equiv.congr a.pid b.pid c.pid both.1)

found_same : (a b : StreamRow) (found : List StreamRow) → has_same_source a b ≡ true → list_any (has_same_source a) found ≡ list_any (has_same_source b) found
found_same a b [] e = refl
found_same a b (x ∷ xs) e = ap (λ t. t || list_any (has_same_source a) xs) (same_source_congr a b x e) ∙ ap (λ t. has_same_source b x || t) (found_same a b xs e)

-- whether a row is still to be found
abbrev is_new : List StreamRow → StreamRow → Bool
is_new found x = not (list_any (has_same_source x) found)

-- the rows that differ from one that was found
keeps : (row : StreamRow) (found : List StreamRow) (x : StreamRow) → list_any (has_same_source row) found ≡ true → (s : Bool) → has_same_source row x ≡ s → (not s && is_new found x) ≡ is_new found x
keeps row found x e false s = refl
keeps row found x e true s = sym (ap not (sym (found_same row x found s) ∙ e))

adds : (row : StreamRow) (found : List StreamRow) (x : StreamRow) (a b : Bool) → list_any (has_same_source x) found ≡ a → has_same_source row x ≡ b → (not (has_same_source row x) && is_new found x) ≡ is_new (found ++ row ∷ []) x
adds row found x a b e f =
    rw (list_any-append (has_same_source x) found (row ∷ []), same_source_symm x row, e, f) (parts a b)
  where
    parts : (a b : Bool) → (not b && not a) ≡ not (a || (b || false))
    parts true true = refl
    parts true false = refl
    parts false true = refl
    parts false false = refl

-- what was found already adds nothing
old_row : (row : StreamRow) (rows found : List StreamRow) → list_any (has_same_source row) found ≡ true
    → filter (is_new found) (without_repeats (row ∷ rows)) ≡ filter (is_new found) (without_repeats rows)
unfolding without_repeats
old_row row rows found e =
    let f : is_new found row ≡ false = ap not e in
    rw f (filter-filter (is_new found) (λ other. not (has_same_source row other)) (without_repeats rows)
    ∙ filter_agree (λ x. not (has_same_source row x) && is_new found x) (is_new found) (λ x. keeps row found x e (has_same_source row x) refl) (without_repeats rows))

new_row : (row : StreamRow) (rows found : List StreamRow) → list_any (has_same_source row) found ≡ false
    → filter (is_new found) (without_repeats (row ∷ rows)) ≡ row ∷ filter (is_new (found ++ row ∷ [])) (without_repeats rows)
unfolding without_repeats
new_row row rows found e =
    let f : is_new found row ≡ true = ap not e in
    rw f (ap (λ xs. row ∷ xs) (filter-filter (is_new found) (λ other. not (has_same_source row other)) (without_repeats rows)
    ∙ filter_agree (λ x. not (has_same_source row x) && is_new found x) (is_new (found ++ row ∷ [])) (λ x. adds row found x (list_any (has_same_source x) found) (has_same_source row x) refl refl) (without_repeats rows)))

-- going on from those that were found adds the streams of the rest that are new
abbrev Goes : List StreamRow → Type 0
Goes rows = (found : List StreamRow) → with_rows found rows ≡ found ++ filter (is_new found) (without_repeats rows)

next_row : (row : StreamRow) (rows : List StreamRow) → Goes rows → (found : List StreamRow) (a : Bool) → list_any (has_same_source row) found ≡ a
    → with_rows (with_row found row) rows ≡ found ++ filter (is_new found) (without_repeats (row ∷ rows))
next_row row rows ih found true e = rw e (ih found ∙ ap (λ xs. found ++ xs) (sym (old_row row rows found e)))
next_row row rows ih found false e =
    rw e (ih (found ++ row ∷ []) ∙ append_assoc found (row ∷ []) (filter (is_new (found ++ row ∷ [])) (without_repeats rows))
    ∙ ap (λ xs. found ++ xs) (sym (new_row row rows found e)))

pub with_rows_is : (rows : List StreamRow) → Goes rows
unfolding with_rows without_repeats
with_rows_is [] found = sym (append-nil found)
with_rows_is (row ∷ rows) found = next_row row rows (with_rows_is rows) found (list_any (has_same_source row) found) refl

-- beginning with none finds all
none_is_new : (xs : List StreamRow) → filter (is_new []) xs ≡ xs
none_is_new [] = refl
none_is_new (x ∷ xs) = ap (λ ys. x ∷ ys) (none_is_new xs)

pub with_rows_all : (rows : List StreamRow) → with_rows [] rows ≡ without_repeats rows
with_rows_all rows = with_rows_is rows [] ∙ none_is_new (without_repeats rows)

-- what was found stays
pub with_rows_grows : (rows found : List StreamRow) → length found ≤ length (with_rows found rows)
with_rows_grows rows found = rw with_rows_is (omega (arith, length-append found (filter (is_new found) (without_repeats rows))))

pub with_rows-append : (xs ys found : List StreamRow) → with_rows found (xs ++ ys) ≡ with_rows (with_rows found xs) ys
unfolding with_rows
with_rows-append [] ys found = refl
with_rows-append (x ∷ xs) ys found = with_rows-append xs ys (with_row found x)

-- the row at a place has no place among those that were found
pub row_full : {X : Type 0} (f : X → StreamRow) (found : List StreamRow) (xs : List X) (i : ℕ) (d : X) (n : ℕ) → i < length xs
    → n < length (with_row found (f (get_or xs i d))) → n < length (with_rows found (map f (drop i xs)))
unfolding with_rows
row_full f found [] i d n l h = absurd (omega arith)
row_full f found (x ∷ xs) zero d n l h = omega (arith, with_rows_grows (map f xs) (with_row found (f x)))
row_full f found (x ∷ xs) (suc i) d n l h = row_full f found xs i d n (omega arith) h

-- the rows from a service's on are its own, and those behind
pub next_service : (found : List StreamRow) (xs : List ServiceParts) (i : ℕ) (d : ServiceParts) → i < length xs
    → with_rows found (rows_of (map service_parts_value (drop i xs)))
    ≡ with_rows (with_rows found (service_rows (service_parts_value (get_or xs i d)))) (rows_of (map service_parts_value (drop (i + 1) xs)))
next_service found [] i d l = absurd (omega arith)
next_service found (x ∷ xs) zero d l = with_rows-append (service_rows (service_parts_value x)) (rows_of (map service_parts_value xs)) found
next_service found (x ∷ xs) (suc i) d l =
    let e : suc i + 1 ≡ suc (i + 1) = omega arith in
    rw e (next_service found xs i d (omega arith))

-- the rows of a service have no place among those that were found
pub service_full : (found : List StreamRow) (xs : List ServiceParts) (i : ℕ) (d : ServiceParts) (n : ℕ) → i < length xs
    → n < length (with_rows found (service_rows (service_parts_value (get_or xs i d)))) → n < length (with_rows found (rows_of (map service_parts_value (drop i xs))))
service_full found xs i d n l h =
    let here = with_rows found (service_rows (service_parts_value (get_or xs i d))) in
    rw (next_service found xs i d l) (omega (arith, with_rows_grows (rows_of (map service_parts_value (drop (i + 1) xs))) here))
