-- The rows of programs, as the sections of the PAT come.
use Rattle.std.proofs.Common.{◌≡◌, ℕ, zero, suc, ◌+◌, ◌<◌, List, [], ◌∷◌, ◌++◌, length, take, get_or, refl, sym, ◌∙◌, ap, arith, append_assoc, Option, Some, None, Bool, true, false, ◌&&◌, ◌||◌}
use Rattle.std.specs.Prelude.{◌==◌, filter, filter_map, reverse, option_to_list, is_some, option_and_then}
use Rattle.std.specs.List.{list_any, flat_map, range_with_len, cons_option}
use Rattle.std.specs.Cmp.Lexicographic.{pointwise}
use Rattle.std.proofs.lemmas.Bool.{and_parts, eqb-true}
use Rattle.std.proofs.lemmas.List.{take_more}
use Rattle.std.proofs.lemmas.List.Elements.{filter-append, filter_map-append}
use Rattle.std.proofs.lemmas.List.Folds.{list_any-append}
use Rattle.section.specs.declared.told.Told.{Told}
use Rattle.tables.specs.InForce.{SectionValue, in_force}
use Rattle.tables.specs.Kept.{StandsFor}
use Rattle.tables.specs.Pat.{PatValue}
use Rattle.tables.specs.OnPid.{section_in, pat_section_of, pat_sections}
use Rattle.tables.specs.declared.pat_row.PatRow.{PatRow}
use Rattle.analyse.specs.Slots.{packets_in}
use Rattle.analyse.specs.InForce.{rows_of_section, pat_rows_behind, program_rows_behind}
use Rattle.analyse.specs.ProgramsWatching.{pat_in, pats_in, is_pat_in, is_program, programs_of_section, program_rows_of}
use Rattle.analyse.proofs.RangeLaws.{flat_more}

or_false : (x : Bool) → (x || false) ≡ x
or_false true = refl
or_false false = refl

-- ---- one more item

pub any_more : {X : Type 0} (test : X → Bool) (xs : List X) (i : ℕ) (x : X) → i < length xs → x ≡ get_or xs i x → list_any test (take (i + 1) xs) ≡ (list_any test (take i xs) || test x)
any_more {X = X} test xs i x h at =
    ap (list_any test) (take_more xs i x h ∙ ap (λ (y : X). take i xs ++ y ∷ []) (sym at))
    ∙ list_any-append test (take i xs) (x ∷ []) ∙ ap (λ (b : Bool). list_any test (take i xs) || b) (or_false (test x))

pub came_more : {X : Type 0} (test : X → Bool) (xs : List X) (i : ℕ) (x : X) (before now : Bool) → i < length xs → x ≡ get_or xs i x → before ≡ list_any test (take i xs) → now ≡ test x → (before || now) ≡ list_any test (take (i + 1) xs)
came_more test xs i x before now h at b n = rw (b, n) (sym (any_more test xs i x h at))

step_of : (o : Option (List ℕ)) → filter_map pat_section_of (cons_option o []) ≡ option_to_list (option_and_then pat_section_of o)
step_of None = refl
step_of (Some b) = last_of (pat_section_of b)
  where
    last_of : (o : Option (SectionValue PatValue)) → cons_option o [] ≡ option_to_list o
    last_of None = refl
    last_of (Some s) = refl

pub pats_more : (told : List Told) (i : ℕ) (x : Told) → i < length told → x ≡ get_or told i x → pats_in (take (i + 1) told) ≡ pats_in (take i told) ++ option_to_list (pat_in x)
pats_more told i x h at =
    ap pats_in (take_more told i x h ∙ ap (λ (y : Told). take i told ++ y ∷ []) (sym at))
    ∙ ap (filter_map pat_section_of) (filter_map-append section_in (take i told) (x ∷ []))
    ∙ filter_map-append pat_section_of (filter_map section_in (take i told)) (filter_map section_in (x ∷ []))
    ∙ ap (λ (l : List (SectionValue PatValue)). pats_in (take i told) ++ l) (step_of (section_in x))

-- the sections so far, and those of one more item
pub run_more : (told : List Told) (i : ℕ) (x : Told) (first run new : List (SectionValue PatValue)) → i < length told → x ≡ get_or told i x → ((sections : List (SectionValue PatValue)) → StandsFor first (reverse sections) → StandsFor run (reverse (sections ++ pats_in (take i told)))) → ((sections : List (SectionValue PatValue)) → StandsFor run (reverse sections) → StandsFor new (reverse (sections ++ option_to_list (pat_in x)))) → (sections : List (SectionValue PatValue)) → StandsFor first (reverse sections) → StandsFor new (reverse (sections ++ pats_in (take (i + 1) told)))
run_more told i x first run new h at before step sections s =
    let more : (sections ++ pats_in (take i told)) ++ option_to_list (pat_in x) ≡ sections ++ pats_in (take (i + 1) told) =
    append_assoc sections (pats_in (take i told)) (option_to_list (pat_in x)) ∙ ap (λ (l : List (SectionValue PatValue)). sections ++ l) (sym (pats_more told i x h at)) in
    rw (← more) (step (sections ++ pats_in (take i told)) (before sections s))

-- nothing of the PAT was told
none_in : (o : Option (List ℕ)) (rest : List (List ℕ)) → is_some (option_and_then pat_section_of o) ≡ false → filter_map pat_section_of (cons_option o rest) ≡ filter_map pat_section_of rest
none_in None rest e = refl
none_in (Some b) rest e = none_of (pat_section_of b) e
  where
    none_of : (p : Option (SectionValue PatValue)) → is_some p ≡ false → cons_option p (filter_map pat_section_of rest) ≡ filter_map pat_section_of rest
    none_of None e = refl
    none_of (Some s) e = absurd (cc)

pub parts_false : (x y : Bool) → (x || y) ≡ false → (x ≡ false) × (y ≡ false)
parts_false true y e = absurd (cc)
parts_false false y e = (refl, e)

pub no_pats : (told : List Told) → list_any is_pat_in told ≡ false → pats_in told ≡ []
no_pats [] e = refl
no_pats (t ∷ told) e =
    let parts = parts_false (is_pat_in t) (list_any is_pat_in told) e in
    none_in (section_in t) (filter_map section_in told) parts.0 ∙ no_pats told parts.1

-- ---- the rows

pub rows_more : (sections : List (SectionValue PatValue)) (n : ℕ) → filter is_program (flat_map (λ k. rows_of_section (in_force sections k)) (range_with_len 0 (n + 1))) ≡ filter is_program (flat_map (λ k. rows_of_section (in_force sections k)) (range_with_len 0 n)) ++ programs_of_section (in_force sections n)
rows_more sections n =
    let f = λ (k : ℕ). rows_of_section (in_force sections k) in
    let size : n + 1 ≡ suc n = omega arith in
    let last : 0 + n ≡ n = omega arith in
    ap (λ (k : ℕ). filter is_program (flat_map f (range_with_len 0 k))) size
    ∙ ap (filter is_program) (flat_more f 0 n)
    ∙ filter-append is_program (flat_map f (range_with_len 0 n)) (f (0 + n))
    ∙ ap (λ (k : ℕ). filter is_program (flat_map f (range_with_len 0 n)) ++ filter is_program (f k)) last

pub rows_all : (sections : List (SectionValue PatValue)) (n : ℕ) → n ≡ 256 → filter is_program (flat_map (λ k. rows_of_section (in_force sections k)) (range_with_len 0 n)) ≡ program_rows_of sections
unfolding program_rows_of
rows_all sections n e = ap (λ (k : ℕ). filter is_program (flat_map (λ k. rows_of_section (in_force sections k)) (range_with_len 0 k))) e

none_from : (first n : ℕ) → flat_map (λ k. rows_of_section (in_force [] k)) (range_with_len first n) ≡ []
none_from first zero = refl
none_from first (suc n) = none_from (first + 1) n

pub no_rows : (n : ℕ) → n ≡ 256 → [] ≡ program_rows_of []
no_rows n e = sym (ap (filter is_program) (none_from 0 n)) ∙ rows_all [] n e

pub rows_behind : (slots : List (List ℕ)) → program_rows_of (reverse (pat_sections (packets_in slots))) ≡ program_rows_behind slots
unfolding program_rows_of pat_rows_behind
rows_behind slots = refl

-- ---- rows that are the same

same_row : (x y : PatRow) → (x.program_number == y.program_number && x.pid == y.pid) ≡ true → x ≡ y
same_row x y e =
    let parts = and_parts (x.program_number == y.program_number) (x.pid == y.pid) e in
    let program = eqb-true _ _ parts.0 in
    let pid = eqb-true _ _ parts.1 in
    λ i. record { program_number = program i; pid = pid i }

pub same_rows : (xs ys : List PatRow) → pointwise (λ (x y : PatRow). x.program_number == y.program_number && x.pid == y.pid) xs ys ≡ true → xs ≡ ys
same_rows [] [] e = refl
same_rows [] (y ∷ ys) e = absurd (cc)
same_rows (x ∷ xs) [] e = absurd (cc)
same_rows (x ∷ xs) (y ∷ ys) e =
    let parts = and_parts (x.program_number == y.program_number && x.pid == y.pid) (pointwise (λ (x y : PatRow). x.program_number == y.program_number && x.pid == y.pid) xs ys) e in
    let first = same_row x y parts.0 in
    let rest = same_rows xs ys parts.1 in
    λ i. first i ∷ rest i
