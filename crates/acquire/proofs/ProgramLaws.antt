-- The PMTs of programs are sought behind the PAT.
use Rattle.std.proofs.Common.{◌≡◌, ℕ, ◌+◌, ◌<◌, ◌==◌, Bool, true, false, cond, List, [], ◌∷◌, ◌++◌, Option, Some, None, is_some, option_map, option_and_then, map, filter_map, find, drop, length, get_or, refl, sym, ◌∙◌, ap, append_assoc}
use Rattle.std.specs.List.{flat_map, zip}
use Rattle.std.specs.Option.{option_or}
use Rattle.std.proofs.lemmas.List.{append-nil, drop_more}
use Rattle.std.proofs.lemmas.List.Folds.{find-append}
use Rattle.tables.specs.InForce.{SectionValue}
use Rattle.tables.specs.Kept.{tables_of}
use Rattle.tables.specs.OnPid.{value_of, pat_section_of, pat_sections, pmts_on, sections_in}
use Rattle.tables.specs.Pat.{PatValue}
use Rattle.tables.specs.Pmt.{PmtValue, pmt_of}
use Rattle.tables.specs.declared.pat_row.PatRow.{PatRow}
use Rattle.acquire.specs.Findings.{or_later, first_complete, pat_found, behind_pat_from, behind_pat, is_row_of_program, pmt_pid_of, first_pmt_on, pmt_found}
use Rattle.tables.specs.SectionReading.{ReaderState, reader_on, reader_step, reader_behind}
use Rattle.tables.proofs.SectionReadingLaws.{reader_more}
use Rattle.acquire.specs.Taken.{FirstTableState, HasTaken}
use Rattle.acquire.specs.Seen.{is_pmt_of, pmts_in, pmt_finder_on, pmt_told, pmt_finder_behind, places_behind, pmt_finder_begun, pmt_finder_of}
use Rattle.acquire.specs.declared.pmt_finder.PmtFinder.{PmtFinder}
use Rattle.acquire.proofs.TakenLaws.{or_none, first_stays}
use Rattle.acquire.proofs.ReadingLaws.{values_more, none_of}

-- ---- the rows of the PAT

rows_of_tables : (sections : List (SectionValue PatValue)) → flat_map (λ (s : SectionValue PatValue). s.table.rows) sections ≡ flat_map (λ (p : PatValue). p.rows) (tables_of sections)
rows_of_tables [] = refl
rows_of_tables (s ∷ sections) = ap (λ l. s.table.rows ++ l) (rows_of_tables sections)

rows_at : (o : Option (List (SectionValue PatValue)))
    → option_map (flat_map (λ (s : SectionValue PatValue). s.table.rows)) o ≡ option_map (flat_map (λ (p : PatValue). p.rows)) (option_map tables_of o)
rows_at None = refl
rows_at (Some sections) = ap Some (rows_of_tables sections)

pub rows_found : (t : FirstTableState PatValue) (packets : List (List ℕ)) → HasTaken t (pat_sections packets)
    → pat_found packets ≡ option_map (flat_map (λ (p : PatValue). p.rows)) t.found
rows_found t packets taken =
    rows_at (first_complete (pat_sections packets)) ∙ ap (option_map (flat_map (λ (p : PatValue). p.rows))) (sym taken.found)

mapped_stays : {V W : Type 0} (f : V → W) (o other : Option V) (w : W) → option_map f o ≡ Some w → ((t : V) → o ≡ Some t → other ≡ Some t) → option_map f other ≡ Some w
mapped_stays f None other w e stays = absurd (cc)
mapped_stays f (Some t) other w e stays = ap (option_map f) (stays t refl) ∙ e

found_stays_one : (packets : List (List ℕ)) (p : List ℕ) (rows : List PatRow) → pat_found packets ≡ Some rows → pat_found (packets ++ p ∷ []) ≡ Some rows
found_stays_one packets p rows e =
    mapped_stays (flat_map (λ (s : SectionValue PatValue). s.table.rows)) (first_complete (pat_sections packets)) (first_complete (pat_sections (packets ++ p ∷ []))) rows e
    (λ t h. ap first_complete (values_more pat_section_of 0 packets p) ∙ first_stays (pat_sections packets) (filter_map pat_section_of (sections_in (reader_step (reader_on 0 packets) p).told)) t h)

found_stays : (packets more : List (List ℕ)) (rows : List PatRow) → pat_found packets ≡ Some rows → pat_found (packets ++ more) ≡ Some rows
found_stays packets [] rows e = ap pat_found (append-nil packets) ∙ e
found_stays packets (p ∷ more) rows e =
    ap pat_found (sym (append_assoc packets (p ∷ []) more)) ∙ found_stays (packets ++ p ∷ []) more rows (found_stays_one packets p rows e)

is_found_stays : (packets more : List (List ℕ)) (o : Option (List PatRow)) → pat_found packets ≡ o → is_some o ≡ true → is_some (pat_found (packets ++ more)) ≡ true
is_found_stays packets more None e s = absurd (cc)
is_found_stays packets more (Some rows) e s = ap is_some (found_stays packets more rows e)

-- ---- the packets behind the PAT

true_is_false : true ≡ false → ⊥
true_is_false e = cc

not_before : (before rest : List (List ℕ)) (x : List ℕ) (b : Bool) → is_some (pat_found (before ++ x ∷ [])) ≡ b → is_some (pat_found (before ++ x ∷ rest)) ≡ false → b ≡ false
not_before before rest x true e n =
    absurd (true_is_false (sym (is_found_stays (before ++ x ∷ []) rest (pat_found (before ++ x ∷ [])) refl e) ∙ ap (λ l. is_some (pat_found l)) (append_assoc before (x ∷ []) rest) ∙ n))
not_before before rest x false e n = refl

behind_none_from : (before packets : List (List ℕ)) (p : List ℕ) → is_some (pat_found (before ++ packets)) ≡ false → behind_pat_from before (packets ++ p ∷ []) ≡ []
behind_none_from before [] p n =
    let none : List (List ℕ) = [] in
    let by : (b : Bool) → cond b none none ≡ none = elim [ true ↦ refl | false ↦ refl ] in
    by (is_some (pat_found (before ++ p ∷ [])))
behind_none_from before (x ∷ packets) p n =
    ap (λ b. cond b (packets ++ p ∷ []) (behind_pat_from (before ++ x ∷ []) (packets ++ p ∷ []))) (not_before before packets x (is_some (pat_found (before ++ x ∷ []))) refl n)
    ∙ behind_none_from (before ++ x ∷ []) packets p (ap (λ l. is_some (pat_found l)) (append_assoc before (x ∷ []) packets) ∙ n)

behind_some_from : (before packets : List (List ℕ)) (p : List ℕ) → is_some (pat_found before) ≡ false → is_some (pat_found (before ++ packets)) ≡ true
    → behind_pat_from before (packets ++ p ∷ []) ≡ behind_pat_from before packets ++ p ∷ []
behind_some_from before [] p n s = absurd (true_is_false (sym s ∙ ap (λ l. is_some (pat_found l)) (append-nil before) ∙ n))
behind_some_from before (x ∷ packets) p n s =
    let by : (b : Bool) → is_some (pat_found (before ++ x ∷ [])) ≡ b
    → cond b (packets ++ p ∷ []) (behind_pat_from (before ++ x ∷ []) (packets ++ p ∷ [])) ≡ cond b packets (behind_pat_from (before ++ x ∷ []) packets) ++ p ∷ []
    = elim [ true ↦ λ e. refl | false ↦ λ e. behind_some_from (before ++ x ∷ []) packets p e (ap (λ l. is_some (pat_found l)) (append_assoc before (x ∷ []) packets) ∙ s) ] in
    by (is_some (pat_found (before ++ x ∷ []))) refl

-- ---- the PMT of a program

or_is : {V : Type 0} (o p : Option V) → option_or o p ≡ or_later o p
or_is None p = refl
or_is (Some x) p = refl

first_more : (pid program : ℕ) (packets : List (List ℕ)) (p : List ℕ)
    → or_later (first_pmt_on pid program packets) (find (is_pmt_of program) (pmts_in (reader_step (reader_on pid packets) p).told)) ≡ first_pmt_on pid program (packets ++ p ∷ [])
first_more pid program packets p =
    let later = pmts_in (reader_step (reader_on pid packets) p).told in
    sym (ap (find (is_pmt_of program)) (values_more (λ b. value_of (pmt_of b)) pid packets p)
    ∙ find-append (is_pmt_of program) (pmts_on pid packets) later
    ∙ or_is (find (is_pmt_of program) (pmts_on pid packets)) (find (is_pmt_of program) later))

finder_with : ℕ → Option ReaderState → PmtFinder
finder_with program reader = record { program = program; reader = reader }

-- a reader goes on until the PMT is found
unless_found : Option PmtValue → ReaderState → Option ReaderState
unless_found found reader = cond (is_some found) None (Some reader)

finder_step : (program : ℕ) (p : List ℕ) (r : ReaderState) (o : Option PmtValue)
    → pmt_finder_behind p (finder_with program (unless_found o r))
    ≡ finder_with program (unless_found (or_later o (find (is_pmt_of program) (pmts_in (reader_step r p).told))) (reader_behind r p))
unfolding finder_with unless_found
finder_step program p r None = refl
finder_step program p r (Some x) = refl

pmt_more : (program : ℕ) (pid : Option ℕ) (packets : List (List ℕ)) (p : List ℕ) → pmt_finder_behind p (pmt_finder_on program pid packets) ≡ pmt_finder_on program pid (packets ++ p ∷ [])
unfolding finder_with unless_found
pmt_more program None packets p = refl
pmt_more program (Some pid) packets p =
    let r = reader_on pid packets in
    finder_step program p r (first_pmt_on pid program packets)
    ∙ ap (λ o. finder_with program (unless_found o (reader_behind r p))) (first_more pid program packets p)
    ∙ ap (λ s. finder_with program (unless_found (first_pmt_on pid program (packets ++ p ∷ [])) s)) (reader_more pid packets p)

told_step : (program : ℕ) (p : List ℕ) (r : ReaderState) (o : Option PmtValue)
    → or_later (pmt_told p (finder_with program (unless_found o r))) o ≡ or_later o (find (is_pmt_of program) (pmts_in (reader_step r p).told))
unfolding finder_with unless_found
told_step program p r None = or_none (find (is_pmt_of program) (pmts_in (reader_step r p).told))
told_step program p r (Some x) = refl

found_more : (program : ℕ) (pid : Option ℕ) (packets : List (List ℕ)) (p : List ℕ)
    → or_later (pmt_told p (pmt_finder_on program pid packets)) (option_and_then (λ pid. first_pmt_on pid program packets) pid)
    ≡ option_and_then (λ pid. first_pmt_on pid program (packets ++ p ∷ [])) pid
unfolding finder_with unless_found
found_more program None packets p = refl
found_more program (Some pid) packets p =
    told_step program p (reader_on pid packets) (first_pmt_on pid program packets) ∙ first_more pid program packets p

nothing_yet : (program : ℕ) (pid : Option ℕ) → option_and_then (λ pid. first_pmt_on pid program []) pid ≡ None
nothing_yet program None = refl
nothing_yet program (Some pid) = refl

map_of_map : {A B C : Type 0} (f : B → C) (g : A → B) (h : A → C) (xs : List A) → ((x : A) → f (g x) ≡ h x) → map f (map g xs) ≡ map h xs
map_of_map f g h [] e = refl
map_of_map f g h (x ∷ xs) e = ap (λ y. y ∷ map f (map g xs)) (e x) ∙ ap (λ l. h x ∷ l) (map_of_map f g h xs e)

map_alike : {A B : Type 0} (f g : A → B) (xs : List A) → ((x : A) → f x ≡ g x) → map f xs ≡ map g xs
map_alike f g [] e = refl
map_alike f g (x ∷ xs) e = ap (λ y. y ∷ map f xs) (e x) ∙ ap (λ l. g x ∷ l) (map_alike f g xs e)

map_of_zip : {A B C D : Type 0} (f : B × C → D) (g : A → B) (h : A → C) (k : A → D) (xs : List A) → ((x : A) → f (g x, h x) ≡ k x) → map f (zip (map g xs) (map h xs)) ≡ map k xs
map_of_zip f g h k [] e = refl
map_of_zip f g h k (x ∷ xs) e = ap (λ y. y ∷ map f (zip (map g xs) (map h xs))) (e x) ∙ ap (λ l. k x ∷ l) (map_of_zip f g h k xs e)

found_again : (packets : List (List ℕ)) (p : List ℕ) (o : Option (List PatRow)) → pat_found packets ≡ o → is_some o ≡ true → pat_found packets ≡ pat_found (packets ++ p ∷ [])
found_again packets p None e s = absurd (cc)
found_again packets p (Some rows) e s = e ∙ sym (found_stays_one packets p rows e)

-- behind the PAT each packet goes on
pub begun_more : (packets : List (List ℕ)) (p : List ℕ) (programs : List ℕ) → is_some (pat_found packets) ≡ true
    → map (pmt_finder_behind p) (map (pmt_finder_of packets) programs) ≡ map (pmt_finder_of (packets ++ p ∷ [])) programs
begun_more packets p programs s =
    map_of_map (pmt_finder_behind p) (pmt_finder_of packets) (pmt_finder_of (packets ++ p ∷ [])) programs
    (λ program.
    pmt_more program (option_and_then (pmt_pid_of program) (pat_found packets)) (behind_pat packets) p
    ∙ ap (λ o. pmt_finder_on program (option_and_then (pmt_pid_of program) o) (behind_pat packets ++ p ∷ [])) (found_again packets p (pat_found packets) refl s)
    ∙ ap (pmt_finder_on program (option_and_then (pmt_pid_of program) (pat_found (packets ++ p ∷ [])))) (sym (behind_some_from [] packets p refl s)))

pub places_more : (packets : List (List ℕ)) (p : List ℕ) (programs : List ℕ) → is_some (pat_found packets) ≡ true
    → places_behind p (map (pmt_finder_of packets) programs) (map (λ program. pmt_found program packets) programs) ≡ map (λ program. pmt_found program (packets ++ p ∷ [])) programs
places_more packets p programs s =
    map_of_zip (λ (q : PmtFinder × Option PmtValue). or_later (pmt_told p q.0) q.1) (pmt_finder_of packets) (λ program. pmt_found program packets) (λ program. pmt_found program (packets ++ p ∷ [])) programs
    (λ program.
    found_more program (option_and_then (pmt_pid_of program) (pat_found packets)) (behind_pat packets) p
    ∙ ap (λ o. option_and_then (λ pid. first_pmt_on pid program (behind_pat packets ++ p ∷ [])) (option_and_then (pmt_pid_of program) o)) (found_again packets p (pat_found packets) refl s)
    ∙ ap (λ l. option_and_then (λ pid. first_pmt_on pid program l) (option_and_then (pmt_pid_of program) (pat_found (packets ++ p ∷ [])))) (sym (behind_some_from [] packets p refl s)))

-- the packet completes the PAT
pub begun_now : (packets : List (List ℕ)) (p : List ℕ) (programs : List ℕ) (rows : List PatRow) → is_some (pat_found packets) ≡ false → pat_found (packets ++ p ∷ []) ≡ Some rows
    → map (pmt_finder_begun rows) (map (pmt_finder_of packets) programs) ≡ map (pmt_finder_of (packets ++ p ∷ [])) programs
begun_now packets p programs rows n e =
    map_of_map (pmt_finder_begun rows) (pmt_finder_of packets) (pmt_finder_of (packets ++ p ∷ [])) programs
    (λ program.
    ap (λ o. pmt_finder_on program (option_and_then (pmt_pid_of program) o) []) (sym e)
    ∙ ap (pmt_finder_on program (option_and_then (pmt_pid_of program) (pat_found (packets ++ p ∷ [])))) (sym (behind_none_from [] packets p n)))

-- the PAT isn't complete yet
pub begun_later : (packets : List (List ℕ)) (p : List ℕ) (programs : List ℕ) → is_some (pat_found packets) ≡ false → is_some (pat_found (packets ++ p ∷ [])) ≡ false
    → map (pmt_finder_of packets) programs ≡ map (pmt_finder_of (packets ++ p ∷ [])) programs
begun_later packets p programs n m =
    map_alike (pmt_finder_of packets) (pmt_finder_of (packets ++ p ∷ [])) programs
    (λ program.
    ap (λ o. pmt_finder_on program (option_and_then (pmt_pid_of program) o) (behind_pat packets)) (none_of (pat_found packets) n)
    ∙ sym (ap (λ o. pmt_finder_on program (option_and_then (pmt_pid_of program) o) (behind_pat (packets ++ p ∷ []))) (none_of (pat_found (packets ++ p ∷ [])) m)))

-- up to the packet that completes the PAT no PMT is found
pub places_wait : (packets : List (List ℕ)) (p : List ℕ) (programs : List ℕ) → is_some (pat_found packets) ≡ false
    → map (λ program. pmt_found program packets) programs ≡ map (λ program. pmt_found program (packets ++ p ∷ [])) programs
places_wait packets p programs n =
    map_alike (λ program. pmt_found program packets) (λ program. pmt_found program (packets ++ p ∷ [])) programs
    (λ program.
    ap (λ o. option_and_then (λ pid. first_pmt_on pid program (behind_pat packets)) (option_and_then (pmt_pid_of program) o)) (none_of (pat_found packets) n)
    ∙ sym (ap (λ l. option_and_then (λ pid. first_pmt_on pid program l) (option_and_then (pmt_pid_of program) (pat_found (packets ++ p ∷ [])))) (behind_none_from [] packets p n)
    ∙ nothing_yet program (option_and_then (pmt_pid_of program) (pat_found (packets ++ p ∷ [])))))

-- ---- the PID of a program

pid_or : (o p : Option PatRow) → option_map (λ (r : PatRow). r.pid) (option_or o p) ≡ or_later (option_map (λ (r : PatRow). r.pid) o) (option_map (λ (r : PatRow). r.pid) p)
pid_or None p = refl
pid_or (Some r) p = refl

pid_append : (program : ℕ) (rows more : List PatRow) → pmt_pid_of program (rows ++ more) ≡ or_later (pmt_pid_of program rows) (pmt_pid_of program more)
pid_append program rows more =
    let test = is_row_of_program program in
    ap (option_map (λ (r : PatRow). r.pid)) (find-append test rows more) ∙ pid_or (find test rows) (find test more)

pub pid_step : (program : ℕ) (pats : List PatValue) (i : ℕ) (d : PatValue) → i < length pats
    → pmt_pid_of program (flat_map (λ (p : PatValue). p.rows) (drop i pats))
    ≡ or_later (pmt_pid_of program (get_or pats i d).rows) (pmt_pid_of program (flat_map (λ (p : PatValue). p.rows) (drop (i + 1) pats)))
pid_step program pats i d l =
    ap (λ ps. pmt_pid_of program (flat_map (λ (p : PatValue). p.rows) ps)) (drop_more pats i d l)
    ∙ pid_append program (get_or pats i d).rows (flat_map (λ (p : PatValue). p.rows) (drop (i + 1) pats))
