-- What is kept as sections come is what is in force among them.
use Rattle.std.proofs.Common.{◌≡◌, ℕ, zero, suc, ◌+◌, ◌-◌, ◌<◌, ◌≤◌, ◌==◌, Bool, true, false, cond, ◌&&◌, not, List, [], ◌∷◌, ◌++◌, Option, Some, None, option_map, option_and_then, is_some, filter, find, refl, sym, ◌∙◌, ap, arith, length, get_or, append_assoc}
use Rattle.std.specs.List.{position, position_from, remove}
use Rattle.std.proofs.lemmas.List.Quantifiers.{position-Some}
use Rattle.std.proofs.lemmas.Iterator.Adapters.{position_from-zero}
use Rattle.std.proofs.lemmas.Bool.{and_parts, eqb-true}
use Rattle.tables.specs.InForce.{SectionValue, is_of_same_version, front_of_version, run_of_current, run_of, in_force, all_in_force, complete_up_to, complete_table}
use Rattle.tables.specs.Kept.{without, newest_of_each, kept_with, StandsFor, kept_under, all_kept, kept_table, tables_of}
use Rattle.tables.specs.declared.header.Header.{Header}

-- headers of one version have the same front
same_parts : (h k : Header) → is_of_same_version h k ≡ true → (h.table_id_extension ≡ k.table_id_extension) × (h.version_number ≡ k.version_number) × (h.last_section_number ≡ k.last_section_number)
same_parts h k e =
    let outer = and_parts (h.table_id_extension == k.table_id_extension && h.version_number == k.version_number) (h.last_section_number == k.last_section_number) e in
    let inner = and_parts (h.table_id_extension == k.table_id_extension) (h.version_number == k.version_number) outer.0 in
    (eqb-true _ _ inner.0, eqb-true _ _ inner.1, eqb-true _ _ outer.1)

same_alike : (h k x : Header) → is_of_same_version h k ≡ true → is_of_same_version h x ≡ is_of_same_version k x
same_alike h k x e =
    let p = same_parts h k e in
    let a = p.0 in let b = p.1 in let c = p.2 in
    rw (a, b, c) refl

front_alike : {V : Type 0} (h k : Header) → is_of_same_version h k ≡ true → (sections : List (SectionValue V)) → front_of_version h sections ≡ front_of_version k sections
front_alike h k e [] = refl
front_alike h k e (s ∷ before) =
    let first = same_alike h k s.header e in
    let rest = front_alike h k e before in
    rw (first, rest) refl

front_kept_at : {V : Type 0} (h : Header) (s : SectionValue V) (before : List (SectionValue V)) (b : Bool) → is_of_same_version h s.header ≡ b
    → newest_of_each (cond b (s ∷ front_of_version h before) []) ≡ cond b (s ∷ without s.header.section_number (newest_of_each (front_of_version s.header before))) []
front_kept_at h s before true e = ap (λ l. s ∷ without s.header.section_number (newest_of_each l)) (front_alike h s.header e before)
front_kept_at h s before false e = refl

front_kept : {V : Type 0} (h : Header) (sections : List (SectionValue V)) → newest_of_each (front_of_version h sections) ≡ kept_with h (newest_of_each (run_of_current sections))
front_kept h [] = refl
front_kept h (s ∷ before) = front_kept_at h s before (is_of_same_version h s.header) refl

-- a current section comes
pub stands_behind : {V : Type 0} (s : SectionValue V) (kept sections : List (SectionValue V)) → s.header.current_next_indicator ≡ true
    → StandsFor kept sections → StandsFor (s ∷ without s.header.section_number (kept_with s.header kept)) (s ∷ sections)
stands_behind s kept sections current stands =
    let before = filter (λ t. t.header.current_next_indicator) sections in
    let number = s.header.section_number in
    ap (λ k. s ∷ without number (kept_with s.header k)) stands
    ∙ ap (λ k. s ∷ without number k) (sym (front_kept s.header before))
    ∙ ap (λ b. newest_of_each (run_of_current (cond b (s ∷ before) before))) (sym current)

-- ---- the section under a number

found_at : {X : Type 0} (p : X → Bool) (xs : List X) (i : ℕ) (d : X) → i < length xs → p (get_or xs i d) ≡ true
    → ((k : ℕ) → k < i → p (get_or xs k d) ≡ false) → find p xs ≡ Some (get_or xs i d)
found_at p [] i d l t b = absurd (omega arith)
found_at p (x ∷ xs) zero d l t b = ap (λ c. cond c (Some x) (find p xs)) t
found_at p (x ∷ xs) (suc i) d l t b =
    ap (λ c. cond c (Some x) (find p xs)) (b 0 (omega arith))
    ∙ found_at p xs i d (omega arith) t (λ k m. b (suc k) (omega arith))

none_from : {X : Type 0} (p : X → Bool) (i : ℕ) (xs : List X) → position_from p i xs ≡ None → find p xs ≡ None
none_from p i [] e = refl
none_from {X = X} p i (x ∷ xs) e =
    let by : (b : Bool) → cond b (Some i) (position_from p (i + 1) xs) ≡ None → cond b (Some x) (find p xs) ≡ None
    = elim [ true ↦ λ q. absurd (cc) | false ↦ λ q. none_from p (i + 1) xs q ] in
    by (p x) e

pub find_none : {X : Type 0} (p : X → Bool) (xs : List X) → position p xs ≡ None → find p xs ≡ None
find_none p xs e = none_from p 0 xs (sym (position_from-zero p xs) ∙ e)

pub find_some : {X : Type 0} (p : X → Bool) (xs : List X) (i : ℕ) (d : X) → position p xs ≡ Some i → find p xs ≡ Some (get_or xs i d)
find_some p xs i d e =
    let at = position-Some p xs i d e in
    found_at p xs i d at.0 at.1 at.2

find_somewhere : {X : Type 0} (p : X → Bool) (xs : List X) (o : Option ℕ) → position p xs ≡ o → is_some o ≡ is_some (find p xs)
find_somewhere p [] None e = refl
find_somewhere p (x ∷ xs) None e = ap is_some (sym (find_none p (x ∷ xs) e))
find_somewhere p [] (Some i) e = absurd (cc)
find_somewhere p (x ∷ xs) (Some i) e = ap is_some (sym (find_some p (x ∷ xs) i x e))

pub find_is_some : {X : Type 0} (p : X → Bool) (xs : List X) → is_some (position p xs) ≡ is_some (find p xs)
find_is_some p xs = find_somewhere p xs (position p xs) refl

-- an element that fails the test is taken out
pub find_remove : {X : Type 0} (p : X → Bool) (xs : List X) (i : ℕ) (d : X) → i < length xs → p (get_or xs i d) ≡ false → find p (remove xs i) ≡ find p xs
find_remove p [] i d l f = absurd (omega arith)
find_remove p (x ∷ xs) zero d l f = sym (ap (λ c. cond c (Some x) (find p xs)) f)
find_remove p (x ∷ xs) (suc i) d l f = ap (λ r. cond (p x) (Some x) r) (find_remove p xs i d (omega arith) f)

-- ---- what is kept is in force

without_at : {V : Type 0} (n m : ℕ) (s : SectionValue V) (before : List (SectionValue V)) (b : Bool) → (s.header.section_number == n) ≡ b → (n == m) ≡ false
    → kept_under (without n before) m ≡ kept_under before m
    → kept_under (cond (not b) (s ∷ without n before) (without n before)) m ≡ cond (s.header.section_number == m) (Some s) (kept_under before m)
without_at n m s before true e ne rest =
    let at : s.header.section_number ≡ n = eqb-true _ _ e in
    rest ∙ sym (ap (λ b. cond b (Some s) (kept_under before m)) (ap (λ k. k == m) at ∙ ne))
without_at n m s before false e ne rest = ap (λ r. cond (s.header.section_number == m) (Some s) r) rest

without_other : {V : Type 0} (n m : ℕ) (sections : List (SectionValue V)) → (n == m) ≡ false → kept_under (without n sections) m ≡ kept_under sections m
without_other n m [] ne = refl
without_other n m (s ∷ before) ne = without_at n m s before (s.header.section_number == n) refl ne (without_other n m before ne)

newest_at : {V : Type 0} (m : ℕ) (s : SectionValue V) (before : List (SectionValue V)) (b : Bool) → (s.header.section_number == m) ≡ b
    → kept_under (newest_of_each before) m ≡ kept_under before m
    → cond b (Some s) (kept_under (without s.header.section_number (newest_of_each before)) m) ≡ cond b (Some s) (kept_under before m)
newest_at m s before true e rest = refl
newest_at m s before false e rest = without_other s.header.section_number m (newest_of_each before) e ∙ rest

newest_found : {V : Type 0} (m : ℕ) (run : List (SectionValue V)) → kept_under (newest_of_each run) m ≡ kept_under run m
newest_found m [] = refl
newest_found m (s ∷ before) = newest_at m s before (s.header.section_number == m) refl (newest_found m before)

-- the section that is kept under a number is in force under it
pub under_in_force : {V : Type 0} (kept sections : List (SectionValue V)) (number : ℕ) → StandsFor kept sections → kept_under kept number ≡ in_force sections number
under_in_force kept sections number stands = ap (λ k. kept_under k number) stands ∙ newest_found number (run_of sections)

all_in_force_kept : {V : Type 0} (sections : List (SectionValue V)) (first count : ℕ) → all_kept (newest_of_each (run_of sections)) first count ≡ all_in_force sections first count
all_in_force_kept sections first zero = refl
all_in_force_kept sections first (suc count) =
    let one = newest_found first (run_of sections) in
    let rest = all_in_force_kept sections (suc first) count in
    rw (one, rest) refl

table_kept_at : {V : Type 0} (sections run : List (SectionValue V)) → run_of sections ≡ run → kept_table (newest_of_each run) ≡ complete_up_to sections run
table_kept_at sections [] e = refl
table_kept_at sections (s ∷ before) e =
    ap (λ r. all_kept (newest_of_each r) 0 (s.header.last_section_number + 1)) (sym e)
    ∙ all_in_force_kept sections 0 (s.header.last_section_number + 1)

-- the table that is kept is the complete table
pub table_kept : {V : Type 0} (kept sections : List (SectionValue V)) → StandsFor kept sections → kept_table kept ≡ complete_table sections
table_kept kept sections stands = ap kept_table stands ∙ table_kept_at sections (run_of sections) refl

-- ---- number by number

all_alike : {V : Type 0} (kept other : List (SectionValue V)) (first count : ℕ) → ((m : ℕ) → first ≤ m → kept_under kept m ≡ kept_under other m)
    → all_kept kept first count ≡ all_kept other first count
all_alike kept other first zero e = refl
all_alike kept other first (suc count) e =
    let one = e first (omega arith) in
    let rest = all_alike kept other (suc first) count (λ m l. e m (omega arith)) in
    rw (one, rest) refl

some_at : {V : Type 0} (o : Option (SectionValue V)) (rest : Option (List (SectionValue V))) → is_some o ≡ true
    → is_some (option_and_then (λ s. option_map (λ r. s ∷ r) rest) o) ≡ is_some rest
some_at None rest e = absurd (cc)
some_at (Some s) None e = refl
some_at (Some s) (Some r) e = refl

none_there : {V : Type 0} (o : Option (SectionValue V)) (rest : Option (List (SectionValue V))) → is_some o ≡ false
    → is_some (option_and_then (λ s. option_map (λ r. s ∷ r) rest) o) ≡ false
none_there None rest e = refl
none_there (Some s) rest e = absurd (cc)

one_more : {V : Type 0} (told : List V) (table : V) (o : Option (SectionValue V)) (rest : Option (List (SectionValue V))) → Some table ≡ option_map (λ s. s.table) o
    → option_map (λ r. (told ++ table ∷ []) ++ tables_of r) rest ≡ option_map (λ r. told ++ tables_of r) (option_and_then (λ s. option_map (λ r. s ∷ r) rest) o)
one_more told table None rest t = absurd (cc)
one_more told table (Some s) None t = refl
one_more told table (Some s) (Some r) t =
    let e : table ≡ s.table = cc in
    ap Some (append_assoc told (table ∷ []) (tables_of r) ∙ ap (λ x. told ++ (x ∷ tables_of r)) e)

one_less : {V : Type 0} (told : List V) (o : Option (SectionValue V)) (rest : Option (List (SectionValue V))) → None ≡ option_map (λ s. s.table) o
    → option_map (λ r. told ++ tables_of r) (option_and_then (λ s. option_map (λ r. s ∷ r) rest) o) ≡ None
one_less told None rest t = refl
one_less told (Some s) rest t = absurd (cc)

-- a section stands under the number
pub some_more : {V : Type 0} (kept : List (SectionValue V)) (first count : ℕ) → is_some (kept_under kept first) ≡ true → 0 < count
    → is_some (all_kept kept first count) ≡ is_some (all_kept kept (first + 1) (count - 1))
some_more kept first zero e l = absurd (omega arith)
some_more kept first (suc count) e l =
    some_at (kept_under kept first) (all_kept kept (suc first) count) e
    ∙ (let a : suc first ≡ first + 1 = omega arith in let b : count ≡ suc count - 1 = omega arith in ap (λ n. is_some (all_kept kept n count)) a ∙ ap (λ n. is_some (all_kept kept (first + 1) n)) b)

-- none stands under it
pub none_more : {V : Type 0} (kept : List (SectionValue V)) (first count : ℕ) → is_some (kept_under kept first) ≡ false → 0 < count
    → is_some (all_kept kept first count) ≡ false
none_more kept first zero e l = absurd (omega arith)
none_more kept first (suc count) e l = none_there (kept_under kept first) (all_kept kept (suc first) count) e

-- the tables under the number and behind it, where those before are told
pub tables_more : {V : Type 0} (kept later : List (SectionValue V)) (told : List V) (first count : ℕ) (table : V)
    → Some table ≡ option_map (λ s. s.table) (kept_under kept first) → 0 < count
    → ((m : ℕ) → (m ≡ first → ⊥) → kept_under later m ≡ kept_under kept m)
    → option_map (λ rest. (told ++ table ∷ []) ++ tables_of rest) (all_kept later (first + 1) (count - 1)) ≡ option_map (λ rest. told ++ tables_of rest) (all_kept kept first count)
tables_more kept later told first zero table t l others = absurd (omega arith)
tables_more kept later told first (suc count) table t l others =
    let a : first + 1 ≡ suc first = omega arith in
    let b : suc count - 1 ≡ count = omega arith in
    let rest = all_alike later kept (suc first) count (λ m l. others m (λ e. omega arith)) in
    rw (a, b, rest) (one_more told table (kept_under kept first) (all_kept kept (suc first) count) t)

pub tables_missing : {V : Type 0} (kept : List (SectionValue V)) (told : List V) (first count : ℕ)
    → None ≡ option_map (λ s. s.table) (kept_under kept first) → 0 < count
    → option_map (λ rest. told ++ tables_of rest) (all_kept kept first count) ≡ None
tables_missing kept told first zero t l = absurd (omega arith)
tables_missing kept told first (suc count) t l = one_less told (kept_under kept first) (all_kept kept (suc first) count) t
