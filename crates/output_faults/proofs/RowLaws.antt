-- The rows of the PAT in force, where each PAT has one section: those of the newest one.
use Rattle.std.proofs.Common.{◌≡◌, ℕ, zero, suc, ◌+◌, ◌==◌, List, [], ◌∷◌, ◌++◌, refl, sym, ◌∙◌, ap, subst, Option, Some, None, Bool, true, false, inl, inr}
use Rattle.std.specs.Prelude.{not, reverse}
use Rattle.std.specs.List.{All, filter, filter_map, find, flat_map, range_with_len}
use Rattle.std.proofs.lemmas.Bool.{cases_Bool, eqb-true}
use Rattle.std.proofs.lemmas.List.{reverse-append}
use Rattle.std.proofs.lemmas.List.Folds.{Any-from_list_any}
use Rattle.std.proofs.lemmas.List.Elements.{All-nil, All-cons, All-head, All-tail, All-append, All-filter, filter_passes}
use Rattle.tables.specs.declared.header.Header.{Header}
use Rattle.tables.specs.declared.pat_row.PatRow.{PatRow}
use Rattle.tables.specs.InForce.{SectionValue, in_force, run_of, run_of_current, front_of_version, is_of_same_version}
use Rattle.tables.specs.OnPid.{sections_on, pat_section_of, pat_sections}
use Rattle.tables.specs.Pat.{PatValue}
use Rattle.analyse.specs.Slots.{packets_in}
use Rattle.analyse.specs.InForce.{rows_of_section, pat_rows_behind, program_rows_behind, is_pmt_pid_behind}
use Rattle.output_faults.proofs.GapLaws.{read_more}
use Rattle.output_faults.proofs.ReadLaws.{NewestIs}

-- a section that says, if it is one of a PAT, that its number is 0
abbrev pub HasNumber0 : List ℕ → Type 0
HasNumber0 b = (v : SectionValue PatValue) → pat_section_of b ≡ Some v → v.header.section_number ≡ 0

abbrev IsNumber0 : SectionValue PatValue → Type 0
IsNumber0 v = v.header.section_number ≡ 0

all_number : (bs : List (List ℕ)) → All HasNumber0 bs → All IsNumber0 (filter_map pat_section_of bs)
all_number [] h = All-nil IsNumber0
all_number (b ∷ bs) h = by_read (all_number bs (All-tail HasNumber0 b bs h)) (pat_section_of b) refl
  where
    by_read : All IsNumber0 (filter_map pat_section_of bs) → (o : Option (SectionValue PatValue)) → pat_section_of b ≡ o → All IsNumber0 (filter_map pat_section_of (b ∷ bs))
    by_read rest None e = rw e rest
    by_read rest (Some v) e = rw e (All-cons IsNumber0 v (filter_map pat_section_of bs) (All-head HasNumber0 b bs h v e) rest)

all_reverse : {X : Type 0} (P : X → Type 0) (xs : List X) → All P xs → All P (reverse xs)
all_reverse P [] h = All-nil P
all_reverse P (x ∷ xs) h =
    let turned : reverse (x ∷ xs) ≡ reverse xs ++ x ∷ [] = reverse-append (x ∷ []) xs in
    subst (All P) (sym turned) (All-append P (reverse xs) (x ∷ []) (all_reverse P xs (All-tail P x xs h)) (All-cons P x [] (All-head P x xs h) (All-nil P)))

all_front : {V : Type 0} (P : SectionValue V → Type 0) (k : Header) (ss : List (SectionValue V)) → All P ss → All P (front_of_version k ss)
all_front P k [] h = All-nil P
all_front P k (s ∷ ss) h = elim (cases_Bool (is_of_same_version k s.header)) [
  | inl y ↦ rw y (All-cons P s (front_of_version k ss) (All-head P s ss h) (all_front P k ss (All-tail P s ss h)))
  | inr n ↦ rw n (All-nil P)
]

-- no other number is found
none_found : (Q : PatRow → Type 0) (test : SectionValue PatValue → Bool) (ss : List (SectionValue PatValue)) → All (λ s. test s ≡ false) ss → All Q (rows_of_section (find test ss))
none_found Q test [] h = All-nil Q
none_found Q test (s ∷ ss) h =
    let P : SectionValue PatValue → Type 0 = λ s. test s ≡ false in
    rw (All-head P s ss h) (none_found Q test ss (All-tail P s ss h))

all_tests : (n : ℕ) (v : SectionValue PatValue) (ss : List (SectionValue PatValue)) → IsNumber0 v → (v.header.section_number == n) ≡ false → All IsNumber0 ss → All (λ s. (s.header.section_number == n) ≡ false) ss
all_tests n v [] z f h = All-nil (λ s. (s.header.section_number == n) ≡ false)
all_tests n v (s ∷ ss) z f h =
    let here : (s.header.section_number == n) ≡ false = ap (λ (i : ℕ). i == n) (All-head IsNumber0 s ss h ∙ sym z) ∙ f in
    All-cons (λ s. (s.header.section_number == n) ≡ false) s ss here (all_tests n v ss z f (All-tail IsNumber0 s ss h))

-- the rows that stand in force under a number, where the newest section is this one
rows_of_newest : (Q : PatRow → Type 0) (v : SectionValue PatValue) (older : List (SectionValue PatValue)) (n : ℕ) → v.header.current_next_indicator ≡ true → IsNumber0 v → All IsNumber0 older → All Q v.table.rows
    → All Q (rows_of_section (in_force (v ∷ older) n))
rows_of_newest Q v older n current z others q =
    let test : SectionValue PatValue → Bool = λ s. s.header.section_number == n in
    let now : SectionValue PatValue → Bool = λ s. s.header.current_next_indicator in
    let rest = front_of_version v.header (filter now older) in
    let run : run_of (v ∷ older) ≡ v ∷ rest = ap run_of_current (let e : filter now (v ∷ older) ≡ v ∷ filter now older = rw current refl in e) in
    let behind : All IsNumber0 rest = all_front IsNumber0 v.header (filter now older) (All-filter now IsNumber0 older others) in
    subst (λ (ss : List (SectionValue PatValue)). All Q (rows_of_section (find test ss))) (sym run)
    (elim (cases_Bool (test v)) [
      | inl y ↦ rw y q
      | inr f ↦ rw f (none_found Q test rest (all_tests n v rest z f behind))
    ])

all_ranged : {X : Type 0} (P : X → Type 0) (f : ℕ → List X) (a n : ℕ) → ((k : ℕ) → All P (f k)) → All P (flat_map f (range_with_len a n))
all_ranged P f a zero h = All-nil P
all_ranged P f a (suc n) h = All-append P (f a) (flat_map f (range_with_len (a + 1) n)) (h a) (all_ranged P f (a + 1) n h)

rows_behind : (Q : PatRow → Type 0) (b : List ℕ) (v : SectionValue PatValue) (slots : List (List ℕ)) → NewestIs b (sections_on 0x0000 (packets_in slots)) → All HasNumber0 (sections_on 0x0000 (packets_in slots)) → pat_section_of b ≡ Some v
    → v.header.current_next_indicator ≡ true → All Q v.table.rows → All Q (pat_rows_behind slots)
unfolding pat_rows_behind
rows_behind Q b v slots newest numbers says current q =
    let bs = sections_on 0x0000 (packets_in slots) in
    let values = filter_map pat_section_of bs in
    let before = filter_map pat_section_of newest.0 in
    let is : values ≡ before ++ v ∷ [] = read_more pat_section_of b v newest.0 bs says newest.1 in
    let turned : reverse values ≡ v ∷ reverse before = ap reverse is ∙ reverse-append before (v ∷ []) in
    let all = subst (All IsNumber0) turned (all_reverse IsNumber0 values (all_number bs numbers)) in
    all_ranged Q (λ n. rows_of_section (in_force (reverse (pat_sections (packets_in slots))) n)) 0 256
    (λ n. subst (λ (ss : List (SectionValue PatValue)). All Q (rows_of_section (in_force ss n))) (sym turned)
    (rows_of_newest Q v (reverse before) n current (All-head IsNumber0 v (reverse before) all) (All-tail IsNumber0 v (reverse before) all) q))

-- a row of a program that names a PID as that of a PMT
pub record IsNamedBy (Q : PatRow → Type 0) (pid : ℕ) : Type 0 where
  pub row : PatRow
  pub is : Q row
  pub program : (row.program_number == 0) ≡ false
  pub names : row.pid ≡ pid

pub named : (Q : PatRow → Type 0) (b : List ℕ) (v : SectionValue PatValue) (slots : List (List ℕ)) (pid : ℕ) → NewestIs b (sections_on 0x0000 (packets_in slots)) → All HasNumber0 (sections_on 0x0000 (packets_in slots)) → pat_section_of b ≡ Some v
    → v.header.current_next_indicator ≡ true → All Q v.table.rows → is_pmt_pid_behind slots pid ≡ true → IsNamedBy Q pid
unfolding is_pmt_pid_behind
named Q b v slots pid newest numbers says current q t =
    let test : PatRow → Bool = λ (r : PatRow). not (r.program_number == 0) in
    let rows = pat_rows_behind slots in
    let any = Any-from_list_any (λ (r : PatRow). r.pid == pid) (program_rows_behind slots) t in
    let all = All-filter test Q rows (rows_behind Q b v slots newest numbers says current q) in
    let pass = filter_passes test rows in
    let at = any.3 in
    let good : Q any.1 = subst Q at (all any.0 any.1 any.2) in
    let program : test any.1 ≡ true = subst (λ (r : PatRow). test r ≡ true) at (pass any.0 any.1 any.2) in
    record { row = any.1; is = good; program = not_true (any.1.program_number == 0) program; names = eqb-true _ _ any.4 }
  where
    not_true : (b : Bool) → not b ≡ true → b ≡ false
    not_true true e = sym e
    not_true false e = refl

-- where no PAT was read, no PID is named
pub nothing_named : (slots : List (List ℕ)) (pid : ℕ) → sections_on 0x0000 (packets_in slots) ≡ [] → is_pmt_pid_behind slots pid ≡ true → ⊥
unfolding is_pmt_pid_behind pat_rows_behind
nothing_named slots pid none t =
    let Q : PatRow → Type 0 = λ r. ⊥ in
    let empty : reverse (pat_sections (packets_in slots)) ≡ [] = ap (λ bs. reverse (filter_map pat_section_of bs)) none in
    let rows : All Q (pat_rows_behind slots) =
    all_ranged Q (λ n. rows_of_section (in_force (reverse (pat_sections (packets_in slots))) n)) 0 256
    (λ n. subst (λ (ss : List (SectionValue PatValue)). All Q (rows_of_section (in_force ss n))) (sym empty) (All-nil Q)) in
    let all = All-filter (λ (r : PatRow). not (r.program_number == 0)) Q (pat_rows_behind slots) rows in
    let any = Any-from_list_any (λ (r : PatRow). r.pid == pid) (program_rows_behind slots) t in
    all any.0 any.1 any.2
