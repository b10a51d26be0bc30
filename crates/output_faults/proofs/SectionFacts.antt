-- What is known of the sections of a plan, whichever services were chosen: they are good ones, and say what a reader asks.
use Rattle.std.proofs.Common.{◌≡◌, ℕ, zero, suc, ◌+◌, ◌-◌, ◌<◌, ◌≤◌, ◌==◌, ◌⊎◌, List, [], ◌∷◌, length, map, get_or, refl, sym, ◌∙◌, ap, arith, Option, Some, None, Result, Ok, Err, Bool, true, false, if◌then◌else◌, inl, inr}
use Rattle.std.specs.Prelude.{nat_lt, not, ◌||◌}
use Rattle.std.specs.List.{All, AllZip}
use Rattle.std.specs.Coded.{Coded-set, coded_ℕ}
use Rattle.std.proofs.Math.Logic.{∥∥₁_elim}
use Rattle.std.proofs.lemmas.Bool.{ltb-false, eqb-true, or_parts, not-false}
use Rattle.std.proofs.lemmas.List.Elements.{All-cons, All-map}
use Rattle.tspkt.specs.Bits.{field}
use Rattle.tspkt.proofs.PacketFields.{sync_at}
use Rattle.section.specs.Crc.{crc_of}
use Rattle.section.specs.Section.{section_length_of, IsGoodSection}
use Rattle.tables.specs.declared.header.Header.{Header}
use Rattle.tables.specs.declared.pat_row.PatRow.{PatRow}
use Rattle.tables.specs.declared.table_fault.TableFault.{TableFault}
use Rattle.tables.specs.declared.table_fault.TableFault.TheVariants.{Short, WrongId, BadLength}
use Rattle.tables.specs.Header.{header_of, body_of, has_bad_length}
use Rattle.tables.specs.InForce.{SectionValue}
use Rattle.tables.specs.OnPid.{pat_section_of}
use Rattle.tables.specs.Pat.{PatValue, pat_of}
use Rattle.tables.specs.Pmt.{PmtValue, pmt_of}
use Rattle.selection.specs.Chosen.{ChosenValue}
use Rattle.output_tables.specs.Output.{output_pat, output_pmt, pat_row_of_service}
use Rattle.output_tables.specs.OnPid.{SectionOnPid}
use Rattle.output_tables.specs.TableSet.{IsPmtFor}
use Rattle.plan.specs.Build.{PlanValue, IsPlanOf, IsPlan}
use Rattle.emission.proofs.PlanBasics.{pat_header, pmt_header}

-- ---- a section that a table's read takes

-- the bytes of a section with this table_id
record IsTaken (table_id : ℕ) (b : List ℕ) : Type 0 where
  id : field b 0 8 ≡ table_id
  whole : length b ≡ section_length_of b + 3
  small : length b ≤ 1024

two_tests : {X : Type 0} (a b c : Bool) (later : Result X TableFault) (h : X) → (if a then Err Short else if b then Err WrongId else if c then Err BadLength else later) ≡ Ok h → (b ≡ false) × (c ≡ false)
two_tests true b c later h e = cc
two_tests false true c later h e = cc
two_tests false false true later h e = cc
two_tests false false false later h e = (refl, refl)

taken : (table_id : ℕ) (single : Bool) (b : List ℕ) (h : Header) → header_of table_id single b ≡ Ok h → IsTaken table_id b
unfolding header_of has_bad_length
taken table_id single b h e =
    let tests = two_tests (nat_lt (length b) 3) (not (field b 0 8 == table_id)) (has_bad_length b) _ h e in
    let both = or_parts (not (section_length_of b + 3 == length b) || nat_lt (section_length_of b) 9) (nat_lt 1021 (section_length_of b)) tests.1 in
    let first = or_parts (not (section_length_of b + 3 == length b)) (nat_lt (section_length_of b) 9) both.0 in
    let most = ltb-false 1021 (section_length_of b) both.1 in
    let same = eqb-true (section_length_of b + 3) (length b) (not-false (section_length_of b + 3 == length b) first.0) in
    record { id = eqb-true (field b 0 8) table_id (not-false (field b 0 8 == table_id) tests.0); whole = sym same; small = omega arith }

pat_taken : (b : List ℕ) (v : PatValue) → pat_of b ≡ Ok v → IsTaken 0x00 b
pat_taken b v e = let h = pat_header (header_of 0x00 false b) (body_of b) v e in taken 0x00 false b h.0 h.1

pmt_taken : (b : List ℕ) (v : PmtValue) → pmt_of b ≡ Ok v → IsTaken 0x02 b
pmt_taken b v e = let h = pmt_header (header_of 0x02 true b) (body_of b) v e in taken 0x02 true b h.0 h.1

good_with : (table_id : ℕ) (b : List ℕ) → table_id < 255 → field b 0 8 ≡ table_id → length b ≡ section_length_of b + 3 → crc_of b ≡ 0 → IsGoodSection b
good_with table_id b l id whole crc = record {
  whole = whole;
  crc = crc;
  table = λ e. let at = sync_at b in absurd (omega (arith, id, at, e, l));
}

-- ---- a PAT

-- a section of a PAT that is the only one
pub record IsPatSection (b : List ℕ) : Type 0 where
  pub good : IsGoodSection b
  pub small : length b ≤ 1024
  pub id : field b 0 8 ≡ 0
  pub says : (v : SectionValue PatValue) × (pat_section_of b ≡ Some v)
  pub number : (v : SectionValue PatValue) → pat_section_of b ≡ Some v → v.header.section_number ≡ 0

-- the number that it says, and 1 where it says nothing
number_of : Option (SectionValue PatValue) → ℕ
number_of None = 1
number_of (Some v) = v.header.section_number

pub pat_read : (p : PlanValue) (chosen : List ChosenValue) → IsPlanOf p.request chosen p → pat_section_of p.tables.pat.bytes ≡ Some (record { header = (output_pat p.request chosen).header; table = output_pat p.request chosen })
pat_read p chosen made = (let e = made.tables.pat.says.value in rw e refl)

read_by_number : (b : List ℕ) (o : Option (SectionValue PatValue)) → pat_section_of b ≡ o → number_of o ≡ 0
    → ((v : SectionValue PatValue) × (pat_section_of b ≡ Some v)) × ((v : SectionValue PatValue) → pat_section_of b ≡ Some v → v.header.section_number ≡ 0)
unfolding number_of
read_by_number b None e n = absurd (omega (arith, n))
read_by_number b (Some v) e n = ((v, e), λ w is. ap number_of (sym is ∙ e) ∙ n)

pub pat_facts : (p : PlanValue) → IsPlan p → IsPatSection p.tables.pat.bytes
unfolding number_of
pat_facts p plan =
    let b = p.tables.pat.bytes in
    let id : field b 0 8 ≡ 0 = ∥∥₁_elim plan (Coded-set coded_ℕ _ _) (λ made. (pat_taken b (output_pat p.request made.0) made.1.tables.pat.says.value).id) in
    let whole : length b ≡ section_length_of b + 3 = ∥∥₁_elim plan (Coded-set coded_ℕ _ _) (λ made. (pat_taken b (output_pat p.request made.0) made.1.tables.pat.says.value).whole) in
    let over : length b - 1024 ≡ 0 = ∥∥₁_elim plan (Coded-set coded_ℕ _ _) (λ made. (let few = (pat_taken b (output_pat p.request made.0) made.1.tables.pat.says.value).small in omega (arith, few))) in
    let crc : crc_of b ≡ 0 = ∥∥₁_elim plan (Coded-set coded_ℕ _ _) (λ made. made.1.tables.pat.crc) in
    let number : number_of (pat_section_of b) ≡ 0 = ∥∥₁_elim plan (Coded-set coded_ℕ _ _) (λ made. ap number_of (pat_read p made.0 made.1)) in
    let both = read_by_number b (pat_section_of b) refl number in
    record {
      good = good_with 0x00 b (omega arith) id whole crc;
      small = omega (arith, over);
      id = id;
      says = both.0;
      number = both.1;
    }

-- ---- PMTs

-- a section of a PMT
pub record IsPmtSection (b : List ℕ) : Type 0 where
  pub good : IsGoodSection b
  pub small : length b ≤ 1024
  pub says : (v : PmtValue) × (pmt_of b ≡ Ok v)

unread : Result PmtValue TableFault → ℕ
unread (Ok v) = 0
unread (Err e) = 1

read_all : (b : List ℕ) (r : Result PmtValue TableFault) → pmt_of b ≡ r → unread r ≡ 0 → (v : PmtValue) × (pmt_of b ≡ Ok v)
unfolding unread
read_all b (Ok v) e n = (v, e)
read_all b (Err f) e n = absurd (omega (arith, n))

read_of : (R : SectionOnPid → ChosenValue → Type 0) (ss : List SectionOnPid) (cs : List ChosenValue) → AllZip R ss cs → (i : ℕ) (d : SectionOnPid) → i < length ss
    → ((s : SectionOnPid) (c : ChosenValue) → R s c → (v : PmtValue) × (pmt_of s.bytes ≡ Ok v) × (crc_of s.bytes ≡ 0)) → (v : PmtValue) × (pmt_of (get_or ss i d).bytes ≡ Ok v) × (crc_of (get_or ss i d).bytes ≡ 0)
read_of R [] cs h i d l f = absurd (omega arith)
read_of R (s ∷ ss) [] h i d l f = absurd h
read_of R (s ∷ ss) (c ∷ cs) h zero d l f = f s c h.0
read_of R (s ∷ ss) (c ∷ cs) h (suc i) d l f = read_of R ss cs h.1 i d (omega arith) f

pmt_read : (p : PlanValue) (i : ℕ) (d : SectionOnPid) → i < length p.tables.pmts → (chosen : List ChosenValue) → IsPlanOf p.request chosen p
    → (v : PmtValue) × (pmt_of (get_or p.tables.pmts i d).bytes ≡ Ok v) × (crc_of (get_or p.tables.pmts i d).bytes ≡ 0)
pmt_read p i d l chosen made = read_of (IsPmtFor p.request) p.tables.pmts chosen made.tables.pmts i d l (λ s c x. (output_pmt p.request c, x.says.value, x.crc))

pub pmt_facts : (p : PlanValue) → IsPlan p → (i : ℕ) (d : SectionOnPid) → i < length p.tables.pmts → IsPmtSection (get_or p.tables.pmts i d).bytes
unfolding unread
pmt_facts p plan i d l =
    let b = (get_or p.tables.pmts i d).bytes in
    let id : field b 0 8 ≡ 0x02 = ∥∥₁_elim plan (Coded-set coded_ℕ _ _) (λ made. (let r = pmt_read p i d l made.0 made.1 in (pmt_taken b r.0 r.1).id)) in
    let whole : length b ≡ section_length_of b + 3 = ∥∥₁_elim plan (Coded-set coded_ℕ _ _) (λ made. (let r = pmt_read p i d l made.0 made.1 in (pmt_taken b r.0 r.1).whole)) in
    let over : length b - 1024 ≡ 0 = ∥∥₁_elim plan (Coded-set coded_ℕ _ _) (λ made. (let r = pmt_read p i d l made.0 made.1 in let few = (pmt_taken b r.0 r.1).small in omega (arith, few))) in
    let crc : crc_of b ≡ 0 = ∥∥₁_elim plan (Coded-set coded_ℕ _ _) (λ made. (pmt_read p i d l made.0 made.1).2) in
    let read : unread (pmt_of b) ≡ 0 = ∥∥₁_elim plan (Coded-set coded_ℕ _ _) (λ made. ap unread (pmt_read p i d l made.0 made.1).1) in
    record { good = good_with 0x02 b (omega arith) id whole crc; small = omega (arith, over); says = read_all b (pmt_of b) refl read }

-- ---- the rows of a PAT

-- a row of the PAT with the PID of a PMT, or with that of the network
abbrev pub IsRowOf : List SectionOnPid → PatRow → Type 0
IsRowOf pmts row = (row.program_number ≡ 0) ⊎ ((i : ℕ) × (i < length pmts) × ((d : SectionOnPid) → (get_or pmts i d).pid ≡ row.pid))

zip_at : {A B : Type 0} (R : A → B → Type 0) (xs : List A) (ys : List B) → AllZip R xs ys → (i : ℕ) (d : A) (e : B) → i < length ys → (i < length xs) × R (get_or xs i d) (get_or ys i e)
zip_at R [] [] h i d e l = absurd (omega arith)
zip_at R [] (y ∷ ys) h i d e l = absurd h
zip_at R (x ∷ xs) [] h i d e l = absurd h
zip_at R (x ∷ xs) (y ∷ ys) h zero d e l = (omega arith, h.0)
zip_at R (x ∷ xs) (y ∷ ys) h (suc i) d e l = let later = zip_at R xs ys h.1 i d e (omega arith) in (omega (arith, later.0), later.1)

pub rows_named : (p : PlanValue) (chosen : List ChosenValue) → IsPlanOf p.request chosen p → All (IsRowOf p.tables.pmts) (output_pat p.request chosen).rows
rows_named p chosen made =
    All-cons (IsRowOf p.tables.pmts) (record { program_number = 0; pid = 0x0010 }) (map pat_row_of_service chosen) (inl refl)
    (All-map (IsRowOf p.tables.pmts) pat_row_of_service chosen
    (λ k c l.
    let any : SectionOnPid = record { pid = 0; bytes = [] } in
    let at = zip_at (IsPmtFor p.request) p.tables.pmts chosen made.tables.pmts k any c l in
    inr (k, at.0, λ d. (zip_at (IsPmtFor p.request) p.tables.pmts chosen made.tables.pmts k d c l).1.on_pid)))
