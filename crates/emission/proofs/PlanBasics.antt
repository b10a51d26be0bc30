-- Plain facts that a plan keeps of its tables, though the services that it was made for are forgotten.
use Rattle.std.proofs.Common.{ℕ, suc, ◌+◌, ◌-◌, ◌^◌, ◌<◌, ◌≤◌, ◌≡◌, ◌==◌, Bool, true, false, if◌then◌else◌, List, [], ◌∷◌, length, map, Result, Ok, Err, refl, ap, ◌∙◌, sym, arith}
use Rattle.std.specs.Prelude.{nat_lt, not, ◌||◌}
use Rattle.std.specs.List.{All, AllZip}
use Rattle.std.proofs.Math.Logic.{∥∥₁_elim}
use Rattle.std.proofs.Props.{props}
use Rattle.std.proofs.lemmas.Bool.{ltb-false, eqb-true, or_parts, not-false}
use Rattle.std.proofs.lemmas.List.{length-map}
use Rattle.std.proofs.lemmas.List.Elements.{All-nil, All-cons, All-head, All-tail}
use Rattle.tspkt.specs.Bits.{field}
use Rattle.section.specs.Section.{section_length_of}
use Rattle.tables.specs.declared.header.Header.{Header}
use Rattle.tables.specs.declared.table_fault.TableFault.{TableFault}
use Rattle.tables.specs.declared.table_fault.TableFault.TheVariants.{Short, WrongId, BadLength}
use Rattle.tables.specs.Header.{header_of, body_of, has_bad_length}
use Rattle.tables.specs.Pat.{PatValue, pat_of, pat_behind_header}
use Rattle.tables.specs.Pmt.{PmtValue, pmt_of, pmt_behind_header}
use Rattle.tables.specs.Sdt.{SdtValue, sdt_of, sdt_behind_header}
use Rattle.tables.specs.Nit.{NitValue, nit_of, nit_behind_header}
use Rattle.tables.specs.declared.sdt_row.SdtRow.{SdtRow}
use Rattle.request.specs.Request.{RequestValue, ServiceValue, IsRequest, IsService}
use Rattle.selection.specs.Chosen.{ChosenValue}
use Rattle.output_tables.specs.Output.{output_sdt, output_row, sdt_groups, numbered_sections}
use Rattle.output_tables.specs.OnPid.{SectionOnPid}
use Rattle.output_tables.specs.TableSet.{IsPmtFor, IsSdtFor, fast_packets, slow_packets}
use Rattle.output_tables.proofs.OutputLaws.{are_services, count_of}
use Rattle.output_tables.proofs.GroupLaws.{groups_some}
use Rattle.emission.proofs.SectionByteLaws.{AreBytes}
use Rattle.plan.specs.Build.{PlanValue, IsPlanOf, IsPlan}

-- a section of 1 to 1,024 bytes on a PID of 13 bits
pub record IsFitSection (s : SectionOnPid) : Type 0 where
  pub on_pid : s.pid < 2 ^ 13
  pub some : 1 ≤ length s.bytes
  pub whole : length s.bytes ≤ 1024

abbrev pub pid_of_section : SectionOnPid → ℕ
pid_of_section s = s.pid

abbrev pub pmt_of_service : ServiceValue → ℕ
pmt_of_service s = s.pmt

pub record PlanBasics (p : PlanValue) : Type 0 where
  pub rate : p.rounds.rate ≡ p.request.rate
  pub fast_len : p.rounds.fast_len ≡ length (fast_packets p.tables)
  pub slow_len : p.rounds.slow_len ≡ length (slow_packets p.tables)
  pub pat_pid : p.tables.pat.pid ≡ 0x0000
  pub pmt_pids : map pid_of_section p.tables.pmts ≡ map pmt_of_service p.request.services
  pub sdt_pids : All (λ (s : SectionOnPid). s.pid ≡ 0x0011) p.tables.sdt
  pub nit_pid : p.tables.nit.pid ≡ 0x0010
  pub sdt_some : 1 ≤ length p.tables.sdt
  pub pat : IsFitSection p.tables.pat
  pub pmts : All IsFitSection p.tables.pmts
  pub sdt : All IsFitSection p.tables.sdt
  pub nit : IsFitSection p.tables.nit
  pub fast_bytes : All AreBytes (fast_packets p.tables)
  pub slow_bytes : All AreBytes (slow_packets p.tables)

one_proof : (p : PlanValue) → IsProp (PlanBasics p)
one_proof p = hlevel props

-- ---- what is read has at most 1,024 bytes

third : {X : Type 0} (a b c : Bool) (later : Result X TableFault) (h : X) → (if a then Err Short else if b then Err WrongId else if c then Err BadLength else later) ≡ Ok h → c ≡ false
third true b c later h e = cc
third false true c later h e = cc
third false false true later h e = cc
third false false false later h e = refl

read_length : (table_id : ℕ) (single : Bool) (b : List ℕ) (h : Header) → header_of table_id single b ≡ Ok h → length b ≤ 1024
unfolding header_of has_bad_length
read_length table_id single b h e =
    let good = third (nat_lt (length b) 3) (not (field b 0 8 == table_id)) (has_bad_length b) _ h e in
    let both = or_parts (not (section_length_of b + 3 == length b) || nat_lt (section_length_of b) 9) (nat_lt 1021 (section_length_of b)) good in
    let first = or_parts (not (section_length_of b + 3 == length b)) (nat_lt (section_length_of b) 9) both.0 in
    let most = ltb-false 1021 (section_length_of b) both.1 in
    let same = eqb-true (section_length_of b + 3) (length b) (not-false (section_length_of b + 3 == length b) first.0) in
    omega arith

pub pat_header : (r : Result Header TableFault) (body : List ℕ) (v : PatValue) → pat_behind_header r body ≡ Ok v → (h : Header) × (r ≡ Ok h)
pat_header (Err e) body v h = cc
pat_header (Ok x) body v h = (x, refl)

pub pmt_header : (r : Result Header TableFault) (body : List ℕ) (v : PmtValue) → pmt_behind_header r body ≡ Ok v → (h : Header) × (r ≡ Ok h)
pmt_header (Err e) body v h = cc
pmt_header (Ok x) body v h = (x, refl)

sdt_header : (r : Result Header TableFault) (body : List ℕ) (v : SdtValue) → sdt_behind_header r body ≡ Ok v → (h : Header) × (r ≡ Ok h)
sdt_header (Err e) body v h = cc
sdt_header (Ok x) body v h = (x, refl)

nit_header : (r : Result Header TableFault) (body : List ℕ) (v : NitValue) → nit_behind_header r body ≡ Ok v → (h : Header) × (r ≡ Ok h)
nit_header (Err e) body v h = cc
nit_header (Ok x) body v h = (x, refl)

pat_length : (b : List ℕ) (v : PatValue) → pat_of b ≡ Ok v → length b ≤ 1024
pat_length b v e = let h = pat_header (header_of 0x00 false b) (body_of b) v e in read_length 0x00 false b h.0 h.1

pmt_length : (b : List ℕ) (v : PmtValue) → pmt_of b ≡ Ok v → length b ≤ 1024
pmt_length b v e = let h = pmt_header (header_of 0x02 true b) (body_of b) v e in read_length 0x02 true b h.0 h.1

sdt_length : (b : List ℕ) (v : SdtValue) → sdt_of b ≡ Ok v → length b ≤ 1024
sdt_length b v e = let h = sdt_header (header_of 0x42 false b) (body_of b) v e in read_length 0x42 false b h.0 h.1

nit_length : (b : List ℕ) (v : NitValue) → nit_of b ≡ Ok v → length b ≤ 1024
nit_length b v e = let h = nit_header (header_of 0x40 false b) (body_of b) v e in read_length 0x40 false b h.0 h.1

-- ---- lists

zip_left : {A B : Type 0} (R : A → B → Type 0) (P : A → Type 0) (Q : B → Type 0) (xs : List A) (ys : List B) → ((x : A) (y : B) → R x y → Q y → P x) → AllZip R xs ys → All Q ys → All P xs
zip_left R P Q [] [] f h q = All-nil P
zip_left R P Q [] (y ∷ ys) f h q = absurd h
zip_left R P Q (x ∷ xs) [] f h q = absurd h
zip_left R P Q (x ∷ xs) (y ∷ ys) f h q =
    All-cons P x xs (f x y h.0 (All-head Q y ys q)) (zip_left R P Q xs ys f h.1 (All-tail Q y ys q))

zip_length : {A B : Type 0} (R : A → B → Type 0) (xs : List A) (ys : List B) → AllZip R xs ys → length xs ≡ length ys
zip_length R [] [] h = refl
zip_length R [] (y ∷ ys) h = absurd h
zip_length R (x ∷ xs) [] h = absurd h
zip_length R (x ∷ xs) (y ∷ ys) h = ap suc (zip_length R xs ys h.1)

pids_of : (r : RequestValue) (pmts : List SectionOnPid) (chosen : List ChosenValue) → AllZip (IsPmtFor r) pmts chosen → map pid_of_section pmts ≡ map pmt_of_service (map (λ (c : ChosenValue). c.service) chosen)
pids_of r [] [] h = refl
pids_of r [] (c ∷ chosen) h = absurd h
pids_of r (s ∷ pmts) [] h = absurd h
pids_of r (s ∷ pmts) (c ∷ chosen) h =
    ap (λ n. n ∷ map pid_of_section pmts) h.0.on_pid ∙ ap (λ ns. c.service.pmt ∷ ns) (pids_of r pmts chosen h.1)

sections_length : (r : RequestValue) (last number : ℕ) (groups : List (List SdtRow)) → length (numbered_sections r last number groups) ≡ length groups
sections_length r last number [] = refl
sections_length r last number (group ∷ groups) = ap suc (sections_length r last (number + 1) groups)

some_sections : (r : RequestValue) (chosen : List ChosenValue) → 1 ≤ length chosen → 1 ≤ length (output_sdt r chosen)
some_sections r chosen l =
    let groups = sdt_groups (map output_row chosen) in
    let many = sections_length r (length groups - 1) 0 groups in
    let some = groups_some (map output_row chosen) (let e = length-map chosen output_row in omega arith) in
    omega arith

-- ---- the facts

all_of : {X : Type 0} (xs : List X) → All (λ x. Unit {0}) xs
all_of xs = λ i d l. tt

basics_of : (p : PlanValue) (chosen : List ChosenValue) → IsRequest p.request → IsPlanOf p.request chosen p → PlanBasics p
basics_of p chosen ok is =
    let t = is.tables in
    let r = p.request in
    let count = count_of r chosen is.services in
    let services = ok.service_count in
    record {
      rate = ap (λ x. x.rate) is.rounds;
      fast_len = ap (λ x. x.fast_len) is.rounds ∙ sym t.fast_count;
      slow_len = ap (λ x. x.slow_len) is.rounds ∙ sym t.slow_count;
      pat_pid = t.pat.on_pid;
      pmt_pids = pids_of r p.tables.pmts chosen t.pmts ∙ ap (map pmt_of_service) is.services;
      sdt_pids = zip_left IsSdtFor (λ s. s.pid ≡ 0x0011) (λ v. Unit {0}) p.tables.sdt (output_sdt r chosen) (λ s v f q. f.on_pid) t.sdt (all_of (output_sdt r chosen));
      nit_pid = t.nit.on_pid;
      sdt_some = let n = zip_length IsSdtFor p.tables.sdt (output_sdt r chosen) t.sdt in let some = some_sections r chosen (omega arith) in omega arith;
      pat = record { on_pid = omega (arith, t.pat.on_pid); some = omega (arith, t.pat.whole); whole = pat_length _ _ t.pat.says.value };
      pmts = zip_left (IsPmtFor r) IsFitSection (λ (c : ChosenValue). IsService (length r.inputs) (length r.streams) c.service) p.tables.pmts chosen
          (λ s c f q. record { on_pid = omega (arith, f.on_pid, q.pmt); some = omega (arith, f.whole); whole = pmt_length _ _ f.says.value }) t.pmts (are_services r chosen ok is.services);
      sdt = zip_left IsSdtFor IsFitSection (λ v. Unit {0}) p.tables.sdt (output_sdt r chosen)
          (λ s v f q. record { on_pid = omega (arith, f.on_pid); some = omega (arith, f.whole); whole = sdt_length _ _ f.says.value }) t.sdt (all_of (output_sdt r chosen));
      nit = record { on_pid = omega (arith, t.nit.on_pid); some = omega (arith, t.nit.whole); whole = nit_length _ _ t.nit.says.value };
      fast_bytes = λ i d l. (t.fast_whole i d l).bytes;
      slow_bytes = λ i d l. (t.slow_whole i d l).bytes;
    }

pub plan_basics : (p : PlanValue) → IsRequest p.request → IsPlan p → PlanBasics p
plan_basics p ok is = ∥∥₁_elim is (one_proof p) (λ h. basics_of p h.0 ok h.1)
