-- Rows of a program association table.
use Rattle.std.proofs.Common.{◌≡◌, ◌≢◌, ℕ, zero, suc, ◌+◌, ◌*◌, ◌%◌, ◌<◌, ◌≤◌, List, [], ◌∷◌, ◌++◌, length, get_or, take, drop, refl, sym, ◌∙◌, ap, arith, Option, Some, None, option_map, IsSome, IfSome, rules, Ok, false, lit<, subst}
use Rattle.std.specs.List.{All, flat_map}
use Rattle.std.proofs.lemmas.List.{drop_more, append_assoc, drop-drop}
use Rattle.std.proofs.lemmas.List.Elements.{All-nil, All-cons, All-head, All-tail}
use Rattle.tspkt.specs.Bits.{field}
use Rattle.tspkt.proofs.BitLaws.{field_in_byte, field_byte, field_and_byte, field_fits}
use Rattle.section.specs.Crc.{crc_of, crc_bytes}
use Rattle.tables.specs.declared.pat_row.PatRow.{PatRow}
use Rattle.tables.specs.Header.{AreOnes, IsHeader, section_bytes, header_and_body, body_of}
use Rattle.tables.specs.Pat.{pat_row_of, pat_rows_of, pat_row_bytes, IsPatRow, PatValue, pat_of, pat_with_rows, pat_behind_header, HasReservedPatBits}
use Rattle.tables.proofs.HeaderLaws.{Fits, written_header, section_bytes_body, written_reserved}

pub program_number_at : (b : List ℕ) → field b 0 16 ≡ get_or b 0 0 % 256 * 256 + get_or b 1 0 % 256
program_number_at b = let high = field_byte b 0 in let both = field_and_byte b 0 8 1 refl in omega (arith, high, both)

pub pid_at : (b : List ℕ) → field b 19 13 ≡ get_or b 2 0 % 32 * 256 + get_or b 3 0 % 256
pid_at b = let high = field_in_byte b 2 3 5 (omega arith) in let both = field_and_byte b 19 5 3 refl in omega (arith, high, both)

pub ruleset pat_row_fields = (program_number_at, pid_at)

-- bytes that aren't whole rows
pub not_rows : (b : List ℕ) → length b % 4 ≢ 0 → pat_rows_of b ≡ None
not_rows [] h = absurd (h refl)
not_rows (a ∷ []) h = refl
not_rows (a ∷ b ∷ []) h = refl
not_rows (a ∷ b ∷ c ∷ []) h = refl
not_rows (a ∷ b ∷ c ∷ d ∷ rest) h = rw (not_rows rest (λ e. h (omega arith))) refl

some_of : (r : PatRow) (rest : Option (List PatRow)) → IsSome rest → IsSome (option_map (λ rows. r ∷ rows) rest)
some_of r None h = h
some_of r (Some l) h = h

-- and bytes that are
pub whole_rows : (b : List ℕ) → length b % 4 ≡ 0 → IsSome (pat_rows_of b)
whole_rows [] h = search rules
whole_rows (a ∷ []) h = absurd (omega arith)
whole_rows (a ∷ b ∷ []) h = absurd (omega arith)
whole_rows (a ∷ b ∷ c ∷ []) h = absurd (omega arith)
whole_rows (a ∷ b ∷ c ∷ d ∷ rest) h = some_of (pat_row_of (a ∷ b ∷ c ∷ d ∷ [])) (pat_rows_of rest) (whole_rows rest (omega arith))

-- four bytes from place i on
four : (b : List ℕ) (i : ℕ) → i + 4 ≤ length b → drop i b ≡ get_or b i 0 ∷ get_or b (i + 1) 0 ∷ get_or b (i + 2) 0 ∷ get_or b (i + 3) 0 ∷ drop (i + 4) b
four b i h =
    let a0 = drop_more b i 0 (omega arith) in
    let a1 = drop_more b (i + 1) 0 (omega arith) in
    let a2 = drop_more b (i + 2) 0 (omega arith) in
    let a3 = drop_more b (i + 3) 0 (omega arith) in
    let p1 : i + 1 + 1 ≡ i + 2 = omega arith in
    let p2 : i + 2 + 1 ≡ i + 3 = omega arith in
    let p3 : i + 3 + 1 ≡ i + 4 = omega arith in
    a0
    ∙ ap (λ (l : List ℕ). get_or b i 0 ∷ l) (a1 ∙ ap (λ (n : ℕ). get_or b (i + 1) 0 ∷ drop n b) p1)
    ∙ ap (λ (l : List ℕ). get_or b i 0 ∷ get_or b (i + 1) 0 ∷ l) (a2 ∙ ap (λ (n : ℕ). get_or b (i + 2) 0 ∷ drop n b) p2)
    ∙ ap (λ (l : List ℕ). get_or b i 0 ∷ get_or b (i + 1) 0 ∷ get_or b (i + 2) 0 ∷ l) (a3 ∙ ap (λ (n : ℕ). get_or b (i + 3) 0 ∷ drop n b) p3)

rows_more : (b : List ℕ) (i : ℕ) → i + 4 ≤ length b → pat_rows_of (drop i b) ≡ option_map (λ rows. pat_row_of (take 4 (drop i b)) ∷ rows) (pat_rows_of (drop (i + 4) b))
rows_more b i h = rw (four b i h) refl

joined : (rows new : List PatRow) (r : PatRow) (rest : Option (List PatRow)) → new ≡ rows ++ r ∷ [] → option_map (λ l. new ++ l) rest ≡ option_map (λ l. rows ++ l) (option_map (λ l. r ∷ l) rest)
joined rows new r None n = refl
joined rows new r (Some l) n = ap Some (ap (λ (k : List PatRow). k ++ l) n ∙ append_assoc rows (r ∷ []) l)

-- one row more was read
pub rows_step : (b : List ℕ) (i j : ℕ) (rows new : List PatRow) (r : PatRow) → i + 4 ≡ j → j ≤ length b → r ≡ pat_row_of (take 4 (drop i b)) → new ≡ rows ++ r ∷ [] → option_map (λ rest. rows ++ rest) (pat_rows_of (drop i b)) ≡ pat_rows_of b → option_map (λ rest. new ++ rest) (pat_rows_of (drop j b)) ≡ pat_rows_of b
rows_step b i j rows new r p h e n before =
    ap (λ (k : ℕ). option_map (λ rest. new ++ rest) (pat_rows_of (drop k b))) (sym p)
    ∙ joined rows new r (pat_rows_of (drop (i + 4) b)) n
    ∙ ap (λ (v : PatRow). option_map (λ rest. rows ++ rest) (option_map (λ more. v ∷ more) (pat_rows_of (drop (i + 4) b)))) e
    ∙ ap (option_map (λ rest. rows ++ rest)) (sym (rows_more b i (omega arith)))
    ∙ before

-- what is read fits
one_all : (b : List ℕ) (rest : Option (List PatRow)) → IfSome rest (All IsPatRow) → IfSome (option_map (λ rows. pat_row_of b ∷ rows) rest) (All IsPatRow)
one_all b None h = tt
one_all b (Some rows) h = All-cons IsPatRow (pat_row_of b) rows (record { program_number = field_fits b 0 16; pid = field_fits b 19 13 }) h

rows_all : (b : List ℕ) → IfSome (pat_rows_of b) (All IsPatRow)
rows_all [] = All-nil IsPatRow
rows_all (a ∷ []) = tt
rows_all (a ∷ b ∷ []) = tt
rows_all (a ∷ b ∷ c ∷ []) = tt
rows_all (a ∷ b ∷ c ∷ d ∷ rest) = one_all (a ∷ b ∷ c ∷ d ∷ []) (pat_rows_of rest) (rows_all rest)

pub rows_fit : (b : List ℕ) (rows : List PatRow) → pat_rows_of b ≡ Some rows → All IsPatRow rows
rows_fit b rows e = let h = rows_all b in rw e at h

-- rows that are written are read
row_back : (r : PatRow) → IsPatRow r → pat_row_of (pat_row_bytes r) ≡ r
row_back r h =
    let b = pat_row_bytes r in
    let p : field b 0 16 ≡ r.program_number = program_number_at b ∙ omega (arith, h.program_number) in
    let q : field b 19 13 ≡ r.pid = pid_at b ∙ omega (arith, h.pid) in
    rw (p, q) refl

rows_back : (rows : List PatRow) → All IsPatRow rows → pat_rows_of (flat_map pat_row_bytes rows) ≡ Some rows
rows_back [] h = refl
rows_back (r ∷ rows) h = rw (rows_back rows (All-tail IsPatRow r rows h), row_back r (All-head IsPatRow r rows h)) refl

pub rows_length : (rows : List PatRow) → length (flat_map pat_row_bytes rows) ≡ 4 * length rows
rows_length [] = refl
rows_length (r ∷ rows) = let e = rows_length rows in omega (arith, e)

-- the reserved bits of row k
row_ones : (rows : List PatRow) (rest : List ℕ) (k : ℕ) → All IsPatRow rows → k < length rows → AreOnes (drop (4 * k) (flat_map pat_row_bytes rows ++ rest)) 16 3
row_ones [] rest k h l = absurd (omega arith)
row_ones (r ∷ rows) rest zero h l =
    let b = flat_map pat_row_bytes (r ∷ rows) ++ rest in
    field_in_byte b 2 0 3 (omega arith) ∙ omega (arith, (All-head IsPatRow r rows h).pid)
row_ones (r ∷ rows) rest (suc k) h l =
    let place : 4 * suc k ≡ suc (suc (suc (suc (4 * k)))) = omega arith in
    ap (λ (n : ℕ). field (drop n (flat_map pat_row_bytes (r ∷ rows) ++ rest)) 16 3) place ∙ row_ones rows rest k (All-tail IsPatRow r rows h) (omega arith)

-- the conditions under which a table is written
fits_pat : (v : PatValue) → IsHeader v.header → length v.rows ≤ 253 → Fits 0 0 false v.header (flat_map pat_row_bytes v.rows)
fits_pat v h l = record {
  id = lit< tt;
  behind = lit< tt;
  header = h;
  alone = λ e. cc;
  short = let e = rows_length v.rows in omega arith;
}

-- what is written is read
pub pat_back : (v : PatValue) → IsHeader v.header → All IsPatRow v.rows → length v.rows ≤ 253 → (b : List ℕ) → b ≡ section_bytes 0 0 v.header (flat_map pat_row_bytes v.rows) → pat_of b ≡ Ok v
pat_back v h a l b e =
    let body = flat_map pat_row_bytes v.rows in
    let s = section_bytes 0 0 v.header body in
    ap pat_of e
    ∙ ap (λ r. pat_behind_header r (body_of s)) (written_header 0 0 false v.header body (fits_pat v h l))
    ∙ ap (λ (t : List ℕ). pat_with_rows v.header (pat_rows_of t)) (section_bytes_body 0 0 v.header body)
    ∙ ap (pat_with_rows v.header) (rows_back v.rows a)

pub pat_reserved : (v : PatValue) → IsHeader v.header → All IsPatRow v.rows → length v.rows ≤ 253 → (b : List ℕ) → b ≡ section_bytes 0 0 v.header (flat_map pat_row_bytes v.rows) → HasReservedPatBits (length v.rows) b
pat_reserved v h a l b e =
    let body = flat_map pat_row_bytes v.rows in
    let s = section_bytes 0 0 v.header body in
    subst (HasReservedPatBits (length v.rows)) (sym e) (record {
      header = written_reserved 0 0 false v.header body (fits_pat v h l);
      rows = λ k less.
          ap (λ (t : List ℕ). field t 16 3) (sym (drop-drop (4 * k) 8 s))
          ∙ row_ones v.rows (crc_bytes (crc_of (header_and_body 0 0 v.header body))) k a less;
    })
