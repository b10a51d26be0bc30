-- The fields of a program map table, and a written one read back.
use Rattle.std.proofs.Common.{◌≡◌, ℕ, ◌+◌, ◌*◌, ◌/◌, ◌%◌, ◌^◌, ◌<◌, ◌≤◌, List, [], ◌∷◌, length, get_or, map, refl, sym, ◌∙◌, ap, arith, Option, Some, IfSome, Ok, Err, Result, Bool, if◌then◌else◌, slice_index_or, true, lit<, subst}
use Rattle.std.specs.List.{All, flat_map, sum}
use Rattle.std.proofs.lemmas.List.{length-append}
use Rattle.std.proofs.lemmas.List.Elements.{All-head, All-tail, All-map}
use Rattle.tspkt.specs.Bits.{field}
use Rattle.tspkt.proofs.BitLaws.{field_in_byte, field_byte, field_and_byte, field_fits}
use Rattle.tables.specs.Header.{section_bytes, body_of, AreOnes, IsSingleHeader}
use Rattle.tables.specs.Descriptors.{are_whole}
use Rattle.tables.specs.Rows.{RowParts, rows_of, first_row}
use Rattle.tables.specs.Pmt.{PmtValue, pmt_of, pmt_behind_header, pmt_with_rows, pmt_row_of, pmt_row_bytes, pmt_row_bytes_of, pmt_body_bytes, pmt_section_length_of, IsPmtRow, HasReservedPmtBits}
use Rattle.tables.specs.declared.pmt_row.PmtRow.{PmtRow}
use Rattle.tables.specs.declared.table_fault.TableFault.{TableFault}
use Rattle.tables.specs.declared.table_fault.TableFault.TheVariants.{BadLoop}
use Rattle.tables.proofs.HeaderLaws.{Fits, single_is_header, section_bytes_body, written_header, written_reserved}
use Rattle.tables.proofs.RowLaws.{IsWritten, loop_length_at, whole_back, first_row_back, rest_back, rows_read_back}
use Rattle.tables.proofs.LengthLaws.{each_within, length_rows}

pub pcr_pid_at : (b : List ℕ) → field b 3 13 ≡ get_or b 0 0 % 32 * 256 + get_or b 1 0 % 256
pcr_pid_at b = let high = field_in_byte b 0 3 5 (omega arith) in let both = field_and_byte b 3 5 1 refl in omega (arith, high, both)

pub stream_type_at : (b : List ℕ) → field b 0 8 ≡ get_or b 0 0 % 256
stream_type_at b = field_byte b 0

pub elementary_pid_at : (b : List ℕ) → field b 11 13 ≡ get_or b 1 0 % 32 * 256 + get_or b 2 0 % 256
elementary_pid_at b = let high = field_in_byte b 1 3 5 (omega arith) in let both = field_and_byte b 11 5 2 refl in omega (arith, high, both)

pub ruleset pmt_fields = (pcr_pid_at, stream_type_at, elementary_pid_at)

-- ---- what is read

-- the fields of a row that is read fit
pub pmt_row_fits : (p : RowParts) → are_whole 0 p.descriptors ≡ true → IsPmtRow (pmt_row_of p)
pmt_row_fits p w = record { stream_type = field_fits p.head 0 8; elementary_pid = field_fits p.head 11 13; descriptors = w }

-- ---- what is written is read

abbrev pmt_row_parts : PmtRow → RowParts
pmt_row_parts r = record {
  head = r.stream_type ∷ (0xE0 + r.elementary_pid / 256) ∷ (r.elementary_pid % 256) ∷ (0xF0 + length r.descriptors / 256) ∷ (length r.descriptors % 256) ∷ [];
  descriptors = r.descriptors;
}

abbrev program_parts : PmtValue → RowParts
program_parts v = record {
  head = (0xE0 + v.pcr_pid / 256) ∷ (v.pcr_pid % 256) ∷ (0xF0 + length v.program_info / 256) ∷ (length v.program_info % 256) ∷ [];
  descriptors = v.program_info;
}

-- a row that is written fits its head
record IsShortRow (r : PmtRow) : Type 0 where
  row : IsPmtRow r
  short : length r.descriptors < 2 ^ 12

row_written : (r : PmtRow) → IsShortRow r → IsWritten 5 (pmt_row_parts r)
row_written r f = record {
  head = refl;
  descriptors_length = loop_length_at 5 (pmt_row_parts r).head (omega arith) ∙ omega (arith, f.short);
  descriptors = f.row.descriptors;
}

row_back : (r : PmtRow) → IsPmtRow r → pmt_row_of (pmt_row_parts r) ≡ r
row_back r f =
    let b = (pmt_row_parts r).head in
    let t : field b 0 8 ≡ r.stream_type = stream_type_at b ∙ omega (arith, f.stream_type) in
    let p : field b 11 13 ≡ r.elementary_pid = elementary_pid_at b ∙ omega (arith, f.elementary_pid) in
    rw (t, p) refl

map_back : (rows : List PmtRow) → All IsPmtRow rows → map pmt_row_of (map pmt_row_parts rows) ≡ rows
map_back [] a = refl
map_back (r ∷ rows) a = rw (map_back rows (All-tail IsPmtRow r rows a), row_back r (All-head IsPmtRow r rows a)) refl

-- what a table that is written meets
pub record IsPmt (v : PmtValue) : Type 0 where
  pub header : IsSingleHeader v.header
  pub pcr_pid : v.pcr_pid < 2 ^ 13
  pub program_info : are_whole 0 v.program_info ≡ true
  pub rows : All IsPmtRow v.rows
  pub short : pmt_section_length_of v ≤ 1021

-- a table that keeps its invariant, and isn't too long
pub is_pmt : (v w : PmtValue) → v ≡ w → IsSingleHeader v.header × (v.pcr_pid < 2 ^ 13) × (are_whole 0 v.program_info ≡ true) × All IsPmtRow v.rows → pmt_section_length_of w ≤ 1021 → IsPmt w
is_pmt v w e i s = record {
  header = subst (λ (x : PmtValue). IsSingleHeader x.header) e i.0;
  pcr_pid = subst (λ (x : PmtValue). x.pcr_pid < 2 ^ 13) e i.1;
  program_info = subst (λ (x : PmtValue). are_whole 0 x.program_info ≡ true) e i.2;
  rows = subst (λ (x : PmtValue). All IsPmtRow x.rows) e i.3;
  short = s;
}

pub rows_short : (v : PmtValue) → pmt_section_length_of v ≤ 1021 → All (λ (r : PmtRow). length r.descriptors < 2 ^ 12) v.rows
rows_short v s =
    let each = each_within (λ (r : PmtRow). 5 + length r.descriptors) 1021 v.rows (omega arith) in
    λ k d l. let e = each k d l in omega arith

pub rows_length : (rows : List PmtRow) → length (flat_map pmt_row_bytes rows) ≡ sum (map (λ (r : PmtRow). 5 + length r.descriptors) rows)
rows_length rows = length_rows (λ (r : PmtRow). 5 + length r.descriptors) pmt_row_bytes rows (λ r. omega arith)

pub body_length : (v : PmtValue) → length (pmt_body_bytes v) + 9 ≡ pmt_section_length_of v
body_length v = let e = length-append v.program_info (flat_map pmt_row_bytes v.rows) in let f = rows_length v.rows in omega arith

abbrev HasOnes : RowParts → Type 0
HasOnes r = AreOnes r.head 8 3 × AreOnes r.head 24 4

module _ (v : PmtValue) (p : IsPmt v) where
  program_written : IsWritten 4 (program_parts v)
  program_written = record {
    head = refl;
    descriptors_length = loop_length_at 4 (program_parts v).head (omega arith) ∙ omega (arith, p.short);
    descriptors = p.program_info;
  }

  rows_written : rows_of 5 0 (flat_map pmt_row_bytes v.rows) ≡ Some (map pmt_row_parts v.rows)
  rows_written =
      let short = rows_short v p.short in
      rows_read_back 5 pmt_row_parts IsShortRow v.rows (omega arith) row_written (λ k d l. record { row = p.rows k d l; short = short k d l })

  behind_program : pmt_row_bytes_of (pmt_body_bytes v) ≡ flat_map pmt_row_bytes v.rows
  behind_program = rest_back 4 (program_parts v) (flat_map pmt_row_bytes v.rows) (omega arith) program_written

  fits : Fits 2 0 true v.header (pmt_body_bytes v)
  fits = record {
    id = lit< tt;
    behind = lit< tt;
    header = single_is_header v.header p.header;
    alone = λ e. (p.header.section_number, p.header.last_section_number);
    short = let e = body_length v in omega (arith, p.short);
  }

  body_back : pmt_behind_header (Ok v.header) (pmt_body_bytes v) ≡ Ok v
  body_back =
      let body = pmt_body_bytes v in
      let rows = flat_map pmt_row_bytes v.rows in
      let whole = whole_back 4 (program_parts v) rows (omega arith) program_written in
      let first = first_row_back 4 (program_parts v) rows (omega arith) program_written in
      let pcr : field (program_parts v).head 3 13 ≡ v.pcr_pid = pcr_pid_at (program_parts v).head ∙ omega (arith, p.pcr_pid) in
      let h = v.header in
      let parts = program_parts v in
      let bad : Result PmtValue TableFault = Err BadLoop in
      ap (λ (t : Bool). if t then pmt_with_rows h (first_row 4 body) (rows_of 5 0 (pmt_row_bytes_of body)) else bad) whole
      ∙ ap (λ (f : RowParts). pmt_with_rows h f (rows_of 5 0 (pmt_row_bytes_of body))) first
      ∙ ap (λ (t : List ℕ). pmt_with_rows h parts (rows_of 5 0 t)) behind_program
      ∙ ap (pmt_with_rows h parts) rows_written
      ∙ rw (pcr, map_back v.rows p.rows) refl

  pub pmt_back : (b : List ℕ) → b ≡ section_bytes 2 0 v.header (pmt_body_bytes v) → pmt_of b ≡ Ok v
  pmt_back b e =
      let s = section_bytes 2 0 v.header (pmt_body_bytes v) in
      ap pmt_of e
      ∙ ap (λ r. pmt_behind_header r (body_of s)) (written_header 2 0 true v.header (pmt_body_bytes v) fits)
      ∙ ap (pmt_behind_header (Ok v.header)) (section_bytes_body 2 0 v.header (pmt_body_bytes v))
      ∙ body_back

  rows_ones : All (λ (r : PmtRow). HasOnes (pmt_row_parts r)) v.rows
  rows_ones = λ k d l.
      let b = (pmt_row_parts (slice_index_or v.rows k d)).head in (
        field_in_byte b 1 0 3 (omega arith) ∙ omega (arith, (p.rows k d l).elementary_pid),
        field_in_byte b 3 0 4 (omega arith) ∙ omega (arith, rows_short v p.short k d l),
      )

  pub pmt_reserved : (b : List ℕ) → b ≡ section_bytes 2 0 v.header (pmt_body_bytes v) → HasReservedPmtBits b
  pmt_reserved b e =
      let body = pmt_body_bytes v in
      let s = section_bytes 2 0 v.header body in
      let same = section_bytes_body 2 0 v.header body in
      let rows : rows_of 5 0 (pmt_row_bytes_of (body_of s)) ≡ Some (map pmt_row_parts v.rows) =
      ap (λ (t : List ℕ). rows_of 5 0 (pmt_row_bytes_of t)) same ∙ ap (rows_of 5 0) behind_program ∙ rows_written in
      subst HasReservedPmtBits (sym e) (record {
        header = written_reserved 2 0 true v.header body fits;
        before_pcr_pid = ap (λ (t : List ℕ). field t 0 3) same ∙ field_in_byte body 0 0 3 (omega arith) ∙ omega (arith, p.pcr_pid);
        before_program_info_length = ap (λ (t : List ℕ). field t 16 4) same ∙ field_in_byte body 2 0 4 (omega arith) ∙ omega (arith, p.short);
        rows = subst (λ (o : Option (List RowParts)). IfSome o (All HasOnes)) (sym rows) (All-map HasOnes pmt_row_parts v.rows rows_ones);
      })
