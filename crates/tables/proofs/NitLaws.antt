-- The fields of a network information table, and a written one read back.
use Rattle.std.proofs.Common.{◌≡◌, ℕ, ◌+◌, ◌*◌, ◌/◌, ◌%◌, ◌^◌, ◌<◌, ◌≤◌, ◌==◌, leb, List, [], ◌∷◌, length, drop, get_or, map, refl, sym, ◌∙◌, ap, arith, Option, Some, IfSome, Ok, Err, Result, Bool, if◌then◌else◌, slice_index_or, true, false, lit<, subst}
use Rattle.std.specs.List.{All, flat_map}
use Rattle.std.proofs.lemmas.List.{length-append}
use Rattle.std.proofs.lemmas.List.Elements.{All-head, All-tail, All-map}
use Rattle.std.proofs.lemmas.Bool.Decides.{nat_tests}
use Rattle.tspkt.specs.Bits.{field}
use Rattle.tspkt.proofs.BitLaws.{field_in_byte, field_byte, field_and_byte, field_fits}
use Rattle.tables.specs.Header.{section_bytes, body_of, AreOnes, IsHeader}
use Rattle.tables.specs.Descriptors.{are_whole}
use Rattle.tables.specs.Rows.{RowParts, rows_of, first_row, has_whole_loop}
use Rattle.tables.specs.Nit.{NitValue, nit_of, nit_behind_header, nit_with_rows, nit_row_of, nit_row_bytes, transport_stream_loop_of, transport_stream_loop_length_of, has_whole_parts, nit_body_bytes, nit_section_length_of, IsNitRow, HasReservedNitBits}
use Rattle.tables.specs.declared.nit_row.NitRow.{NitRow}
use Rattle.tables.specs.declared.table_fault.TableFault.{TableFault}
use Rattle.tables.specs.declared.table_fault.TableFault.TheVariants.{BadLoop}
use Rattle.tables.proofs.HeaderLaws.{Fits, section_bytes_body, written_header, written_reserved}
use Rattle.tables.proofs.RowLaws.{IsWritten, loop_length_at, whole_back, first_row_back, rest_back, rows_read_back}
use Rattle.tables.proofs.LengthLaws.{each_within, length_rows}

pub transport_stream_id_at : (b : List ℕ) → field b 0 16 ≡ get_or b 0 0 % 256 * 256 + get_or b 1 0 % 256
transport_stream_id_at b = let high = field_byte b 0 in let both = field_and_byte b 0 8 1 refl in omega (arith, high, both)

pub original_network_id_at : (b : List ℕ) → field b 16 16 ≡ get_or b 2 0 % 256 * 256 + get_or b 3 0 % 256
original_network_id_at b = let high = field_byte b 2 in let both = field_and_byte b 16 8 3 refl in omega (arith, high, both)

pub transport_stream_loop_length_at : (b : List ℕ) → field b 4 12 ≡ get_or b 0 0 % 16 * 256 + get_or b 1 0 % 256
transport_stream_loop_length_at b = let high = field_in_byte b 0 4 4 (omega arith) in let both = field_and_byte b 4 4 1 refl in omega (arith, high, both)

pub ruleset nit_fields = (transport_stream_id_at, original_network_id_at, transport_stream_loop_length_at)

-- ---- what is read

-- the fields of a row that is read fit
pub nit_row_fits : (p : RowParts) → are_whole 0 p.descriptors ≡ true → IsNitRow (nit_row_of p)
nit_row_fits p w = record { transport_stream_id = field_fits p.head 0 16; original_network_id = field_fits p.head 16 16; descriptors = w }

-- the parts of a body, one after the other
pub parts_bad : (body : List ℕ) → has_whole_loop 2 body ≡ false → has_whole_parts body ≡ false
unfolding has_whole_parts
parts_bad body w = rw w refl

pub parts_short : (body loop : List ℕ) → has_whole_loop 2 body ≡ true → loop ≡ transport_stream_loop_of body → length loop < 2 → has_whole_parts body ≡ false
unfolding has_whole_parts
parts_short body loop w e l =
    let n = ap length e in
    let short : leb 2 (length (transport_stream_loop_of body)) ≡ false = grind (arith, nat_tests) in
    rw (w, short) refl

pub parts_end : (body loop : List ℕ) (r : Bool) → has_whole_loop 2 body ≡ true → loop ≡ transport_stream_loop_of body → 2 ≤ length loop → (field loop 4 12 + 2 == length loop) ≡ r → has_whole_parts body ≡ r
unfolding has_whole_parts
parts_end body loop r w e l t =
    let n = ap length e in
    let long : leb 2 (length (transport_stream_loop_of body)) ≡ true = grind (arith, nat_tests) in
    rw (w, long) (ap (λ (b : List ℕ). field b 4 12 + 2 == length b) (sym e) ∙ t)

-- ---- what is written is read

abbrev nit_row_parts : NitRow → RowParts
nit_row_parts r = record {
  head =
      (r.transport_stream_id / 256) ∷ (r.transport_stream_id % 256) ∷ (r.original_network_id / 256) ∷ (r.original_network_id % 256)
      ∷ (0xF0 + length r.descriptors / 256) ∷ (length r.descriptors % 256) ∷ [];
  descriptors = r.descriptors;
}

abbrev network_parts : NitValue → RowParts
network_parts v = record {
  head = (0xF0 + length v.network_descriptors / 256) ∷ (length v.network_descriptors % 256) ∷ [];
  descriptors = v.network_descriptors;
}

-- the bytes behind the network's descriptors
abbrev loop_bytes : List NitRow → List ℕ
loop_bytes rows =
    let n = transport_stream_loop_length_of rows in
    (0xF0 + n / 256) ∷ (n % 256) ∷ flat_map nit_row_bytes rows

-- a row that is written fits its head
record IsShortRow (r : NitRow) : Type 0 where
  row : IsNitRow r
  short : length r.descriptors < 2 ^ 12

row_written : (r : NitRow) → IsShortRow r → IsWritten 6 (nit_row_parts r)
row_written r f = record {
  head = refl;
  descriptors_length = loop_length_at 6 (nit_row_parts r).head (omega arith) ∙ omega (arith, f.short);
  descriptors = f.row.descriptors;
}

row_back : (r : NitRow) → IsNitRow r → nit_row_of (nit_row_parts r) ≡ r
row_back r f =
    let b = (nit_row_parts r).head in
    let t : field b 0 16 ≡ r.transport_stream_id = transport_stream_id_at b ∙ omega (arith, f.transport_stream_id) in
    let o : field b 16 16 ≡ r.original_network_id = original_network_id_at b ∙ omega (arith, f.original_network_id) in
    rw (t, o) refl

map_back : (rows : List NitRow) → All IsNitRow rows → map nit_row_of (map nit_row_parts rows) ≡ rows
map_back [] a = refl
map_back (r ∷ rows) a = rw (map_back rows (All-tail IsNitRow r rows a), row_back r (All-head IsNitRow r rows a)) refl

-- what a table that is written meets
pub record IsNit (v : NitValue) : Type 0 where
  pub header : IsHeader v.header
  pub network_descriptors : are_whole 0 v.network_descriptors ≡ true
  pub rows : All IsNitRow v.rows
  pub short : nit_section_length_of v ≤ 1021

-- a table that keeps its invariant, and isn't too long
pub is_nit : (v w : NitValue) → v ≡ w → IsHeader v.header × (are_whole 0 v.network_descriptors ≡ true) × All IsNitRow v.rows → nit_section_length_of w ≤ 1021 → IsNit w
is_nit v w e i s = record {
  header = subst (λ (x : NitValue). IsHeader x.header) e i.0;
  network_descriptors = subst (λ (x : NitValue). are_whole 0 x.network_descriptors ≡ true) e i.1;
  rows = subst (λ (x : NitValue). All IsNitRow x.rows) e i.2;
  short = s;
}

pub rows_short : (v : NitValue) → nit_section_length_of v ≤ 1021 → All (λ (r : NitRow). length r.descriptors < 2 ^ 12) v.rows
rows_short v s =
    let each = each_within (λ (r : NitRow). 6 + length r.descriptors) 1021 v.rows (omega arith) in
    λ k d l. let e = each k d l in omega arith

rows_length : (rows : List NitRow) → length (flat_map nit_row_bytes rows) ≡ transport_stream_loop_length_of rows
rows_length rows = length_rows (λ (r : NitRow). 6 + length r.descriptors) nit_row_bytes rows (λ r. omega arith)

pub body_length : (v : NitValue) → length (nit_body_bytes v) + 9 ≡ nit_section_length_of v
body_length v = let e = length-append v.network_descriptors (loop_bytes v.rows) in let f = rows_length v.rows in omega arith

abbrev HasOnes : RowParts → Type 0
HasOnes r = AreOnes r.head 32 4

module _ (v : NitValue) (p : IsNit v) where
  network_written : IsWritten 2 (network_parts v)
  network_written = record {
    head = refl;
    descriptors_length = loop_length_at 2 (network_parts v).head (omega arith) ∙ omega (arith, p.short);
    descriptors = p.network_descriptors;
  }

  rows_written : rows_of 6 0 (flat_map nit_row_bytes v.rows) ≡ Some (map nit_row_parts v.rows)
  rows_written =
      let short = rows_short v p.short in
      rows_read_back 6 nit_row_parts IsShortRow v.rows (omega arith) row_written (λ k d l. record { row = p.rows k d l; short = short k d l })

  loop_back : transport_stream_loop_of (nit_body_bytes v) ≡ loop_bytes v.rows
  loop_back = rest_back 2 (network_parts v) (loop_bytes v.rows) (omega arith) network_written

  whole_parts : has_whole_parts (nit_body_bytes v) ≡ true
  whole_parts =
      let loop = loop_bytes v.rows in
      let whole = whole_back 2 (network_parts v) loop (omega arith) network_written in
      let n = transport_stream_loop_length_of v.rows in
      let counted : field loop 4 12 ≡ n = transport_stream_loop_length_at loop ∙ omega (arith, p.short) in
      let long : length loop ≡ n + 2 = omega (arith, rows_length v.rows) in
      let same : (field loop 4 12 + 2 == length loop) ≡ true = grind (arith, nat_tests) in
      parts_end (nit_body_bytes v) loop true whole (sym loop_back) (omega arith) same

  fits : Fits 0x40 1 false v.header (nit_body_bytes v)
  fits = record {
    id = lit< tt;
    behind = lit< tt;
    header = p.header;
    alone = λ e. cc;
    short = let e = body_length v in omega (arith, p.short);
  }

  body_back : nit_behind_header (Ok v.header) (nit_body_bytes v) ≡ Ok v
  body_back =
      let body = nit_body_bytes v in
      let first = first_row_back 2 (network_parts v) (loop_bytes v.rows) (omega arith) network_written in
      let h = v.header in
      let bad : Result NitValue TableFault = Err BadLoop in
      ap (λ (t : Bool). if t then nit_with_rows h (first_row 2 body).descriptors (rows_of 6 0 (drop 2 (transport_stream_loop_of body))) else bad) whole_parts
      ∙ ap (λ (f : RowParts). nit_with_rows h f.descriptors (rows_of 6 0 (drop 2 (transport_stream_loop_of body)))) first
      ∙ ap (λ (t : List ℕ). nit_with_rows h v.network_descriptors (rows_of 6 0 (drop 2 t))) loop_back
      ∙ ap (nit_with_rows h v.network_descriptors) rows_written
      ∙ rw (map_back v.rows p.rows) refl

  pub nit_back : (b : List ℕ) → b ≡ section_bytes 0x40 1 v.header (nit_body_bytes v) → nit_of b ≡ Ok v
  nit_back b e =
      let s = section_bytes 0x40 1 v.header (nit_body_bytes v) in
      ap nit_of e
      ∙ ap (λ r. nit_behind_header r (body_of s)) (written_header 0x40 1 false v.header (nit_body_bytes v) fits)
      ∙ ap (nit_behind_header (Ok v.header)) (section_bytes_body 0x40 1 v.header (nit_body_bytes v))
      ∙ body_back

  rows_ones : All (λ (r : NitRow). HasOnes (nit_row_parts r)) v.rows
  rows_ones = λ k d l.
      let b = (nit_row_parts (slice_index_or v.rows k d)).head in
      field_in_byte b 4 0 4 (omega arith) ∙ omega (arith, rows_short v p.short k d l)

  pub nit_reserved : (b : List ℕ) → b ≡ section_bytes 0x40 1 v.header (nit_body_bytes v) → HasReservedNitBits b
  nit_reserved b e =
      let body = nit_body_bytes v in
      let s = section_bytes 0x40 1 v.header body in
      let loop = loop_bytes v.rows in
      let same = section_bytes_body 0x40 1 v.header body in
      let behind : transport_stream_loop_of (body_of s) ≡ loop = ap transport_stream_loop_of same ∙ loop_back in
      let rows : rows_of 6 0 (drop 2 (transport_stream_loop_of (body_of s))) ≡ Some (map nit_row_parts v.rows) = ap (λ (t : List ℕ). rows_of 6 0 (drop 2 t)) behind ∙ rows_written in
      subst HasReservedNitBits (sym e) (record {
        header = written_reserved 0x40 1 false v.header body fits;
        before_network_descriptors_length = ap (λ (t : List ℕ). field t 0 4) same ∙ field_in_byte body 0 0 4 (omega arith) ∙ omega (arith, p.short);
        before_transport_stream_loop_length = ap (λ (t : List ℕ). field t 0 4) behind ∙ field_in_byte loop 0 0 4 (omega arith) ∙ omega (arith, p.short);
        rows = subst (λ (o : Option (List RowParts)). IfSome o (All HasOnes)) (sym rows) (All-map HasOnes nit_row_parts v.rows rows_ones);
      })
