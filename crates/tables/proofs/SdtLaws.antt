-- The rows of a service description table, and a written section read back.
use Rattle.std.proofs.Common.{◌≡◌, ℕ, ◌+◌, ◌*◌, ◌/◌, ◌%◌, ◌^◌, ◌<◌, ◌≤◌, ◌==◌, Bool, true, false, List, [], ◌∷◌, length, get_or, drop, map, sum, leb, refl, sym, ◌∙◌, ap, arith, Option, Some, None, option_map, IfSome, Result, Ok, subst, lit<}
use Rattle.std.specs.List.{All, flat_map}
use Rattle.std.proofs.lemmas.List.{length-append}
use Rattle.std.proofs.lemmas.List.Elements.{All-nil, All-cons, All-head, All-tail}
use Rattle.std.proofs.lemmas.List.Sums.{sum_by-cons}
use Rattle.std.proofs.lemmas.Bool.Decides.{nat_tests}
use Rattle.tspkt.specs.Bits.{field}
use Rattle.tspkt.proofs.BitLaws.{field_in_byte, field_byte, field_and_byte, field_fits}
use Rattle.tables.specs.Descriptors.{are_whole}
use Rattle.tables.specs.Rows.{RowParts, rows_of}
use Rattle.tables.specs.declared.header.Header.{Header}
use Rattle.tables.specs.declared.sdt_row.SdtRow.{SdtRow}
use Rattle.tables.specs.declared.table_fault.TableFault.{TableFault}
use Rattle.tables.specs.Header.{AreOnes, IsHeader, header_of, section_bytes, body_of}
use Rattle.tables.specs.Sdt.{sdt_row_of, sdt_row_bytes, IsSdtRow, SdtValue, sdt_of, sdt_with_rows, sdt_behind_header, sdt_section_length_of, bit_of, HasReservedSdtBits}
use Rattle.tables.proofs.HeaderLaws.{Fits, written_header, section_bytes_body, written_reserved}
use Rattle.tables.proofs.RowLaws.{IsWritten, rows_read_back, loop_length_at}

pub service_id_at : (b : List ℕ) → field b 0 16 ≡ get_or b 0 0 % 256 * 256 + get_or b 1 0 % 256
service_id_at b = let high = field_byte b 0 in let both = field_and_byte b 0 8 1 refl in omega (arith, high, both)

pub eit_schedule_at : (b : List ℕ) → field b 22 1 ≡ get_or b 2 0 / 2 % 2
eit_schedule_at b = field_in_byte b 2 6 1 (omega arith)

pub eit_present_following_at : (b : List ℕ) → field b 23 1 ≡ get_or b 2 0 % 2
eit_present_following_at b = let e = field_in_byte b 2 7 1 (omega arith) in omega (arith, e)

pub running_status_at : (b : List ℕ) → field b 24 3 ≡ get_or b 3 0 / 32 % 8
running_status_at b = field_in_byte b 3 0 3 (omega arith)

pub free_ca_mode_at : (b : List ℕ) → field b 27 1 ≡ get_or b 3 0 / 16 % 2
free_ca_mode_at b = field_in_byte b 3 3 1 (omega arith)

before_flags_at : (b : List ℕ) → field b 16 6 ≡ get_or b 2 0 / 4 % 64
before_flags_at b = field_in_byte b 2 0 6 (omega arith)

pub ruleset sdt_row_fields = (service_id_at, eit_schedule_at, eit_present_following_at, running_status_at, free_ca_mode_at)

-- ---- a section that is read

-- what is read fits
pub row_fits : (row : RowParts) → are_whole 0 row.descriptors ≡ true → IsSdtRow (sdt_row_of row)
row_fits row w = record {
  service_id = field_fits row.head 0 16;
  running_status = field_fits row.head 24 3;
  descriptors = w;
}

rows_given : (h : Header) (id : ℕ) (o : Option (List RowParts)) (rows : List SdtRow) → option_map (map sdt_row_of) o ≡ Some rows → sdt_with_rows h id o ≡ Ok (record { header = h; original_network_id = id; rows = rows })
rows_given h id None rows e = absurd (let g : None ≡ Some rows = e in cc)
rows_given h id (Some l) rows e =
    let same : map sdt_row_of l ≡ rows = cc in
    let of : List SdtRow → Result SdtValue TableFault = λ (k : List SdtRow). Ok (record { header = h; original_network_id = id; rows = k }) in
    ap of same

pub sdt_read : (b body rest : List ℕ) (h : Header) (id : ℕ) (rows : List SdtRow) → header_of 0x42 false b ≡ Ok h → body ≡ body_of b → 3 ≤ length body → rest ≡ drop 3 body → id ≡ field body 0 16 → option_map (map sdt_row_of) (rows_of 5 0 rest) ≡ Some rows → sdt_of b ≡ Ok (record { header = h; original_network_id = id; rows = rows })
sdt_read b body rest h id rows e s l r i given =
    let long : leb 3 (length body) ≡ true = grind (arith, nat_tests) in
    let inside : sdt_behind_header (Ok h) body ≡ sdt_with_rows h (field body 0 16) (rows_of 5 0 (drop 3 body)) = rw long refl in
    ap (λ t. sdt_behind_header t (body_of b)) e
    ∙ ap (λ (t : List ℕ). sdt_behind_header (Ok h) t) (sym s)
    ∙ inside
    ∙ ap (λ (n : ℕ). sdt_with_rows h n (rows_of 5 0 (drop 3 body))) (sym i)
    ∙ ap (λ (t : List ℕ). sdt_with_rows h id (rows_of 5 0 t)) (sym r)
    ∙ rows_given h id (rows_of 5 0 rest) rows given

-- ---- a row that is written

-- a row in two parts, as it is written
abbrev pub sdt_parts : SdtRow → RowParts
sdt_parts r = record {
  head =
      (r.service_id / 256) ∷ (r.service_id % 256)
      ∷ (0xFC + bit_of r.eit_schedule_flag * 2 + bit_of r.eit_present_following_flag)
      ∷ (r.running_status * 32 + bit_of r.free_ca_mode * 16 + length r.descriptors / 256)
      ∷ (length r.descriptors % 256) ∷ [];
  descriptors = r.descriptors;
}

-- and short enough for its length
abbrev pub IsShortRow : SdtRow → Type 0
IsShortRow r = IsSdtRow r × (length r.descriptors < 2 ^ 12)

bit_small : (b : Bool) → bit_of b ≤ 1
bit_small true = omega arith
bit_small false = omega arith

bit_back : (b : Bool) → (bit_of b == 1) ≡ b
bit_back true = refl
bit_back false = refl

parts_written : (r : SdtRow) → IsShortRow r → IsWritten 5 (sdt_parts r)
parts_written r s = record {
  head = refl;
  descriptors_length =
      let p = sdt_parts r in
      loop_length_at 5 p.head (omega arith) ∙ omega (arith, s.1, s.0.running_status, bit_small r.free_ca_mode);
  descriptors = s.0.descriptors;
}

row_back : (r : SdtRow) → IsShortRow r → sdt_row_of (sdt_parts r) ≡ r
row_back r s =
    let p = sdt_parts r in
    let id : field p.head 0 16 ≡ r.service_id = service_id_at p.head ∙ omega (arith, s.0.service_id) in
    let schedule : field p.head 22 1 ≡ bit_of r.eit_schedule_flag = eit_schedule_at p.head ∙ omega (arith, bit_small r.eit_schedule_flag, bit_small r.eit_present_following_flag) in
    let present : field p.head 23 1 ≡ bit_of r.eit_present_following_flag = eit_present_following_at p.head ∙ omega (arith, bit_small r.eit_present_following_flag) in
    let running : field p.head 24 3 ≡ r.running_status = running_status_at p.head ∙ omega (arith, s.0.running_status, s.1, bit_small r.free_ca_mode) in
    let free : field p.head 27 1 ≡ bit_of r.free_ca_mode = free_ca_mode_at p.head ∙ omega (arith, s.1, bit_small r.free_ca_mode) in
    rw (id, schedule, present, running, free, bit_back r.eit_schedule_flag, bit_back r.eit_present_following_flag, bit_back r.free_ca_mode) refl

parts_reserved : (r : SdtRow) → let p = sdt_parts r in AreOnes p.head 16 6
parts_reserved r =
    let p = sdt_parts r in
    before_flags_at p.head ∙ omega (arith, bit_small r.eit_schedule_flag, bit_small r.eit_present_following_flag)

map_back : (rows : List SdtRow) → All IsShortRow rows → map sdt_row_of (map sdt_parts rows) ≡ rows
map_back [] a = refl
map_back (r ∷ rows) a = rw (row_back r (All-head IsShortRow r rows a), map_back rows (All-tail IsShortRow r rows a)) refl

map_reserved : (rows : List SdtRow) → All (λ (p : RowParts). AreOnes p.head 16 6) (map sdt_parts rows)
map_reserved [] = All-nil (λ (p : RowParts). AreOnes p.head 16 6)
map_reserved (r ∷ rows) = All-cons (λ (p : RowParts). AreOnes p.head 16 6) (sdt_parts r) (map sdt_parts rows) (parts_reserved r) (map_reserved rows)

pub rows_back : (rows : List SdtRow) → All IsShortRow rows → rows_of 5 0 (flat_map sdt_row_bytes rows) ≡ Some (map sdt_parts rows)
rows_back rows a = rows_read_back 5 sdt_parts IsShortRow rows (omega arith) parts_written a

-- ---- lengths

pub rows_bytes_length : (rows : List SdtRow) → length (flat_map sdt_row_bytes rows) ≡ sum (map (λ (r : SdtRow). 5 + length r.descriptors) rows)
rows_bytes_length [] = refl
rows_bytes_length (r ∷ rows) =
    let ih = rows_bytes_length rows in
    let e = sum_by-cons (λ (x : ℕ). x) (5 + length r.descriptors) (map (λ (r : SdtRow). 5 + length r.descriptors) rows) in
    let n = length-append (sdt_row_bytes r) (flat_map sdt_row_bytes rows) in
    omega (arith, ih, e, n)

-- rows that a section holds are short
pub short_rows : (rows : List SdtRow) → All IsSdtRow rows → sum (map (λ (r : SdtRow). 5 + length r.descriptors) rows) ≤ 1009 → All IsShortRow rows
short_rows [] a l = All-nil IsShortRow
short_rows (r ∷ rows) a l =
    let e = sum_by-cons (λ (x : ℕ). x) (5 + length r.descriptors) (map (λ (r : SdtRow). 5 + length r.descriptors) rows) in
    let here : length r.descriptors < 2 ^ 12 = omega (arith, e, l) in
    let behind : sum (map (λ (r : SdtRow). 5 + length r.descriptors) rows) ≤ 1009 = omega (arith, e, l) in
    All-cons IsShortRow r rows (All-head IsSdtRow r rows a, here) (short_rows rows (All-tail IsSdtRow r rows a) behind)

-- ---- a section that is written

-- the body, as it is written
abbrev pub sdt_body_bytes : SdtValue → List ℕ
sdt_body_bytes v = (v.original_network_id / 256) ∷ (v.original_network_id % 256) ∷ 255 ∷ flat_map sdt_row_bytes v.rows

-- what a table must be like to be written
pub record IsWritable (v : SdtValue) : Type 0 where
  pub header : IsHeader v.header
  pub original_network_id : v.original_network_id < 2 ^ 16
  pub rows : All IsSdtRow v.rows
  pub short : sum (map (λ (r : SdtRow). 5 + length r.descriptors) v.rows) ≤ 1009

-- what `write` knows of its table once its rows were measured
pub writable : (v : SdtValue) (rows : List SdtRow) (n : ℕ) → IsHeader v.header → v.original_network_id < 2 ^ 16 → All IsSdtRow v.rows → rows ≡ v.rows → n ≡ sum (map (λ (r : SdtRow). 5 + length r.descriptors) rows) → n ≤ 1009 → IsWritable v
writable v rows n h id a e m l = record {
  header = h;
  original_network_id = id;
  rows = a;
  short = let same = ap (λ (k : List SdtRow). sum (map (λ (r : SdtRow). 5 + length r.descriptors) k)) e in omega arith;
}

pub section_fits : (v now : SdtValue) → IsWritable v → v ≡ now → sdt_section_length_of now ≤ 1021
section_fits v now w e = let same = ap sdt_section_length_of e in let s = w.short in omega arith

-- the body of `write`
pub body_written : (v : SdtValue) (rows : List SdtRow) (body written : List ℕ) → rows ≡ v.rows → written ≡ (v.original_network_id / 256) ∷ (v.original_network_id % 256) ∷ 255 ∷ flat_map sdt_row_bytes rows → body ≡ written → body ≡ sdt_body_bytes v
body_written v rows body written e w b = b ∙ w ∙ ap (λ (k : List SdtRow). (v.original_network_id / 256) ∷ (v.original_network_id % 256) ∷ 255 ∷ flat_map sdt_row_bytes k) e

pub section_length_back : (v now : SdtValue) (body : List ℕ) → body ≡ sdt_body_bytes v → v ≡ now → length body + 9 ≡ sdt_section_length_of now
section_length_back v now body b e =
    let same = ap sdt_section_length_of e in
    let n = ap length b in
    let m = rows_bytes_length v.rows in
    omega arith

fits_sdt : (v : SdtValue) → IsWritable v → Fits 0x42 1 false v.header (sdt_body_bytes v)
fits_sdt v w = record {
  id = lit< tt;
  behind = lit< tt;
  header = w.header;
  alone = λ e. cc;
  short = let e = rows_bytes_length v.rows in let s = w.short in omega arith;
}

body_back : (v : SdtValue) → IsWritable v → sdt_behind_header (Ok v.header) (sdt_body_bytes v) ≡ Ok v
body_back v w =
    let body = sdt_body_bytes v in
    let a = short_rows v.rows w.rows w.short in
    let long : leb 3 (length body) ≡ true = grind (arith, nat_tests) in
    let id : field body 0 16 ≡ v.original_network_id = service_id_at body ∙ omega (arith, w.original_network_id) in
    rw (long, id, rows_back v.rows a, map_back v.rows a) refl

-- what is written is read
pub sdt_back : (v : SdtValue) → IsWritable v → (b : List ℕ) → b ≡ section_bytes 0x42 1 v.header (sdt_body_bytes v) → sdt_of b ≡ Ok v
sdt_back v w b e =
    let body = sdt_body_bytes v in
    let s = section_bytes 0x42 1 v.header body in
    ap sdt_of e
    ∙ ap (λ r. sdt_behind_header r (body_of s)) (written_header 0x42 1 false v.header body (fits_sdt v w))
    ∙ ap (λ (t : List ℕ). sdt_behind_header (Ok v.header) t) (section_bytes_body 0x42 1 v.header body)
    ∙ body_back v w

pub sdt_reserved : (v : SdtValue) → IsWritable v → (b : List ℕ) → b ≡ section_bytes 0x42 1 v.header (sdt_body_bytes v) → HasReservedSdtBits b
sdt_reserved v w b e =
    let body = sdt_body_bytes v in
    let s = section_bytes 0x42 1 v.header body in
    let same : body_of s ≡ body = section_bytes_body 0x42 1 v.header body in
    let a = short_rows v.rows w.rows w.short in
    let R : List ℕ → Type 0 = λ (t : List ℕ). IfSome (rows_of 5 0 (drop 3 t)) (All (λ (p : RowParts). AreOnes p.head 16 6)) in
    let Q : Option (List RowParts) → Type 0 = λ (o : Option (List RowParts)). IfSome o (All (λ (p : RowParts). AreOnes p.head 16 6)) in
    subst HasReservedSdtBits (sym e) (record {
      header = written_reserved 0x42 1 false v.header body (fits_sdt v w);
      behind_original_network_id = ap (λ (t : List ℕ). field t 16 8) same ∙ field_byte body 2;
      rows = subst R (sym same) (subst Q (sym (rows_back v.rows a)) (map_reserved v.rows));
    })
