-- Each field of a section's header, by its bytes, and a written section read back.
use Rattle.std.proofs.Common.{◌≡◌, length, take, drop, if◌then◌else◌, ◌==◌, ltb, ◌&&◌, not, Bool, true, false, Ok, ℕ, ◌+◌, ◌-◌, ◌*◌, ◌/◌, ◌%◌, ◌<◌, ◌≤◌, List, get_or, refl, ◌∙◌, ap, arith}
use Rattle.std.proofs.lemmas.List.{length-append, take_at}
use Rattle.std.proofs.lemmas.Bool.Decides.{nat_tests}
use Rattle.section.specs.Crc.{crc_of, crc_bytes}
use Rattle.section.specs.Section.{section_length_of}
use Rattle.section.proofs.CrcLaws.{crc_own}
use Rattle.section.proofs.SectionLaws.{section_length_at}
use Rattle.tables.specs.Header.{header_of, header_fields_of, body_of, has_bad_length, has_bad_header, header_and_body, section_bytes, IsHeader, IsSingleHeader, HasReservedHeaderBits}
use Rattle.tables.specs.declared.header.Header.{Header}
use Rattle.tspkt.specs.Bits.{field}
use Rattle.tspkt.proofs.BitLaws.{field_in_byte, field_byte, field_and_byte}

pub table_id_at : (b : List ℕ) → field b 0 8 ≡ get_or b 0 0 % 256
table_id_at b = field_byte b 0

pub syntax_indicator_at : (b : List ℕ) → field b 8 1 ≡ get_or b 1 0 / 128 % 2
syntax_indicator_at b = field_in_byte b 1 0 1 (omega arith)

behind_syntax_indicator_at : (b : List ℕ) → field b 9 1 ≡ get_or b 1 0 / 64 % 2
behind_syntax_indicator_at b = field_in_byte b 1 1 1 (omega arith)

before_section_length_at : (b : List ℕ) → field b 10 2 ≡ get_or b 1 0 / 16 % 4
before_section_length_at b = field_in_byte b 1 2 2 (omega arith)

pub table_id_extension_at : (b : List ℕ) → field b 24 16 ≡ get_or b 3 0 % 256 * 256 + get_or b 4 0 % 256
table_id_extension_at b = let high = field_byte b 3 in let both = field_and_byte b 24 8 4 refl in omega (arith, high, both)

before_version_number_at : (b : List ℕ) → field b 40 2 ≡ get_or b 5 0 / 64 % 4
before_version_number_at b = field_in_byte b 5 0 2 (omega arith)

pub version_number_at : (b : List ℕ) → field b 42 5 ≡ get_or b 5 0 / 2 % 32
version_number_at b = field_in_byte b 5 2 5 (omega arith)

pub current_next_indicator_at : (b : List ℕ) → field b 47 1 ≡ get_or b 5 0 % 2
current_next_indicator_at b = let e = field_in_byte b 5 7 1 (omega arith) in omega (arith, e)

pub section_number_at : (b : List ℕ) → field b 48 8 ≡ get_or b 6 0 % 256
section_number_at b = field_byte b 6

pub last_section_number_at : (b : List ℕ) → field b 56 8 ≡ get_or b 7 0 % 256
last_section_number_at b = field_byte b 7

pub ruleset header_fields = (table_id_at, syntax_indicator_at, section_length_at, table_id_extension_at, version_number_at, current_next_indicator_at, section_number_at, last_section_number_at)

-- ---- a section that is written

-- what makes a section of a table readable
pub record Fits (table_id bit_behind : ℕ) (single : Bool) (h : Header) (body : List ℕ) : Type 0 where
  pub id : table_id < 256
  pub behind : bit_behind < 2
  pub header : IsHeader h
  pub alone : single ≡ true → (h.section_number ≡ 0) × (h.last_section_number ≡ 0)
  pub short : length body + 9 ≤ 1021

pub single_is_header : (h : Header) → IsSingleHeader h → IsHeader h
single_is_header h s = record {
  table_id_extension = s.table_id_extension;
  version_number = s.version_number;
  section_number = omega (arith, s.section_number);
  last_section_number = omega (arith, s.last_section_number);
  order = omega (arith, s.section_number);
}

version_back : (c : Bool) (v : ℕ) → v < 32 → (192 + v * 2 + (if c then 1 else 0)) / 2 % 32 ≡ v
version_back true v l = omega arith
version_back false v l = omega arith

current_back : (c : Bool) (v : ℕ) → ((192 + v * 2 + (if c then 1 else 0)) % 2 == 1) ≡ c
current_back true v = let e : (192 + v * 2 + 1) % 2 ≡ 1 = omega arith in rw e refl
current_back false v = let e : (192 + v * 2 + 0) % 2 ≡ 0 = omega arith in rw e refl

top_ones : (c : Bool) (v : ℕ) → v < 32 → (192 + v * 2 + (if c then 1 else 0)) / 64 % 4 ≡ 3
top_ones true v l = omega arith
top_ones false v l = omega arith

lone : (single : Bool) (h : Header) → (single ≡ true → (h.section_number ≡ 0) × (h.last_section_number ≡ 0)) → (single && not (h.section_number == 0 && h.last_section_number == 0)) ≡ false
lone true h f = let e = f refl in rw (e.0, e.1) refl
lone false h f = refl

pub section_bytes_length : (id behind : ℕ) (h : Header) (body : List ℕ) → length (section_bytes id behind h body) ≡ length body + 12
section_bytes_length id behind h body = length-append (header_and_body id behind h body) (crc_bytes (crc_of (header_and_body id behind h body))) ∙ omega arith

pub section_bytes_body : (id behind : ℕ) (h : Header) (body : List ℕ) → body_of (section_bytes id behind h body) ≡ body
section_bytes_body id behind h body =
    let b = section_bytes id behind h body in
    let count : length b - 12 ≡ length body = omega (arith, section_bytes_length id behind h body) in
    ap (λ (n : ℕ). take n (drop 8 b)) count ∙ take_at body (crc_bytes (crc_of (header_and_body id behind h body))) (length body) refl

module _ (id behind : ℕ) (single : Bool) (h : Header) (body : List ℕ) (f : Fits id behind single h body) where
  written_id : field (section_bytes id behind h body) 0 8 ≡ id
  written_id = table_id_at (section_bytes id behind h body) ∙ omega (arith, f.id)

  written_section_length : field (section_bytes id behind h body) 12 12 ≡ length body + 9
  written_section_length = section_length_at (section_bytes id behind h body) ∙ omega (arith, f.short, f.behind)

  written_fields : header_fields_of (section_bytes id behind h body) ≡ h
  written_fields =
      let b = section_bytes id behind h body in
      let n : field b 24 16 ≡ h.table_id_extension = table_id_extension_at b ∙ omega (arith, f.header.table_id_extension) in
      let v : field b 42 5 ≡ h.version_number = version_number_at b ∙ version_back h.current_next_indicator h.version_number f.header.version_number in
      let c : (field b 47 1 == 1) ≡ h.current_next_indicator = ap (λ (k : ℕ). k == 1) (current_next_indicator_at b) ∙ current_back h.current_next_indicator h.version_number in
      let s : field b 48 8 ≡ h.section_number = section_number_at b ∙ omega (arith, f.header.section_number) in
      let l : field b 56 8 ≡ h.last_section_number = last_section_number_at b ∙ omega (arith, f.header.last_section_number) in
      rw (n, v, c, s, l) refl

  written_good_length : has_bad_length (section_bytes id behind h body) ≡ false
  unfolding has_bad_length
  written_good_length =
      let b = section_bytes id behind h body in
      let long = section_bytes_length id behind h body in
      let count : (section_length_of b + 3 == length b) ≡ true = grind (arith, nat_tests, long, written_section_length) in
      let low : ltb (section_length_of b) 9 ≡ false = grind (arith, nat_tests, written_section_length) in
      let high : ltb 1021 (section_length_of b) ≡ false = grind (arith, nat_tests, written_section_length, f.short) in
      rw (count, low, high) refl

  written_good_header : has_bad_header single (section_bytes id behind h body) ≡ false
  unfolding has_bad_header
  written_good_header =
      let b = section_bytes id behind h body in
      let syntax : (field b 8 1 == 0) ≡ false = let e : field b 8 1 ≡ 1 = syntax_indicator_at b ∙ omega (arith, f.short, f.behind) in rw e refl in
      let s : field b 48 8 ≡ h.section_number = section_number_at b ∙ omega (arith, f.header.section_number) in
      let l : field b 56 8 ≡ h.last_section_number = last_section_number_at b ∙ omega (arith, f.header.last_section_number) in
      let order : ltb h.last_section_number h.section_number ≡ false = grind (arith, nat_tests, f.header.order) in
      rw (syntax, s, l, order) (lone single h f.alone)

  pub written_header : header_of id single (section_bytes id behind h body) ≡ Ok h
  unfolding header_of
  written_header =
      let b = section_bytes id behind h body in
      let short : ltb (length b) 3 ≡ false = grind (arith, nat_tests, section_bytes_length id behind h body) in
      let same : (field b 0 8 == id) ≡ true = grind (arith, nat_tests, written_id) in
      let good : (crc_of b == 0) ≡ true = ap (λ (n : ℕ). n == 0) (crc_own (header_and_body id behind h body)) in
      rw (short, same, written_good_length, good, written_good_header) (ap Ok written_fields)

  pub written_reserved : HasReservedHeaderBits behind (section_bytes id behind h body)
  written_reserved =
      let b = section_bytes id behind h body in
      record {
        behind_syntax_indicator = behind_syntax_indicator_at b ∙ omega (arith, f.short, f.behind);
        before_section_length = before_section_length_at b ∙ omega (arith, f.short, f.behind);
        before_version_number = before_version_number_at b ∙ top_ones h.current_next_indicator h.version_number f.header.version_number;
      }
