-- The program map table: ISO/IEC 13818-1, 2.4.4.8 and 2.4.4.9. It is always of one section.
use Rattle.std.specs.Prelude.{◌≡◌, ℕ, ◌+◌, ◌^◌, ◌<◌, List, ◌∷◌, ◌++◌, Option, Some, None, Result, Ok, Err, true, if◌then◌else◌, drop, length, map, sum, ◌/◌, ◌%◌, IfSome}
use Rattle.std.specs.List.{All, flat_map}
use Rattle.tspkt.specs.Bits.{field}
use Rattle.tables.specs.Header.{header_of, body_of, AreOnes, HasReservedHeaderBits}
use Rattle.tables.specs.Descriptors.{are_whole}
use Rattle.tables.specs.Rows.{RowParts, has_whole_loop, loop_length_of, first_row, rows_of}
use Rattle.tables.specs.declared.header.Header.{Header}
use Rattle.tables.specs.declared.pmt_row.PmtRow.{PmtRow}
use Rattle.tables.specs.declared.table_fault.TableFault.{TableFault}
use Rattle.tables.specs.declared.table_fault.TableFault.TheVariants.{BadLoop}

-- a row: a head of stream_type, 3 reserved bits, elementary_PID, 4 reserved bits and ES_info_length, and descriptors
abbrev pub pmt_row_of : RowParts → PmtRow
pmt_row_of r = record { stream_type = field r.head 0 8; elementary_pid = field r.head 11 13; descriptors = r.descriptors }

-- what the section says. table_id_extension is program_number
pub record PmtValue : Type 0 where
  pub header : Header
  pub pcr_pid : ℕ
  pub program_info : List ℕ
  pub rows : List PmtRow

abbrev pub pmt_with_rows : Header → RowParts → Option (List RowParts) → Result PmtValue TableFault
pmt_with_rows h program None = Err BadLoop
pmt_with_rows h program (Some rows) = Ok (record {
  header = h;
  pcr_pid = field program.head 3 13;
  program_info = program.descriptors;
  rows = map pmt_row_of rows;
})

-- the bytes behind the program's descriptors
abbrev pub pmt_row_bytes_of : List ℕ → List ℕ
pmt_row_bytes_of body = drop (4 + loop_length_of 4 body) body

-- a body: 3 reserved bits, PCR_PID, 4 reserved bits, program_info_length, the program's descriptors, and the rows
abbrev pub pmt_behind_header : Result Header TableFault → List ℕ → Result PmtValue TableFault
pmt_behind_header (Err e) body = Err e
pmt_behind_header (Ok h) body =
    if has_whole_loop 4 body then pmt_with_rows h (first_row 4 body) (rows_of 5 0 (pmt_row_bytes_of body)) else Err BadLoop

-- what the section says, or its first fault
abbrev pub pmt_of : List ℕ → Result PmtValue TableFault
pmt_of b = pmt_behind_header (header_of 0x02 true b) (body_of b)

-- the fields of a row have their widths, and its descriptors are whole
pub record IsPmtRow (r : PmtRow) : Type 0 where
  pub stream_type : r.stream_type < 2 ^ 8
  pub elementary_pid : r.elementary_pid < 2 ^ 13
  pub descriptors : are_whole 0 r.descriptors ≡ true

-- section_length of the table as it is written
abbrev pub pmt_section_length_of : PmtValue → ℕ
pmt_section_length_of v = 13 + length v.program_info + sum (map (λ (r : PmtRow). 5 + length r.descriptors) v.rows)

-- a row as it is written
abbrev pub pmt_row_bytes : PmtRow → List ℕ
pmt_row_bytes r =
    r.stream_type ∷ (0xE0 + r.elementary_pid / 256) ∷ (r.elementary_pid % 256)
    ∷ (0xF0 + length r.descriptors / 256) ∷ (length r.descriptors % 256) ∷ r.descriptors

-- a body as it is written
abbrev pub pmt_body_bytes : PmtValue → List ℕ
pmt_body_bytes v =
    (0xE0 + v.pcr_pid / 256) ∷ (v.pcr_pid % 256)
    ∷ (0xF0 + length v.program_info / 256) ∷ (length v.program_info % 256) ∷ (v.program_info ++ flat_map pmt_row_bytes v.rows)

-- the reserved bits of the header, of the body and of each row are as the layout has them
pub record HasReservedPmtBits (b : List ℕ) : Type 0 where
  pub header : HasReservedHeaderBits 0 b
  pub before_pcr_pid : AreOnes (body_of b) 0 3
  pub before_program_info_length : AreOnes (body_of b) 16 4
  pub rows : IfSome (rows_of 5 0 (pmt_row_bytes_of (body_of b))) (All (λ (r : RowParts). AreOnes r.head 8 3 × AreOnes r.head 24 4))
