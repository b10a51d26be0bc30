-- The program association table: ISO/IEC 13818-1, 2.4.4.3 to 2.4.4.5.
use Rattle.std.specs.Prelude.{ℕ, ◌+◌, ◌*◌, ◌^◌, ◌<◌, List, [], ◌∷◌, Option, Some, None, option_map, Result, Ok, Err, false, drop, ◌/◌, ◌%◌}
use Rattle.tspkt.specs.Bits.{field}
use Rattle.tables.specs.Header.{header_of, body_of, AreOnes, HasReservedHeaderBits}
use Rattle.tables.specs.declared.header.Header.{Header}
use Rattle.tables.specs.declared.pat_row.PatRow.{PatRow}
use Rattle.tables.specs.declared.table_fault.TableFault.{TableFault}
use Rattle.tables.specs.declared.table_fault.TableFault.TheVariants.{BadLoop}

-- a row of four bytes: program_number, 3 reserved bits, and network_PID or program_map_PID
abbrev pub pat_row_of : List ℕ → PatRow
pat_row_of b = record { program_number = field b 0 16; pid = field b 19 13 }

-- the rows that the bytes are; none where they are no whole rows
abbrev pub pat_rows_of : List ℕ → Option (List PatRow)
pat_rows_of [] = Some []
pat_rows_of (a ∷ []) = None
pat_rows_of (a ∷ b ∷ []) = None
pat_rows_of (a ∷ b ∷ c ∷ []) = None
pat_rows_of (a ∷ b ∷ c ∷ d ∷ rest) = option_map (λ rows. pat_row_of (a ∷ b ∷ c ∷ d ∷ []) ∷ rows) (pat_rows_of rest)

-- what a section of the table says. table_id_extension is transport_stream_id
pub record PatValue : Type 0 where
  pub header : Header
  pub rows : List PatRow

abbrev pub pat_with_rows : Header → Option (List PatRow) → Result PatValue TableFault
pat_with_rows h None = Err BadLoop
pat_with_rows h (Some rows) = Ok (record { header = h; rows = rows })

abbrev pub pat_behind_header : Result Header TableFault → List ℕ → Result PatValue TableFault
pat_behind_header (Err e) body = Err e
pat_behind_header (Ok h) body = pat_with_rows h (pat_rows_of body)

-- what the section says, or its first fault
abbrev pub pat_of : List ℕ → Result PatValue TableFault
pat_of b = pat_behind_header (header_of 0x00 false b) (body_of b)

-- the fields of a row have their widths
pub record IsPatRow (r : PatRow) : Type 0 where
  pub program_number : r.program_number < 2 ^ 16
  pub pid : r.pid < 2 ^ 13

-- a row as it is written
abbrev pub pat_row_bytes : PatRow → List ℕ
pat_row_bytes r = (r.program_number / 256) ∷ (r.program_number % 256) ∷ (0xE0 + r.pid / 256) ∷ (r.pid % 256) ∷ []

-- the reserved bits of the header and of each row are as the layout has them
pub record HasReservedPatBits (row_count : ℕ) (b : List ℕ) : Type 0 where
  pub header : HasReservedHeaderBits 0 b
  pub rows : (k : ℕ) → k < row_count → AreOnes (drop (8 + 4 * k) b) 16 3
