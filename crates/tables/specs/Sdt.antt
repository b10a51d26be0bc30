-- The service description table of the actual transport stream: EN 300 468, 5.2.3.
use Rattle.std.specs.Prelude.{◌≡◌, ℕ, ◌+◌, ◌*◌, ◌^◌, ◌<◌, ◌==◌, nat_le, List, ◌∷◌, Option, Some, None, Result, Ok, Err, false, true, Bool, if◌then◌else◌, drop, length, map, sum, ◌/◌, ◌%◌, IfSome}
use Rattle.std.specs.List.{All}
use Rattle.tspkt.specs.Bits.{field}
use Rattle.tables.specs.Header.{header_of, body_of, AreOnes, HasReservedHeaderBits}
use Rattle.tables.specs.Descriptors.{are_whole}
use Rattle.tables.specs.Rows.{RowParts, rows_of}
use Rattle.tables.specs.declared.header.Header.{Header}
use Rattle.tables.specs.declared.sdt_row.SdtRow.{SdtRow}
use Rattle.tables.specs.declared.table_fault.TableFault.{TableFault}
use Rattle.tables.specs.declared.table_fault.TableFault.TheVariants.{BadLoop}

-- a row: a head of service_id, 6 reserved bits, EIT_schedule_flag, EIT_present_following_flag, running_status,
-- free_CA_mode and descriptors_loop_length, and descriptors
abbrev pub sdt_row_of : RowParts → SdtRow
sdt_row_of r = record {
  service_id = field r.head 0 16;
  eit_schedule_flag = field r.head 22 1 == 1;
  eit_present_following_flag = field r.head 23 1 == 1;
  running_status = field r.head 24 3;
  free_ca_mode = field r.head 27 1 == 1;
  descriptors = r.descriptors;
}

-- what a section of the table says. table_id_extension is transport_stream_id
pub record SdtValue : Type 0 where
  pub header : Header
  pub original_network_id : ℕ
  pub rows : List SdtRow

abbrev pub sdt_with_rows : Header → ℕ → Option (List RowParts) → Result SdtValue TableFault
sdt_with_rows h original_network_id None = Err BadLoop
sdt_with_rows h original_network_id (Some rows) = Ok (record {
  header = h;
  original_network_id = original_network_id;
  rows = map sdt_row_of rows;
})

-- a body: original_network_id, 8 reserved bits, and the rows
abbrev pub sdt_behind_header : Result Header TableFault → List ℕ → Result SdtValue TableFault
sdt_behind_header (Err e) body = Err e
sdt_behind_header (Ok h) body =
    if nat_le 3 (length body) then sdt_with_rows h (field body 0 16) (rows_of 5 0 (drop 3 body)) else Err BadLoop

-- what the section says, or its first fault
abbrev pub sdt_of : List ℕ → Result SdtValue TableFault
sdt_of b = sdt_behind_header (header_of 0x42 false b) (body_of b)

-- the fields of a row have their widths, and its descriptors are whole
pub record IsSdtRow (r : SdtRow) : Type 0 where
  pub service_id : r.service_id < 2 ^ 16
  pub running_status : r.running_status < 2 ^ 3
  pub descriptors : are_whole 0 r.descriptors ≡ true

-- section_length of the table as it is written
abbrev pub sdt_section_length_of : SdtValue → ℕ
sdt_section_length_of v = 12 + sum (map (λ (r : SdtRow). 5 + length r.descriptors) v.rows)

-- the most bytes that the rows of a section take: section_length is at most 1,021, and 12 of it are no rows
abbrev pub rows_room : ℕ
rows_room = 1009

abbrev pub bit_of : Bool → ℕ
bit_of b = if b then 1 else 0

-- a row as it is written
abbrev pub sdt_row_bytes : SdtRow → List ℕ
sdt_row_bytes r =
    (r.service_id / 256) ∷ (r.service_id % 256)
    ∷ (0xFC + bit_of r.eit_schedule_flag * 2 + bit_of r.eit_present_following_flag)
    ∷ (r.running_status * 32 + bit_of r.free_ca_mode * 16 + length r.descriptors / 256)
    ∷ (length r.descriptors % 256) ∷ r.descriptors

-- the reserved bits of the header, of the body and of each row are as the layout has them
pub record HasReservedSdtBits (b : List ℕ) : Type 0 where
  pub header : HasReservedHeaderBits 1 b
  pub behind_original_network_id : AreOnes (body_of b) 16 8
  pub rows : IfSome (rows_of 5 0 (drop 3 (body_of b))) (All (λ (r : RowParts). AreOnes r.head 16 6))
