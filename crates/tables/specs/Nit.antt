-- The network information table of the actual network: EN 300 468, 5.2.1.
use Rattle.std.specs.Prelude.{◌≡◌, ℕ, ◌+◌, ◌^◌, ◌<◌, ◌==◌, nat_le, List, ◌∷◌, ◌++◌, Option, Some, None, Result, Ok, Err, false, true, ◌&&◌, Bool, if◌then◌else◌, drop, length, map, sum, ◌/◌, ◌%◌, IfSome}
use Rattle.std.specs.List.{All, flat_map}
use Rattle.tspkt.specs.Bits.{field}
use Rattle.tables.specs.Header.{header_of, body_of, AreOnes, HasReservedHeaderBits}
use Rattle.tables.specs.Descriptors.{are_whole}
use Rattle.tables.specs.Rows.{RowParts, has_whole_loop, loop_length_of, first_row, rows_of}
use Rattle.tables.specs.declared.header.Header.{Header}
use Rattle.tables.specs.declared.nit_row.NitRow.{NitRow}
use Rattle.tables.specs.declared.table_fault.TableFault.{TableFault}
use Rattle.tables.specs.declared.table_fault.TableFault.TheVariants.{BadLoop}

-- a row: a head of transport_stream_id, original_network_id, 4 reserved bits and transport_descriptors_length,
-- and descriptors
abbrev pub nit_row_of : RowParts → NitRow
nit_row_of r = record { transport_stream_id = field r.head 0 16; original_network_id = field r.head 16 16; descriptors = r.descriptors }

-- what a section of the table says. table_id_extension is network_id
pub record NitValue : Type 0 where
  pub header : Header
  pub network_descriptors : List ℕ
  pub rows : List NitRow

abbrev pub nit_with_rows : Header → List ℕ → Option (List RowParts) → Result NitValue TableFault
nit_with_rows h network_descriptors None = Err BadLoop
nit_with_rows h network_descriptors (Some rows) = Ok (record {
  header = h;
  network_descriptors = network_descriptors;
  rows = map nit_row_of rows;
})

-- the bytes behind the network's descriptors: 4 reserved bits, transport_stream_loop_length, and the rows
abbrev pub transport_stream_loop_of : List ℕ → List ℕ
transport_stream_loop_of body = drop (2 + loop_length_of 2 body) body

-- the network's descriptors are whole, and transport_stream_loop_length is what is left behind it
unfoldable pub has_whole_parts : List ℕ → Bool
has_whole_parts body =
    has_whole_loop 2 body
    && (nat_le 2 (length (transport_stream_loop_of body))
    && field (transport_stream_loop_of body) 4 12 + 2 == length (transport_stream_loop_of body))

-- a body: 4 reserved bits, network_descriptors_length, the network's descriptors, and the loop of transport streams
abbrev pub nit_behind_header : Result Header TableFault → List ℕ → Result NitValue TableFault
nit_behind_header (Err e) body = Err e
nit_behind_header (Ok h) body =
    if has_whole_parts body then nit_with_rows h (first_row 2 body).descriptors (rows_of 6 0 (drop 2 (transport_stream_loop_of body)))
    else Err BadLoop

-- what the section says, or its first fault
abbrev pub nit_of : List ℕ → Result NitValue TableFault
nit_of b = nit_behind_header (header_of 0x40 false b) (body_of b)

-- the fields of a row have their widths, and its descriptors are whole
pub record IsNitRow (r : NitRow) : Type 0 where
  pub transport_stream_id : r.transport_stream_id < 2 ^ 16
  pub original_network_id : r.original_network_id < 2 ^ 16
  pub descriptors : are_whole 0 r.descriptors ≡ true

-- transport_stream_loop_length of the table as it is written
abbrev pub transport_stream_loop_length_of : List NitRow → ℕ
transport_stream_loop_length_of rows = sum (map (λ (r : NitRow). 6 + length r.descriptors) rows)

-- section_length of the table as it is written
abbrev pub nit_section_length_of : NitValue → ℕ
nit_section_length_of v = 13 + length v.network_descriptors + transport_stream_loop_length_of v.rows

-- a row as it is written
abbrev pub nit_row_bytes : NitRow → List ℕ
nit_row_bytes r =
    (r.transport_stream_id / 256) ∷ (r.transport_stream_id % 256)
    ∷ (r.original_network_id / 256) ∷ (r.original_network_id % 256)
    ∷ (0xF0 + length r.descriptors / 256) ∷ (length r.descriptors % 256) ∷ r.descriptors

-- a body as it is written
abbrev pub nit_body_bytes : NitValue → List ℕ
nit_body_bytes v =
    let loop_length = transport_stream_loop_length_of v.rows in
    (0xF0 + length v.network_descriptors / 256) ∷ (length v.network_descriptors % 256)
    ∷ (v.network_descriptors ++ (0xF0 + loop_length / 256) ∷ (loop_length % 256) ∷ flat_map nit_row_bytes v.rows)

-- the reserved bits of the header, of the body and of each row are as the layout has them
pub record HasReservedNitBits (b : List ℕ) : Type 0 where
  pub header : HasReservedHeaderBits 1 b
  pub before_network_descriptors_length : AreOnes (body_of b) 0 4
  pub before_transport_stream_loop_length : AreOnes (transport_stream_loop_of (body_of b)) 0 4
  pub rows : IfSome (rows_of 6 0 (drop 2 (transport_stream_loop_of (body_of b)))) (All (λ (r : RowParts). AreOnes r.head 32 4))
