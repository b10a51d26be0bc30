-- The tables of the output, by the services that were chosen: PAT and PMT (ISO/IEC 13818-1, 2.4.4), SDT and NIT (EN 300
-- 468, 5.2). Which rows and descriptors they have, and how the SDT is divided, is profile.
use Rattle.std.specs.Prelude.{ℕ, ◌+◌, ◌-◌, ◌*◌, ◌/◌, ◌==◌, nat_le, nat_lt, Bool, true, false, ◌||◌, if◌then◌else◌, List, [], ◌∷◌, ◌++◌, map, sum, length, take, drop, Option, Some, None, find}
use Rattle.std.specs.List.{list_any, range_with_len}
use Rattle.section.specs.Packetized.{packet_count_of, stuffed, header_of}
use Rattle.tables.specs.declared.header.Header.{Header}
use Rattle.tables.specs.declared.pat_row.PatRow.{PatRow}
use Rattle.tables.specs.declared.pmt_row.PmtRow.{PmtRow}
use Rattle.tables.specs.declared.sdt_row.SdtRow.{SdtRow}
use Rattle.tables.specs.declared.service_list_entry.ServiceListEntry.{ServiceListEntry}
use Rattle.tables.specs.Pat.{PatValue}
use Rattle.tables.specs.Pmt.{PmtValue, pmt_section_length_of}
use Rattle.tables.specs.Sdt.{SdtValue, sdt_section_length_of, rows_room}
use Rattle.tables.specs.Nit.{NitValue, nit_section_length_of}
use Rattle.tables.specs.ServiceListDescriptor.{service_list_bytes}
use Rattle.tables.specs.NetworkNameDescriptor.{network_name_bytes}
use Rattle.request.specs.declared.stream.Stream.{Stream}
use Rattle.request.specs.Request.{RequestValue}
use Rattle.selection.specs.Chosen.{ChosenValue, no_pcr_pid, streams_of}

-- the header of section `number` of a table, the last of which is `last`
abbrev pub output_header : RequestValue → ℕ → ℕ → ℕ → Header
output_header r table_id_extension number last = record {
  table_id_extension = table_id_extension;
  version_number = r.version;
  current_next_indicator = true;
  section_number = number;
  last_section_number = last;
}

-- PAT: the network's PID, and then each service

abbrev pub pat_row_of_service : ChosenValue → PatRow
pat_row_of_service c = record { program_number = c.service.service; pid = c.service.pmt }

abbrev pub output_pat : RequestValue → List ChosenValue → PatValue
output_pat r chosen = record {
  header = output_header r r.transport_stream_id 0 0;
  rows = record { program_number = 0; pid = 0x0010 } ∷ map pat_row_of_service chosen;
}

-- PMT: the input's, with the output's number and PIDs

-- the output PID of a PID of the service; a PCR_PID that says that there is no PCR stays
abbrev pub output_pid_of : Option Stream → ℕ
output_pid_of None = no_pcr_pid
output_pid_of (Some s) = s.output_pid

abbrev pub mapped_pid : List Stream → ℕ → ℕ
mapped_pid streams pid = output_pid_of (find (λ (s : Stream). s.pid == pid) streams)

abbrev pub mapped_row : List Stream → PmtRow → PmtRow
mapped_row streams row = record {
  stream_type = row.stream_type;
  elementary_pid = mapped_pid streams row.elementary_pid;
  descriptors = row.descriptors;
}

abbrev pub output_pmt : RequestValue → ChosenValue → PmtValue
output_pmt r c = record {
  header = output_header r c.service.service 0 0;
  pcr_pid = mapped_pid (streams_of r c.service) c.pmt.pcr_pid;
  program_info = c.pmt.program_info;
  rows = map (mapped_row (streams_of r c.service)) c.pmt.rows;
}

-- SDT: each service's row with its output number and no EIT, in as many sections as they take

abbrev pub output_row : ChosenValue → SdtRow
output_row c = record {
  service_id = c.service.service;
  eit_schedule_flag = false;
  eit_present_following_flag = false;
  running_status = c.row.running_status;
  free_ca_mode = false;
  descriptors = c.row.descriptors;
}

abbrev pub row_length : SdtRow → ℕ
row_length row = 5 + length row.descriptors

-- the rows in order, each put to the section before it as long as it has room
abbrev pub sdt_groups_behind : List SdtRow → List SdtRow → List (List SdtRow)
sdt_groups_behind group [] = group ∷ []
sdt_groups_behind group (row ∷ rows) =
    if nat_le (sum (map row_length group) + row_length row) rows_room then sdt_groups_behind (group ++ row ∷ []) rows
    else group ∷ sdt_groups_behind (row ∷ []) rows

abbrev pub sdt_groups : List SdtRow → List (List SdtRow)
sdt_groups [] = []
sdt_groups (row ∷ rows) = sdt_groups_behind (row ∷ []) rows

abbrev pub sdt_section : RequestValue → ℕ → ℕ → List SdtRow → SdtValue
sdt_section r last number rows = record {
  header = output_header r r.transport_stream_id number last;
  original_network_id = r.original_network_id;
  rows = rows;
}

abbrev pub numbered_sections : RequestValue → ℕ → ℕ → List (List SdtRow) → List SdtValue
numbered_sections r last number [] = []
numbered_sections r last number (group ∷ groups) = sdt_section r last number group ∷ numbered_sections r last (number + 1) groups

abbrev pub output_sdt : RequestValue → List ChosenValue → List SdtValue
output_sdt r chosen =
    let groups = sdt_groups (map output_row chosen) in
    numbered_sections r (length groups - 1) 0 groups

-- NIT: the network's name, and one row for this stream with the list of its services and the plan's descriptors

abbrev pub list_entry : ChosenValue → ServiceListEntry
list_entry c = record { service_id = c.service.service; service_type = c.service_type }

abbrev pub output_nit : RequestValue → List ChosenValue → NitValue
output_nit r chosen = record {
  header = output_header r r.network_id 0 0;
  network_descriptors = network_name_bytes r.network_name;
  rows = record {
    transport_stream_id = r.transport_stream_id;
    original_network_id = r.original_network_id;
    descriptors = service_list_bytes (map list_entry chosen) ++ r.transport_descriptors;
  } ∷ [];
}

-- a PMT, the NIT or a single row that no section holds
unfoldable pub is_too_large : RequestValue → List ChosenValue → Bool
is_too_large r chosen =
    (list_any (λ (c : ChosenValue). nat_lt 1021 (pmt_section_length_of (output_pmt r c))) chosen
    || nat_lt 1021 (nit_section_length_of (output_nit r chosen)))
    || list_any (λ (c : ChosenValue). nat_lt rows_room (row_length (output_row c))) chosen

-- ---- table packets

-- packet k of a section on a PID, with the counter 0
abbrev pub table_packet : ℕ → List ℕ → ℕ → List ℕ
table_packet pid section k = (take 3 (header_of pid 0 k) ++ 0x10 ∷ []) ++ take 184 (drop (184 * k) (stuffed section))

abbrev pub table_packets : ℕ → List ℕ → List (List ℕ)
table_packets pid section = map (table_packet pid section) (range_with_len 0 (packet_count_of section))

-- how many packets a section of this section_length takes
abbrev pub packets_for : ℕ → ℕ
packets_for section_length = (section_length + 3 + 184) / 184

-- PAT and PMTs; SDT and NIT
abbrev pub fast_count : RequestValue → List ChosenValue → ℕ
fast_count r chosen =
    packets_for (9 + 4 * (1 + length chosen)) + sum (map (λ (c : ChosenValue). packets_for (pmt_section_length_of (output_pmt r c))) chosen)

-- the packets of the SDT's sections, by their rows
abbrev pub group_count : List SdtRow → ℕ
group_count rows = packets_for (12 + sum (map row_length rows))

abbrev pub sdt_count : List ChosenValue → ℕ
sdt_count chosen = sum (map group_count (sdt_groups (map output_row chosen)))

abbrev pub slow_count : RequestValue → List ChosenValue → ℕ
slow_count r chosen =
    sum (map (λ (s : SdtValue). packets_for (sdt_section_length_of s)) (output_sdt r chosen)) + packets_for (nit_section_length_of (output_nit r chosen))
