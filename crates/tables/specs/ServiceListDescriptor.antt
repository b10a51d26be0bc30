-- The service list descriptor: EN 300 468, 6.2.35. Its descriptor_tag is 0x41, and its body is service_id (16 bits)
-- and service_type (8 bits), for each service.
use Rattle.std.specs.Prelude.{ℕ, ◌/◌, ◌%◌, List, [], ◌∷◌}
use Rattle.std.specs.List.{flat_map}
use Rattle.tables.specs.Descriptors.{descriptor_bytes}
use Rattle.tables.specs.declared.service_list_entry.ServiceListEntry.{ServiceListEntry}

abbrev pub entry_bytes : ServiceListEntry → List ℕ
entry_bytes e = (e.service_id / 256) ∷ (e.service_id % 256) ∷ e.service_type ∷ []

-- the descriptor as it is written
abbrev pub service_list_bytes : List ServiceListEntry → List ℕ
service_list_bytes entries = descriptor_bytes 0x41 (flat_map entry_bytes entries)
