-- The ranges of a plan's numbers, as tests. A PID has 13 bits; 0x0000 to 0x001F are kept for tables and 0x1FFF is that
-- of null packets (ISO/IEC 13818-1, 2.4.3.3, table 2-3, and EN 300 468, 5.1.3). The other ranges are profile.
use Rattle.std.specs.Prelude.{ℕ, ℤ, pos, negsuc, nat_le, nat_lt, Bool, true, false, ◌&&◌, ◌||◌, List, length, Option, Some, None}
use Rattle.std.specs.List.{list_all}
use Rattle.std.specs.Ordering.{int_eq}
use Rattle.tables.specs.Descriptors.{are_whole}
use Rattle.request.specs.Limits.{MIN_RATE, MAX_RATE, MIN_LEAK, MAX_LEAK, MAX_OFFSET, MAX_SLOTS, MAX_VERSION, MAX_ITEMS, MAX_ID, FIRST_PID, LAST_PID, MAX_INPUTS, MAX_SERVICES, MAX_NAME, FIRST_LETTER, LAST_LETTER, MAX_DESCRIPTORS}
use Rattle.request.specs.declared.stream_parts.StreamParts.{StreamParts}
use Rattle.request.specs.Parts.{InputPartsValue, ServicePartsValue, PartsValue}

-- within these two, both included
abbrev pub is_count_between : ℕ → ℕ → ℕ → Bool
is_count_between low high n = nat_le low n && nat_le n high

abbrev pub is_between : ℕ → ℕ → ℤ → Bool
is_between low high (pos n) = is_count_between low high n
is_between low high (negsuc n) = false

-- the place of one of so many
abbrev pub is_place : ℕ → ℤ → Bool
is_place count (pos n) = nat_lt n count
is_place count (negsuc n) = false

abbrev pub is_rate : ℤ → Bool
is_rate z = is_between MIN_RATE MAX_RATE z

abbrev pub is_pid : ℤ → Bool
is_pid z = is_between FIRST_PID LAST_PID z

-- the number of a program or a service
abbrev pub is_program_number : ℤ → Bool
is_program_number z = is_between 1 MAX_ID z

unfoldable pub has_good_rates : PartsValue → Bool
has_good_rates p = (is_rate p.rate && is_between 1 MAX_SLOTS p.period) && is_between 1 MAX_SLOTS p.watch

unfoldable pub has_good_sizes : PartsValue → Bool
has_good_sizes p = (is_between 0 MAX_VERSION p.version && is_between 1 MAX_ITEMS p.queue) && is_between 1 MAX_ITEMS p.ring

unfoldable pub has_good_ids : PartsValue → Bool
has_good_ids p =
    (is_between 0 MAX_ID p.transport_stream_id && is_between 0 MAX_ID p.original_network_id)
    && is_between 0 MAX_ID p.network_id

abbrev pub is_letter : ℕ → Bool
is_letter b = is_count_between FIRST_LETTER LAST_LETTER b

unfoldable pub is_network_name : List ℕ → Bool
is_network_name bytes = is_count_between 1 MAX_NAME (length bytes) && list_all is_letter bytes

unfoldable pub are_descriptors : List ℕ → Bool
are_descriptors bytes = nat_le (length bytes) MAX_DESCRIPTORS && are_whole 0 bytes

-- the size of an input's packets, where it is said
abbrev pub is_size : Option ℤ → Bool
is_size None = true
is_size (Some z) = int_eq z (pos 188) || int_eq z (pos 204)

unfoldable pub is_input : InputPartsValue → Bool
is_input i = (is_rate i.rate && is_between 0 MAX_OFFSET i.offset) && is_size i.size

unfoldable pub are_inputs : List InputPartsValue → Bool
are_inputs inputs = is_count_between 1 MAX_INPUTS (length inputs) && list_all is_input inputs

unfoldable pub is_stream : StreamParts → Bool
is_stream s = (is_pid s.pid && is_pid s.out) && is_between MIN_LEAK MAX_LEAK s.leak

-- a service of one of so many inputs
unfoldable pub is_service : ℕ → ServicePartsValue → Bool
is_service inputs s =
    (is_place inputs s.input && is_program_number s.program)
    && ((is_program_number s.service && is_pid s.pmt) && list_all is_stream s.streams)

unfoldable pub are_services : ℕ → List ServicePartsValue → Bool
are_services inputs services = is_count_between 1 MAX_SERVICES (length services) && list_all (is_service inputs) services

-- what stands at the top
unfoldable pub has_good_top : PartsValue → Bool
has_good_top p =
    (((has_good_rates p && has_good_sizes p) && has_good_ids p) && is_network_name p.network_name)
    && are_descriptors p.transport_descriptors

-- and the lists
unfoldable pub has_good_lists : PartsValue → Bool
has_good_lists p = are_inputs p.inputs && are_services (length p.inputs) p.services
