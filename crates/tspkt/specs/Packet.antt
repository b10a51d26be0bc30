-- The fields of a transport stream packet of 188 bytes: ISO/IEC 13818-1, 2.4.3.2 and 2.4.3.3 (the packet),
-- 2.4.3.4 and 2.4.3.5 (the adaptation field).
use Rattle.std.specs.Prelude.{◌≡◌, ℕ, ◌+◌, ◌*◌, ◌<◌, ◌==◌, nat_le, nat_lt, ◌∷◌, ◌++◌, [], Bool, ◌&&◌, ◌||◌, not, if◌then◌else◌, List, drop, length, replicate, slice_index, Option, Some, None}
use Rattle.tspkt.specs.Bits.{field}
use Rattle.tspkt.specs.declared.malformed.Malformed.{Malformed}
use Rattle.tspkt.specs.declared.malformed.Malformed.TheVariants.{BadSync, ReservedControl, BadAdaptation}

-- the modulus of a PCR, 2^33 * 300
abbrev pub pcr_modulus : ℕ
pcr_modulus = 2576980377600

abbrev pub sync_byte_of : List ℕ → ℕ
sync_byte_of p = field p 0 8

abbrev pub payload_unit_start_indicator_of : List ℕ → Bool
payload_unit_start_indicator_of p = field p 9 1 == 1

abbrev pub pid_of : List ℕ → ℕ
pid_of p = field p 11 13

abbrev pub transport_scrambling_control_of : List ℕ → ℕ
transport_scrambling_control_of p = field p 24 2

-- 1 payload only, 2 adaptation field only, 3 both, 0 reserved
abbrev pub adaptation_field_control_of : List ℕ → ℕ
adaptation_field_control_of p = field p 26 2

abbrev pub continuity_counter_of : List ℕ → ℕ
continuity_counter_of p = field p 28 4

abbrev pub has_payload_of : List ℕ → Bool
has_payload_of p = field p 27 1 == 1

abbrev pub has_adaptation_field_of : List ℕ → Bool
has_adaptation_field_of p = field p 26 1 == 1

abbrev pub adaptation_field_length_of : List ℕ → ℕ
adaptation_field_length_of p = field p 32 8

-- the adaptation field has its byte of flags
abbrev pub has_flags_of : List ℕ → Bool
has_flags_of p = has_adaptation_field_of p && nat_le 1 (adaptation_field_length_of p)

abbrev pub discontinuity_indicator_of : List ℕ → Bool
discontinuity_indicator_of p = has_flags_of p && field p 40 1 == 1

abbrev pub pcr_flag_of : List ℕ → Bool
pcr_flag_of p = has_flags_of p && field p 43 1 == 1

-- program_clock_reference_base and program_clock_reference_extension
abbrev pub pcr_base_of : List ℕ → ℕ
pcr_base_of p = field p 48 33

abbrev pub pcr_extension_of : List ℕ → ℕ
pcr_extension_of p = field p 87 9

-- the PCR in ticks of 27 MHz, not reduced (2.4.3.5, equation 2-1)
abbrev pub pcr_of : List ℕ → Option ℕ
pcr_of p = if pcr_flag_of p then Some (pcr_base_of p * 300 + pcr_extension_of p) else None

-- the adaptation field's length doesn't fit the control bits (2.4.3.5), or leaves no room for the PCR
unfoldable pub has_bad_adaptation : List ℕ → Bool
has_bad_adaptation p =
    ((adaptation_field_control_of p == 3 && nat_lt 182 (adaptation_field_length_of p))
    || (adaptation_field_control_of p == 2 && not (adaptation_field_length_of p == 183)))
    || (pcr_flag_of p && nat_lt (adaptation_field_length_of p) 7)

-- the first fault that applies
unfoldable pub fault_of : List ℕ → Option Malformed
fault_of p =
    if not (sync_byte_of p == 0x47) then Some BadSync
    else if adaptation_field_control_of p == 0 then Some ReservedControl
    else if has_bad_adaptation p then Some BadAdaptation
    else None

-- a whole packet: 188 bytes, and no fault
pub record IsPacket (p : List ℕ) : Type 0 where
  pub whole : length p ≡ 188
  pub bytes : (i : ℕ) → slice_index p i < 256
  pub accepted : fault_of p ≡ None

-- where the payload begins
abbrev pub payload_start_of : List ℕ → ℕ
payload_start_of p = if has_adaptation_field_of p then 5 + adaptation_field_length_of p else 4

-- the bytes behind the header and the adaptation field
abbrev pub payload_of : List ℕ → List ℕ
payload_of p = if has_payload_of p then drop (payload_start_of p) p else []

-- the null packet that is sent (2.4.3.3: PID 0x1FFF; the payload and the counter 0 are profile)
unfoldable pub null_packet : List ℕ
null_packet = (0x47 ∷ 0x1F ∷ 0xFF ∷ 0x10 ∷ []) ++ replicate 184 255
