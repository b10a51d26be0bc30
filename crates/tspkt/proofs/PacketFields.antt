-- Each field of a packet, by its bytes.
use Rattle.std.proofs.Common.{◌≡◌, ℕ, ◌+◌, ◌*◌, ◌/◌, ◌%◌, List, get_or, refl, arith}
use Rattle.tspkt.specs.Bits.{field}
use Rattle.tspkt.proofs.BitLaws.{field_in_byte, field_byte, field_and_byte, field_split}

pub sync_at : (p : List ℕ) → field p 0 8 ≡ get_or p 0 0 % 256
sync_at p = field_byte p 0

pub flags_at : (p : List ℕ) → field p 8 3 ≡ get_or p 1 0 / 32 % 8
flags_at p = field_in_byte p 1 0 3 (omega arith)

pub unit_start_at : (p : List ℕ) → field p 9 1 ≡ get_or p 1 0 / 64 % 2
unit_start_at p = field_in_byte p 1 1 1 (omega arith)

pub pid_at : (p : List ℕ) → field p 11 13 ≡ get_or p 1 0 % 32 * 256 + get_or p 2 0 % 256
pid_at p = let high = field_in_byte p 1 3 5 (omega arith) in let both = field_and_byte p 11 5 2 refl in omega (arith, high, both)

pub scrambling_at : (p : List ℕ) → field p 24 2 ≡ get_or p 3 0 / 64 % 4
scrambling_at p = field_in_byte p 3 0 2 (omega arith)

pub control_at : (p : List ℕ) → field p 26 2 ≡ get_or p 3 0 / 16 % 4
control_at p = field_in_byte p 3 2 2 (omega arith)

pub adaptation_at : (p : List ℕ) → field p 26 1 ≡ get_or p 3 0 / 32 % 2
adaptation_at p = field_in_byte p 3 2 1 (omega arith)

pub payload_at : (p : List ℕ) → field p 27 1 ≡ get_or p 3 0 / 16 % 2
payload_at p = field_in_byte p 3 3 1 (omega arith)

pub counter_at : (p : List ℕ) → field p 28 4 ≡ get_or p 3 0 % 16
counter_at p = let e = field_in_byte p 3 4 4 (omega arith) in omega (arith, e)

pub length_at : (p : List ℕ) → field p 32 8 ≡ get_or p 4 0 % 256
length_at p = field_byte p 4

pub discontinuity_at : (p : List ℕ) → field p 40 1 ≡ get_or p 5 0 / 128 % 2
discontinuity_at p = field_in_byte p 5 0 1 (omega arith)

pub pcr_flag_at : (p : List ℕ) → field p 43 1 ≡ get_or p 5 0 / 16 % 2
pcr_flag_at p = field_in_byte p 5 3 1 (omega arith)

pub base_at : (p : List ℕ) → field p 48 33 ≡ ((((get_or p 6 0 % 256) * 256 + get_or p 7 0 % 256) * 256 + get_or p 8 0 % 256) * 256 + get_or p 9 0 % 256) * 2 + get_or p 10 0 / 128 % 2
base_at p =
    let a = field_byte p 6 in
    let b = field_and_byte p 48 8 7 refl in
    let c = field_and_byte p 48 16 8 refl in
    let d = field_and_byte p 48 24 9 refl in
    let last = field_in_byte p 10 0 1 (omega arith) in
    let whole = field_split p 48 32 1 in
    omega (arith, a, b, c, d, last, whole)

pub reserved_at : (p : List ℕ) → field p 81 6 ≡ get_or p 10 0 / 2 % 64
reserved_at p = field_in_byte p 10 1 6 (omega arith)

pub extension_at : (p : List ℕ) → field p 87 9 ≡ get_or p 10 0 % 2 * 256 + get_or p 11 0 % 256
extension_at p = let high = field_in_byte p 10 7 1 (omega arith) in let both = field_and_byte p 87 1 11 refl in omega (arith, high, both)

pub ruleset packet_fields = (sync_at, flags_at, unit_start_at, pid_at, scrambling_at, control_at, adaptation_at, payload_at, counter_at, length_at, discontinuity_at, pcr_flag_at, base_at, reserved_at, extension_at)
