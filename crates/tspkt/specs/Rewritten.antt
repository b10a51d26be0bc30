-- A packet that is sent on another PID and later by a delay: ISO/IEC 13818-1, 2.4.3.3 (the PID's place) and
-- 2.4.3.5 (the PCR's: base 33 bits, reserved 6, extension 9). That a delay is added to the PCR, and that nothing
-- else changes, is profile.
use Rattle.std.specs.Prelude.{◌≡◌, ℕ, ◌+◌, ◌*◌, ◌/◌, ◌%◌, ◌^◌, ◌≤◌, true, List, length, take, drop, ◌++◌, Option, Some, None}
use Rattle.byteorder.specs.Endian.{big_bytes}
use Rattle.tspkt.specs.Bits.{field}
use Rattle.tspkt.specs.Packet.{pcr_flag_of, pcr_of, pcr_modulus}

-- the bytes with those from place `at` on replaced by these
abbrev pub with_bytes : List ℕ → ℕ → List ℕ → List ℕ
with_bytes p at these = take at p ++ these ++ drop (at + length these) p

-- the 16 bits that end with the PID keep their three flags
unfoldable pub with_pid : List ℕ → ℕ → List ℕ
with_pid p pid = with_bytes p 1 (big_bytes 2 (field p 8 3 * 2 ^ 13 + pid))

-- base, the reserved bits as they are, and extension
unfoldable pub with_pcr : List ℕ → ℕ → List ℕ
with_pcr p pcr =
    with_bytes p 6 (big_bytes 4 (pcr / 300 / 2) ++ big_bytes 2 (pcr / 300 % 2 * 2 ^ 15 + field p 81 6 * 2 ^ 9 + pcr % 300))

-- the PCR later by the delay, where there is one
unfoldable pub with_later_pcr : Option ℕ → List ℕ → ℕ → List ℕ
with_later_pcr None p delay = p
with_later_pcr (Some pcr) p delay = with_pcr p ((pcr + delay) % pcr_modulus)

-- the packet that is sent in place of p
unfoldable pub rewritten : List ℕ → ℕ → ℕ → List ℕ
rewritten p pid delay = with_later_pcr (pcr_of p) (with_pid p pid) delay

-- bit i is none of those that may change: the PID's, and the PCR's base and extension where there is a PCR
pub record IsOutsidePidAndPcr (p : List ℕ) (i : ℕ) : Type 0 where
  pub outside_pid : 11 ≤ i → 24 ≤ i
  pub outside_base : pcr_flag_of p ≡ true → 48 ≤ i → 81 ≤ i
  pub outside_extension : pcr_flag_of p ≡ true → 87 ≤ i → 96 ≤ i
