-- A transport buffer as contracts see it: ISO/IEC 13818-1, 2.4.2.
use Rattle.std.specs.Prelude.{ℕ, ◌+◌, ◌-◌, ◌*◌, ◌≤◌, List, max}
use Rattle.buffers.specs.declared.bucket.TheConstants.{TRANSPORT_BUFFER_BYTES}
use Rattle.buffers.specs.Level.{IsLevel, NewestAreWithin, IsWithinAtEachByte}

-- the rates in bits a second, and the level in bits a second times bytes
pub record BucketValue : Type 0 where
  pub leak : ℕ
  pub multiplex_rate : ℕ
  pub level : ℕ

-- the rates are in range, and no more than 512 bytes are in the buffer
pub record IsBucket (b : BucketValue) : Type 0 where
  pub leak_from : 1 ≤ b.leak
  pub leak_to : b.leak ≤ 100000000
  pub rate_from : 500000 ≤ b.multiplex_rate
  pub rate_to : b.multiplex_rate ≤ 100000000
  pub level_to : b.level ≤ TRANSPORT_BUFFER_BYTES * b.multiplex_rate

-- these bytes of the multiplex leave the buffer at its level
abbrev pub IsFilledBy : BucketValue → List ℕ → Type 0
IsFilledBy b bytes = IsLevel b.leak b.multiplex_rate bytes b.level

-- no load of a window that ends in the newest bytes, so many of them, is above 512 bytes
abbrev pub NewestFit : BucketValue → ℕ → List ℕ → Type 0
NewestFit b count bytes = NewestAreWithin b.leak b.multiplex_rate (TRANSPORT_BUFFER_BYTES * b.multiplex_rate) count bytes

-- no load at all is above 512 bytes
abbrev pub AllFit : BucketValue → List ℕ → Type 0
AllFit b bytes = IsWithinAtEachByte b.leak b.multiplex_rate (TRANSPORT_BUFFER_BYTES * b.multiplex_rate) bytes

-- the level after a packet of the set: one leak before its first byte, and 187 from there to its last
abbrev pub level_after_packet : BucketValue → ℕ
level_after_packet b = max b.multiplex_rate ((b.level - b.leak) + 188 * b.multiplex_rate - 187 * b.leak)

-- a packet of the set may come next
abbrev pub HasRoom : BucketValue → Type 0
HasRoom b = level_after_packet b ≤ TRANSPORT_BUFFER_BYTES * b.multiplex_rate

abbrev pub after_packet : BucketValue → BucketValue
after_packet b = record b { level = level_after_packet b }

-- after a slot of other packets
abbrev pub after_others : BucketValue → BucketValue
after_others b = record b { level = b.level - 188 * b.leak }

-- after so many slots of other packets
abbrev pub after_slots : BucketValue → ℕ → BucketValue
after_slots b slots = record b { level = b.level - 188 * b.leak * slots }
