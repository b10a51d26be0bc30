-- How many bytes an input may have (profile).
use Rattle.std.specs.Prelude.{ℕ, ◌≤◌}
use Rattle.tspkt.specs.PacketSize.{limit_of}
use Rattle.tspkt.specs.declared.framer.TheConstants.{MAX_LIMIT}
use Rattle.tspkt.specs.declared.packet_size.PacketSize.{PacketSize}
use Rattle.reading.specs.declared.input_limit.InputLimit.{InputLimit}
use Rattle.reading.specs.declared.input_limit.InputLimit.TheVariants.{OfSize, Bytes}

-- the most bytes of an input of this size
abbrev pub limit_of_input : InputLimit → PacketSize → ℕ
limit_of_input OfSize size = limit_of size
limit_of_input (Bytes most) size = most

-- it is no more than any stream may have
abbrev pub IsAllowed : InputLimit → Type 0
IsAllowed OfSize = Unit {0}
IsAllowed (Bytes most) = most ≤ MAX_LIMIT
