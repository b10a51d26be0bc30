-- The network name descriptor: EN 300 468, 6.2.27. Its descriptor_tag is 0x40, and its body is the name.
use Rattle.std.specs.Prelude.{ℕ, List}
use Rattle.tables.specs.Descriptors.{descriptor_bytes}

-- the descriptor as it is written
abbrev pub network_name_bytes : List ℕ → List ℕ
network_name_bytes name = descriptor_bytes 0x40 name
