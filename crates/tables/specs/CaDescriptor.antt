-- The CA descriptor: ISO/IEC 13818-1, 2.6.16. Its descriptor_tag is 0x09.
use Rattle.std.specs.Prelude.{◌==◌, Bool, List}
use Rattle.std.specs.List.{list_any}
use Rattle.tables.specs.Descriptors.{DescriptorValue}

-- whether one of the descriptors is a CA descriptor
abbrev pub has_ca_tag : List DescriptorValue → Bool
has_ca_tag descriptors = list_any (λ d. d.tag == 0x09) descriptors
