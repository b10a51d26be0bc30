-- A descriptor in the bytes of a loop.
use Rattle.tables.specs.Descriptors.{DescriptorValue}
use Rattle.tables.specs.declared.descriptor.Descriptor.{Descriptor}

abbrev pub descriptor_value_of : Descriptor → DescriptorValue
descriptor_value_of d = record { tag = d.tag; body = d.body.now }
