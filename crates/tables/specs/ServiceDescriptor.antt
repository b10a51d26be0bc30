-- The service descriptor: EN 300 468, 6.2.33. Its descriptor_tag is 0x48, and its body is service_type (8 bits),
-- service_provider_name_length (8 bits) and so many bytes, service_name_length (8 bits) and so many bytes.
use Rattle.std.specs.Prelude.{ℕ, ◌+◌, ◌==◌, if◌then◌else◌, List, [], ◌∷◌, length, take, drop, slice_index, Option, Some, None}
use Rattle.std.specs.Option.{option_or}
use Rattle.tables.specs.Descriptors.{DescriptorValue}
use Rattle.tables.specs.declared.service_descriptor.ServiceDescriptor.{ServiceDescriptor}

-- what the body says
pub record ServiceValue : Type 0 where
  pub service_type : ℕ
  pub service_provider_name : List ℕ
  pub service_name : List ℕ

abbrev pub service_value_of : ServiceDescriptor → ServiceValue
service_value_of s = record {
  service_type = s.service_type;
  service_provider_name = s.service_provider_name.now;
  service_name = s.service_name.now;
}

abbrev pub provider_name_length_of : List ℕ → ℕ
provider_name_length_of body = slice_index body 1

abbrev pub service_name_length_of : List ℕ → ℕ
service_name_length_of body = slice_index body (2 + provider_name_length_of body)

-- what the body says, where its two lengths fill it
unfoldable pub service_of : List ℕ → Option ServiceValue
service_of body =
    if length body == 3 + provider_name_length_of body + service_name_length_of body
    then Some (record {
      service_type = slice_index body 0;
      service_provider_name = take (provider_name_length_of body) (drop 2 body);
      service_name = take (service_name_length_of body) (drop (3 + provider_name_length_of body) body);
    })
    else None

-- the first descriptor with the tag whose lengths fill it
unfoldable pub first_service_of : List DescriptorValue → Option ServiceValue
first_service_of [] = None
first_service_of (d ∷ rest) = option_or (if d.tag == 0x48 then service_of d.body else None) (first_service_of rest)
