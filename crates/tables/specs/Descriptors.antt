-- Descriptor loops: ISO/IEC 13818-1, 2.6.1; EN 300 468, 6.1. A descriptor is descriptor_tag (8 bits),
-- descriptor_length (8 bits) and as many bytes of body; a loop is whole descriptors, one behind the other.
use Rattle.std.specs.Prelude.{ℕ, zero, suc, Bool, true, false, List, [], ◌∷◌, length, take}

-- whole descriptors, where `skip` bytes of a body are still to pass
unfoldable pub are_whole : ℕ → List ℕ → Bool
are_whole zero [] = true
are_whole (suc skip) [] = false
are_whole (suc skip) (b ∷ bytes) = are_whole skip bytes
are_whole zero (tag ∷ []) = false
are_whole zero (tag ∷ count ∷ bytes) = are_whole count bytes

-- a descriptor: its tag, and its body
pub record DescriptorValue : Type 0 where
  pub tag : ℕ
  pub body : List ℕ

-- the descriptors of a loop, in order, where `skip` bytes of a body are still to pass
unfoldable pub descriptors_of : ℕ → List ℕ → List DescriptorValue
descriptors_of zero [] = []
descriptors_of (suc skip) [] = []
descriptors_of (suc skip) (b ∷ bytes) = descriptors_of skip bytes
descriptors_of zero (tag ∷ []) = []
descriptors_of zero (tag ∷ count ∷ bytes) = record { tag = tag; body = take count bytes } ∷ descriptors_of count bytes

-- a descriptor as it stands in a loop
abbrev pub descriptor_bytes : ℕ → List ℕ → List ℕ
descriptor_bytes tag body = tag ∷ length body ∷ body
