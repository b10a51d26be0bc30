-- The languages of streams (ISO/IEC 13818-1, 2.6.18; EN 300 468, 6.2.41, 6.2.43 and 6.2.48).
use Rattle.std.specs.Prelude.{ℕ, ◌==◌, nat_lt, List, length, take, Option, Some, None, find, is_some, if◌then◌else◌}
use Rattle.std.specs.Option.{option_and_then}
use Rattle.tables.specs.Descriptors.{DescriptorValue}

-- the first three bytes of a descriptor that has so many
abbrev pub code_of : List ℕ → Option (List ℕ)
code_of body = if nat_lt (length body) 3 then None else Some (take 3 body)

-- that of the first descriptor with this tag
abbrev pub language_in : ℕ → List DescriptorValue → Option (List ℕ)
language_in tag ds = option_and_then (λ d. code_of d.body) (find (λ (d : DescriptorValue). d.tag == tag) ds)

-- that of the ISO 639 language descriptor, else of the subtitling descriptor, of the teletext descriptor, of the VBI teletext descriptor
abbrev pub language_of : List DescriptorValue → Option (List ℕ)
language_of ds =
    if is_some (language_in 0x0A ds) then language_in 0x0A ds
    else if is_some (language_in 0x59 ds) then language_in 0x59 ds
    else if is_some (language_in 0x56 ds) then language_in 0x56 ds
    else language_in 0x46 ds
