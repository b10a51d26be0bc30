-- How elementary streams are coded: stream_type of ISO/IEC 13818-1, table 2-34, and the descriptors of EN 300 468, 6.2.
use Rattle.std.specs.Prelude.{ℕ, ◌==◌, nat_le, Bool, false, ◌&&◌, ◌||◌, List, Option, Some, None, is_some, find, unwrap_or, if◌then◌else◌, slice_get}
use Rattle.std.specs.Option.{option_and_then, option_map_or}
use Rattle.tables.specs.Descriptors.{DescriptorValue}
use Rattle.probe.specs.declared.codec.Codec.{Codec}
use Rattle.probe.specs.declared.codec.Codec.TheVariants.{Mpeg1Video, Mpeg2Video, Mpeg4Video, Avc, Hevc, Vvc, Jpeg2000, Mpeg1Audio, Mpeg2Audio, AdtsAac, LatmAac, Mpeg4Audio, Aac, Ac3, EnhancedAc3, Ac4, Dts, Teletext, Subtitles, PrivateSections, PrivateData, DsmCc, Metadata, Unknown}

-- what a stream_type says by itself
unfoldable pub codec_of_type : ℕ → Codec
codec_of_type t =
    if t == 0x01 then Mpeg1Video
    else if t == 0x02 then Mpeg2Video
    else if t == 0x03 then Mpeg1Audio
    else if t == 0x04 then Mpeg2Audio
    else if t == 0x05 then PrivateSections
    else if t == 0x06 then PrivateData
    else if t == 0x08 || (nat_le 0x0A t && nat_le t 0x0D) || t == 0x14 then DsmCc
    else if t == 0x0F then AdtsAac
    else if t == 0x10 then Mpeg4Video
    else if t == 0x11 then LatmAac
    else if nat_le 0x15 t && nat_le t 0x19 then Metadata
    else if t == 0x1B then Avc
    else if t == 0x1C then Mpeg4Audio
    else if t == 0x21 then Jpeg2000
    else if t == 0x24 then Hevc
    else if t == 0x33 then Vvc
    else Unknown

-- one of the descriptors has this tag
abbrev pub has_tag : ℕ → List DescriptorValue → Bool
has_tag tag ds = is_some (find (λ (d : DescriptorValue). d.tag == tag) ds)

-- descriptor_tag_extension of the first extension descriptor
abbrev pub extension_of : List DescriptorValue → Option ℕ
extension_of ds = option_and_then (λ d. slice_get d.body 0) (find (λ (d : DescriptorValue). d.tag == 0x7F) ds)

-- it is this one
abbrev pub is_extension : ℕ → List DescriptorValue → Bool
is_extension e ds = option_map_or (λ x. x == e) (extension_of ds) false

-- what the descriptors of a private stream say
unfoldable pub codec_in : List DescriptorValue → Option Codec
codec_in ds =
    if has_tag 0x6A ds then Some Ac3
    else if has_tag 0x7A ds then Some EnhancedAc3
    else if has_tag 0x7B ds then Some Dts
    else if has_tag 0x7C ds then Some Aac
    else if has_tag 0x59 ds then Some Subtitles
    else if has_tag 0x56 ds || has_tag 0x46 ds then Some Teletext
    else if is_extension 0x15 ds then Some Ac4
    else if is_extension 0x0E ds then Some Dts
    else None

-- Private data, and what is the user's own, are what their descriptors say, if one of them says it.
abbrev pub codec_of : ℕ → List DescriptorValue → Codec
codec_of t ds =
    if t == 0x06 || nat_le 0x80 t then unwrap_or (codec_in ds) (codec_of_type t) else codec_of_type t
