-- The numbers of a plan with their ranges, and what of a plan is out of its range (profile).
use Rattle.std.specs.Prelude.{◌≡◌, ℕ, ℤ, true, false, Bool, not, List, [], ◌∷◌, Some, length, slice_get, Contains}
use Rattle.tables.specs.Descriptors.{are_whole}
use Rattle.request.specs.declared.stream_parts.StreamParts.{StreamParts}
use Rattle.request.specs.Limits.{MIN_RATE, MAX_RATE, MIN_LEAK, MAX_LEAK, MAX_OFFSET, MAX_SLOTS, MAX_VERSION, MAX_ITEMS, MAX_ID, FIRST_PID, LAST_PID, MAX_INPUTS, MAX_SERVICES, MAX_STREAMS, MAX_NAME, MAX_DESCRIPTORS}
use Rattle.request.specs.Parts.{InputPartsValue, ServicePartsValue, PartsValue}
use Rattle.request.specs.Ranges.{is_between, is_count_between, is_place, is_letter, is_size}
use Rattle.request.specs.Request.{stream_rows_of}
use Rattle.request_causes.specs.declared.number_key.NumberKey.{NumberKey}
use Rattle.request_causes.specs.declared.number_key.NumberKey.TheVariants as Key
use Rattle.request_causes.specs.declared.ranged_number.RangedNumber.{RangedNumber}
use Rattle.request_causes.specs.declared.input_cause.InputCause.{InputCause}
use Rattle.request_causes.specs.declared.input_cause.InputCause.TheVariants as InputsCause
use Rattle.request_causes.specs.declared.service_cause.ServiceCause.{ServiceCause}
use Rattle.request_causes.specs.declared.service_cause.ServiceCause.TheVariants.{NoInput, Number, Stream}
use Rattle.request_causes.specs.declared.range_cause.RangeCause.{RangeCause}
use Rattle.request_causes.specs.declared.range_cause.RangeCause.TheVariants.{Top, NameLength, NameByte, DescriptorsLength, DescriptorsNotWhole, InputCount, Input, ServiceCount, Service, StreamCount}

abbrev pub ranged : NumberKey → ℤ → ℕ → ℕ → RangedNumber
ranged key value low high = record { key = key; value = value; low = low; high = high }

abbrev pub is_outside : RangedNumber → Bool
is_outside n = not (is_between n.low n.high n.value)

-- one of these numbers, which is outside its range
abbrev pub IsOutside : List RangedNumber → RangedNumber → Type 0
IsOutside numbers n = Contains numbers n × (is_outside n ≡ true)

abbrev pub top_numbers : PartsValue → List RangedNumber
top_numbers p =
    ranged Key.Rate p.rate MIN_RATE MAX_RATE
    ∷ ranged Key.Period p.period 1 MAX_SLOTS
    ∷ ranged Key.Watch p.watch 1 MAX_SLOTS
    ∷ ranged Key.Version p.version 0 MAX_VERSION
    ∷ ranged Key.Queue p.queue 1 MAX_ITEMS
    ∷ ranged Key.Ring p.ring 1 MAX_ITEMS
    ∷ ranged Key.TransportStreamId p.transport_stream_id 0 MAX_ID
    ∷ ranged Key.OriginalNetworkId p.original_network_id 0 MAX_ID
    ∷ ranged Key.NetworkId p.network_id 0 MAX_ID
    ∷ []

abbrev pub input_numbers : InputPartsValue → List RangedNumber
input_numbers i = ranged Key.Rate i.rate MIN_RATE MAX_RATE ∷ ranged Key.Offset i.offset 0 MAX_OFFSET ∷ []

-- without those of its streams, and without its input
abbrev pub service_numbers : ServicePartsValue → List RangedNumber
service_numbers s =
    ranged Key.Program s.program 1 MAX_ID
    ∷ ranged Key.Service s.service 1 MAX_ID
    ∷ ranged Key.Pmt s.pmt FIRST_PID LAST_PID
    ∷ []

abbrev pub stream_numbers : StreamParts → List RangedNumber
stream_numbers s =
    ranged Key.Pid s.pid FIRST_PID LAST_PID
    ∷ ranged Key.Out s.out FIRST_PID LAST_PID
    ∷ ranged Key.Leak s.leak MIN_LEAK MAX_LEAK
    ∷ []

-- of an input: a number of it, or the size of its packets
abbrev pub IsInputCause : InputPartsValue → InputCause → Type 0
IsInputCause i (InputsCause.Number n) = IsOutside (input_numbers i) n
IsInputCause i (InputsCause.PacketSize size) = (i.size ≡ Some size) × (is_size (Some size) ≡ false)

-- of a service of a plan with so many inputs
abbrev pub IsServiceCause : ℕ → ServicePartsValue → ServiceCause → Type 0
IsServiceCause count s (NoInput input inputs) = (input ≡ s.input) × (inputs ≡ count) × (is_place count s.input ≡ false)
IsServiceCause count s (Number n) = IsOutside (service_numbers s) n
IsServiceCause count s (Stream stream n) = (r : StreamParts) × (slice_get s.streams stream ≡ Some r) × IsOutside (stream_numbers r) n

-- what is named stands there, and is out of its range
abbrev pub IsRangeCause : PartsValue → RangeCause → Type 0
IsRangeCause p (Top n) = IsOutside (top_numbers p) n
IsRangeCause p (NameLength n) = (n ≡ length p.network_name) × (is_count_between 1 MAX_NAME n ≡ false)
IsRangeCause p (NameByte place byte) = (slice_get p.network_name place ≡ Some byte) × (is_letter byte ≡ false)
IsRangeCause p (DescriptorsLength n) = (n ≡ length p.transport_descriptors) × (is_count_between 0 MAX_DESCRIPTORS n ≡ false)
IsRangeCause p DescriptorsNotWhole = are_whole 0 p.transport_descriptors ≡ false
IsRangeCause p (InputCount n) = (n ≡ length p.inputs) × (is_count_between 1 MAX_INPUTS n ≡ false)
IsRangeCause p (Input input cause) = (i : InputPartsValue) × (slice_get p.inputs input ≡ Some i) × IsInputCause i cause
IsRangeCause p (ServiceCount n) = (n ≡ length p.services) × (is_count_between 1 MAX_SERVICES n ≡ false)
IsRangeCause p (Service service cause) = (s : ServicePartsValue) × (slice_get p.services service ≡ Some s) × IsServiceCause (length p.inputs) s cause
IsRangeCause p (StreamCount n) = (n ≡ length (stream_rows_of p.services)) × (is_count_between 1 MAX_STREAMS n ≡ false)
