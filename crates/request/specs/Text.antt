-- What a plan's text says: TOML (by the grammar of version 1.1) of certain keys, each there once and of one type, and no others (profile).
use Rattle.std.specs.Prelude.{◌≡◌, ◌⊎◌, ℕ, ℤ, Bool, true, false, ◌&&◌, ◌||◌, if◌then◌else◌, List, [], ◌∷◌, codes, Option, Some, None, option_map, Result, Ok, Err}
use Rattle.std.specs.Str.{bytes_eq}
use Rattle.toml.specs.Data.{Data, Items, no_items, item, Members, no_members, member, get_member, as_integer, as_str, as_array, as_table}
use Rattle.toml.specs.Parse.{parse_document}
use Rattle.hex.specs.Hex.{decode_of}
use Rattle.request.specs.declared.plan_fault.PlanFault.{PlanFault}
use Rattle.request.specs.declared.plan_fault.PlanFault.TheVariants.{BadText, Memory}
use Rattle.request.specs.declared.stream_parts.StreamParts.{StreamParts}
use Rattle.request.specs.declared.text.Numbers.{Numbers}
use Rattle.request.specs.Parts.{InputPartsValue, ServicePartsValue, PartsValue}

infixl 10 ◌>>=◌
abbrev ◌>>=◌ : {A B : Type 0} → Option A → (A → Option B) → Option B
None >>= f = None
Some x >>= f = f x

-- the key is one of these
abbrev pub is_among : List (List ℕ) → List ℕ → Bool
is_among [] key = false
is_among (k ∷ keys) key = bytes_eq key k || is_among keys key

-- no other key than these stands in the table
abbrev pub has_only : List (List ℕ) → Members → Bool
has_only keys no_members = true
has_only keys (member k d ms) = is_among keys k && has_only keys ms

-- the number at a key that needn't be there: no number is an answer, and a value of another type is none
abbrev pub optional_number_of : Option Data → Option (Option ℤ)
optional_number_of None = Some None
optional_number_of (Some d) = option_map Some (as_integer d)

abbrev pub optional_number_at : List ℕ → Members → Option (Option ℤ)
optional_number_at key ms = optional_number_of (get_member key ms)

-- the number, the text and the list at a key
abbrev pub number_at : List ℕ → Members → Option ℤ
number_at key ms = optional_number_at key ms >>= (λ number. number)

abbrev pub text_at : List ℕ → Members → Option (List ℕ)
text_at key ms = get_member key ms >>= as_str

abbrev pub list_at : List ℕ → Members → Option Items
list_at key ms = get_member key ms >>= as_array

-- the value of a result, where it is one
abbrev pub value_of : {A E : Type 0} → Result A E → Option A
value_of (Ok x) = Some x
value_of (Err e) = None

-- the bytes that a text in hex digits at a key stands for
abbrev pub hex_at : List ℕ → Members → Option (List ℕ)
hex_at key ms = text_at key ms >>= (λ text. value_of (decode_of text))

-- what the tables of a list say
abbrev pub each_of : {A : Type 0} → (Members → Option A) → Items → Option (List A)
each_of row_of no_items = Some []
each_of row_of (item d items) =
    as_table d >>= (λ ms. row_of ms >>= (λ row. option_map (λ rows. row ∷ rows) (each_of row_of items)))

-- [[service.stream]]
abbrev pub stream_keys : List (List ℕ)
stream_keys = codes "pid" ∷ codes "out" ∷ codes "leak" ∷ []

unfoldable pub stream_of : Members → Option StreamParts
stream_of ms =
    if has_only stream_keys ms then (do
      pid ← number_at (codes "pid") ms
      out ← number_at (codes "out") ms
      leak ← number_at (codes "leak") ms
      Some (record { pid = pid; out = out; leak = leak }))
    else None

abbrev pub streams_at : List ℕ → Members → Option (List StreamParts)
streams_at key ms = list_at key ms >>= each_of stream_of

-- [[service]]
abbrev pub service_keys : List (List ℕ)
service_keys = codes "input" ∷ codes "program" ∷ codes "service" ∷ codes "pmt" ∷ codes "stream" ∷ []

unfoldable pub service_of : Members → Option ServicePartsValue
service_of ms =
    if has_only service_keys ms then (do
      input ← number_at (codes "input") ms
      program ← number_at (codes "program") ms
      service ← number_at (codes "service") ms
      pmt ← number_at (codes "pmt") ms
      streams ← streams_at (codes "stream") ms
      Some (record { input = input; program = program; service = service; pmt = pmt; streams = streams }))
    else None

abbrev pub services_at : List ℕ → Members → Option (List ServicePartsValue)
services_at key ms = list_at key ms >>= each_of service_of

-- [[input]]
abbrev pub input_keys : List (List ℕ)
input_keys = codes "file" ∷ codes "rate" ∷ codes "offset" ∷ codes "size" ∷ []

unfoldable pub input_of : Members → Option InputPartsValue
input_of ms =
    if has_only input_keys ms then (do
      file ← text_at (codes "file") ms
      rate ← number_at (codes "rate") ms
      offset ← number_at (codes "offset") ms
      size ← optional_number_at (codes "size") ms
      Some (record { file = file; rate = rate; offset = offset; size = size }))
    else None

abbrev pub inputs_at : List ℕ → Members → Option (List InputPartsValue)
inputs_at key ms = list_at key ms >>= each_of input_of

-- the numbers at the top
unfoldable pub numbers_of : Members → Option Numbers
numbers_of ms = do
  rate ← number_at (codes "rate") ms
  period ← number_at (codes "period") ms
  watch ← number_at (codes "watch") ms
  version ← number_at (codes "version") ms
  queue ← number_at (codes "queue") ms
  ring ← number_at (codes "ring") ms
  Some (record { rate = rate; period = period; watch = watch; version = version; queue = queue; ring = ring })

-- what names the transport stream and its network
pub record NamesValue : Type 0 where
  pub transport_stream_id : ℤ
  pub original_network_id : ℤ
  pub network_id : ℤ
  pub network_name : List ℕ
  pub transport_descriptors : List ℕ

unfoldable pub names_of : Members → Option NamesValue
names_of ms = do
  transport_stream_id ← number_at (codes "transport_stream_id") ms
  original_network_id ← number_at (codes "original_network_id") ms
  network_id ← number_at (codes "network_id") ms
  network_name ← text_at (codes "network_name") ms
  transport_descriptors ← hex_at (codes "transport_descriptors") ms
  Some (record {
    transport_stream_id = transport_stream_id;
    original_network_id = original_network_id;
    network_id = network_id;
    network_name = network_name;
    transport_descriptors = transport_descriptors;
  })

abbrev pub plan_keys : List (List ℕ)
plan_keys =
    codes "rate" ∷ codes "period" ∷ codes "watch" ∷ codes "version" ∷ codes "queue" ∷ codes "ring"
    ∷ codes "transport_stream_id" ∷ codes "original_network_id" ∷ codes "network_id" ∷ codes "network_name"
    ∷ codes "transport_descriptors" ∷ codes "input" ∷ codes "service" ∷ []

-- the parts of a plan
unfoldable pub parts_of : Members → Option PartsValue
parts_of ms =
    if has_only plan_keys ms then (do
      numbers ← numbers_of ms
      names ← names_of ms
      inputs ← inputs_at (codes "input") ms
      services ← services_at (codes "service") ms
      Some (record {
        rate = numbers.rate;
        period = numbers.period;
        watch = numbers.watch;
        version = numbers.version;
        queue = numbers.queue;
        ring = numbers.ring;
        transport_stream_id = names.transport_stream_id;
        original_network_id = names.original_network_id;
        network_id = names.network_id;
        network_name = names.network_name;
        transport_descriptors = names.transport_descriptors;
        inputs = inputs;
        services = services;
      }))
    else None

-- the parts that a text writes; none where it isn't TOML, or a key or a type is wrong
abbrev pub text_parts : List ℕ → Option PartsValue
text_parts text = parse_document text >>= parts_of

-- the fault where reading gives nothing: the text's, or want of memory
abbrev pub IsTextFault : {A : Type 0} → Option A → PlanFault → Type 0
IsTextFault wanted e = (e ≡ Memory) ⊎ ((e ≡ BadText) × (wanted ≡ None))
