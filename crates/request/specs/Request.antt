-- What a plan asks for, and its faults (profile): the numbers of its parts, each in its range, and its streams, each of
-- one PID of an input.
use Rattle.std.specs.Prelude.{◌≡◌, ◌≢◌, ◌≤◌, ◌<◌, ℕ, ℤ, pos, negsuc, Bool, false, true, not, ◌&&◌, ◌||◌, if◌then◌else◌, List, [], ◌∷◌, ◌++◌, map, length, string_bytes, Option, Some, None, All, AllPairs}
use Rattle.std.specs.Ordering.{int_eq}
use Rattle.std.specs.List.{list_any, filter, flat_map, position_or_len}
use Rattle.tspkt.specs.declared.packet_size.PacketSize.{PacketSize}
use Rattle.tspkt.specs.declared.packet_size.PacketSize.TheVariants.{Ts188, Ts204}
use Rattle.tables.specs.Descriptors.{are_whole}
use Rattle.request.specs.Limits.{MIN_RATE, MAX_RATE, MIN_LEAK, MAX_LEAK, MAX_OFFSET, MAX_SLOTS, MAX_VERSION, MAX_ITEMS, MAX_ID, FIRST_PID, LAST_PID, MAX_INPUTS, MAX_SERVICES, MAX_STREAMS, MAX_NAME, FIRST_LETTER, LAST_LETTER, MAX_DESCRIPTORS}
use Rattle.request.specs.declared.plan_fault.PlanFault.{PlanFault}
use Rattle.request.specs.declared.plan_fault.PlanFault.TheVariants.{OutOfRange, ServiceTaken, PidTaken}
use Rattle.request.specs.declared.stream_parts.StreamParts.{StreamParts}
use Rattle.request.specs.declared.stream_row.StreamRow.{StreamRow}
use Rattle.request.specs.declared.stream.Stream.{Stream}
use Rattle.request.specs.declared.settings.Settings.{Settings}
use Rattle.request.specs.declared.service.Service.{Service}
use Rattle.request.specs.declared.input.Input.{Input}
use Rattle.request.specs.Parts.{InputPartsValue, ServicePartsValue, PartsValue}
use Rattle.request.specs.Ranges.{is_count_between, has_good_top, has_good_lists}

-- The rows of all services, in the order of the text, and the streams: the rows without those that repeat the input
-- and the PID of an earlier one.

abbrev pub row_of : ℤ → StreamParts → StreamRow
row_of input s = record { input = input; pid = s.pid; out = s.out; leak = s.leak }

abbrev pub service_rows : ServicePartsValue → List StreamRow
service_rows s = map (row_of s.input) s.streams

abbrev pub rows_of : List ServicePartsValue → List StreamRow
rows_of services = flat_map service_rows services

abbrev pub has_same_source : StreamRow → StreamRow → Bool
has_same_source a b = int_eq a.input b.input && int_eq a.pid b.pid

unfoldable pub without_repeats : List StreamRow → List StreamRow
without_repeats [] = []
without_repeats (row ∷ rows) = row ∷ filter (λ other. not (has_same_source row other)) (without_repeats rows)

abbrev pub stream_rows_of : List ServicePartsValue → List StreamRow
stream_rows_of services = without_repeats (rows_of services)

-- The faults.

-- a number that is there twice
unfoldable pub has_repeat : List ℤ → Bool
has_repeat [] = false
has_repeat (z ∷ zs) = list_any (int_eq z) zs || has_repeat zs

-- a number or a count out of its range
unfoldable pub has_bad_range : PartsValue → Bool
has_bad_range p = not
    ((has_good_top p && has_good_lists p) && is_count_between 1 MAX_STREAMS (length (stream_rows_of p.services)))

-- two services of one number
abbrev pub has_service_twice : List ServicePartsValue → Bool
has_service_twice services = has_repeat (map (λ (s : ServicePartsValue). s.service) services)

-- a service that names a PID twice
abbrev pub names_pid_twice : ServicePartsValue → Bool
names_pid_twice s = has_repeat (map (λ (r : StreamParts). r.pid) s.streams)

-- two rows of one PID of an input that aren't one stream
abbrev pub are_at_odds : StreamRow → StreamRow → Bool
are_at_odds a b = has_same_source a b && not (int_eq a.out b.out && int_eq a.leak b.leak)

-- the output PIDs: of each stream, and of each PMT
abbrev pub output_pids : List ServicePartsValue → List ℤ
output_pids services =
    map (λ (r : StreamRow). r.out) (stream_rows_of services) ++ map (λ (s : ServicePartsValue). s.pmt) services

unfoldable pub has_pid_twice : List ServicePartsValue → Bool
has_pid_twice services =
    (list_any names_pid_twice services || list_any (λ a. list_any (are_at_odds a) (rows_of services)) (rows_of services))
    || has_repeat (output_pids services)

-- the fault of the least number
unfoldable pub request_fault_of : PartsValue → Option PlanFault
request_fault_of p =
    if has_bad_range p then Some OutOfRange
    else if has_service_twice p.services then Some ServiceTaken
    else if has_pid_twice p.services then Some PidTaken
    else None

-- The request.

abbrev pub natural_of : ℤ → ℕ
natural_of (pos n) = n
natural_of (negsuc n) = 0

-- how the packets of an input of this size follow one another: every 188 bytes where it isn't said
abbrev pub size_of : Option ℤ → PacketSize
size_of None = Ts188
size_of (Some z) = if int_eq z (pos 204) then Ts204 else Ts188

pub record InputValue : Type 0 where
  pub file : List ℕ
  pub rate : ℕ
  pub offset : ℕ
  pub size : PacketSize

-- a service names its streams by their numbers
pub record ServiceValue : Type 0 where
  pub input : ℕ
  pub program : ℕ
  pub service : ℕ
  pub pmt : ℕ
  pub streams : List ℕ

pub record RequestValue : Type 0 where
  pub rate : ℕ
  pub period : ℕ
  pub watch : ℕ
  pub version : ℕ
  pub queue : ℕ
  pub ring : ℕ
  pub transport_stream_id : ℕ
  pub original_network_id : ℕ
  pub network_id : ℕ
  pub network_name : List ℕ
  pub transport_descriptors : List ℕ
  pub inputs : List InputValue
  pub services : List ServiceValue
  pub streams : List Stream

abbrev pub input_of : InputPartsValue → InputValue
input_of i = record { file = i.file; rate = natural_of i.rate; offset = natural_of i.offset; size = size_of i.size }

abbrev pub stream_of : StreamRow → Stream
stream_of r = record {
  input = natural_of r.input;
  pid = natural_of r.pid;
  output_pid = natural_of r.out;
  leak = natural_of r.leak;
}

-- the place of the stream that the row is, or repeats
abbrev pub stream_number : List StreamRow → StreamRow → ℕ
stream_number streams row = position_or_len (has_same_source row) streams

-- a service of a plan with these streams
abbrev pub service_of : List StreamRow → ServicePartsValue → ServiceValue
service_of streams s = record {
  input = natural_of s.input;
  program = natural_of s.program;
  service = natural_of s.service;
  pmt = natural_of s.pmt;
  streams = map (stream_number streams) (service_rows s);
}

abbrev pub request_of : PartsValue → RequestValue
request_of p = record {
  rate = natural_of p.rate;
  period = natural_of p.period;
  watch = natural_of p.watch;
  version = natural_of p.version;
  queue = natural_of p.queue;
  ring = natural_of p.ring;
  transport_stream_id = natural_of p.transport_stream_id;
  original_network_id = natural_of p.original_network_id;
  network_id = natural_of p.network_id;
  network_name = p.network_name;
  transport_descriptors = p.transport_descriptors;
  inputs = map input_of p.inputs;
  services = map (service_of (stream_rows_of p.services)) p.services;
  streams = map stream_of (stream_rows_of p.services);
}

-- What each request keeps, as plain facts.

-- within these two, both included
abbrev pub IsBetween : ℕ → ℕ → ℕ → Type 0
IsBetween low high n = (low ≤ n) × (n ≤ high)

pub record IsInput (i : InputValue) : Type 0 where
  pub rate : IsBetween MIN_RATE MAX_RATE i.rate
  pub offset : i.offset ≤ MAX_OFFSET

-- a stream of one of so many inputs
pub record IsStream (inputs : ℕ) (s : Stream) : Type 0 where
  pub input : s.input < inputs
  pub pid : IsBetween FIRST_PID LAST_PID s.pid
  pub output_pid : IsBetween FIRST_PID LAST_PID s.output_pid
  pub leak : IsBetween MIN_LEAK MAX_LEAK s.leak

-- a service of one of so many inputs, with some of so many streams
pub record IsService (inputs streams : ℕ) (s : ServiceValue) : Type 0 where
  pub input : s.input < inputs
  pub program : IsBetween 1 MAX_ID s.program
  pub service : IsBetween 1 MAX_ID s.service
  pub pmt : IsBetween FIRST_PID LAST_PID s.pmt
  pub stream_numbers : All (λ n. n < streams) s.streams

pub record IsRequest (r : RequestValue) : Type 0 where
  pub rate : IsBetween MIN_RATE MAX_RATE r.rate
  pub period : IsBetween 1 MAX_SLOTS r.period
  pub watch : IsBetween 1 MAX_SLOTS r.watch
  pub version : r.version ≤ MAX_VERSION
  pub queue : IsBetween 1 MAX_ITEMS r.queue
  pub ring : IsBetween 1 MAX_ITEMS r.ring
  pub transport_stream_id : r.transport_stream_id ≤ MAX_ID
  pub original_network_id : r.original_network_id ≤ MAX_ID
  pub network_id : r.network_id ≤ MAX_ID
  pub name_length : IsBetween 1 MAX_NAME (length r.network_name)
  pub name_letters : All (IsBetween FIRST_LETTER LAST_LETTER) r.network_name
  pub descriptors_length : length r.transport_descriptors ≤ MAX_DESCRIPTORS
  pub whole_descriptors : are_whole 0 r.transport_descriptors ≡ true
  pub input_count : IsBetween 1 MAX_INPUTS (length r.inputs)
  pub inputs : All IsInput r.inputs
  pub service_count : IsBetween 1 MAX_SERVICES (length r.services)
  pub services : All (IsService (length r.inputs) (length r.streams)) r.services
  pub stream_count : IsBetween 1 MAX_STREAMS (length r.streams)
  pub streams : All (IsStream (length r.inputs)) r.streams
  -- no two streams have one input and PID
  pub one_stream_a_source : AllPairs (λ (a b : Stream). a.input ≡ b.input → a.pid ≢ b.pid) r.streams
  -- no number of a service is there twice, and no output PID
  pub one_service_a_number : AllPairs (λ a b. a ≢ b) (map (λ (s : ServiceValue). s.service) r.services)
  pub one_use_an_output_pid : AllPairs (λ a b. a ≢ b) (map (λ (s : Stream). s.output_pid) r.streams ++ map (λ (s : ServiceValue). s.pmt) r.services)

-- The Rust types without where they lie in memory.

abbrev pub input_value : Input → InputValue
input_value i = record { file = string_bytes i.file; rate = i.rate; offset = i.offset; size = i.size }

abbrev pub service_value : Service → ServiceValue
service_value s = record { input = s.input; program = s.program; service = s.service; pmt = s.pmt; streams = s.streams.items }

-- the numbers at the top
abbrev pub settings_of : PartsValue → Settings
settings_of p = record {
  rate = natural_of p.rate;
  period = natural_of p.period;
  watch = natural_of p.watch;
  version = natural_of p.version;
  queue = natural_of p.queue;
  ring = natural_of p.ring;
  transport_stream_id = natural_of p.transport_stream_id;
  original_network_id = natural_of p.original_network_id;
  network_id = natural_of p.network_id;
}

-- the request of these parts of a `Request`
abbrev pub request_with : Settings → List ℕ → List ℕ → List Input → List Service → List Stream → RequestValue
request_with settings network_name transport_descriptors inputs services streams = record {
  rate = settings.rate;
  period = settings.period;
  watch = settings.watch;
  version = settings.version;
  queue = settings.queue;
  ring = settings.ring;
  transport_stream_id = settings.transport_stream_id;
  original_network_id = settings.original_network_id;
  network_id = settings.network_id;
  network_name = network_name;
  transport_descriptors = transport_descriptors;
  inputs = map input_value inputs;
  services = map service_value services;
  streams = streams;
}
