-- The values of a plan as its text gives them, before any range is looked at (profile), and those of the Rust types
-- without where they lie in memory.
use Rattle.std.specs.Prelude.{ℕ, ℤ, List, Option, map, string_bytes}
use Rattle.request.specs.declared.stream_parts.StreamParts.{StreamParts}
use Rattle.request.specs.declared.service_parts.ServiceParts.{ServiceParts}
use Rattle.request.specs.declared.input_parts.InputParts.{InputParts}
use Rattle.request.specs.declared.parts.Parts.{Parts}

-- an input: the bytes of the file's name, the rate in bits a second, the offset in ticks of 27 MHz, the size of its packets where
-- it is said
pub record InputPartsValue : Type 0 where
  pub file : List ℕ
  pub rate : ℤ
  pub offset : ℤ
  pub size : Option ℤ

-- a service: the place of its input, its number there and in the output, its PMT's PID, and its streams
pub record ServicePartsValue : Type 0 where
  pub input : ℤ
  pub program : ℤ
  pub service : ℤ
  pub pmt : ℤ
  pub streams : List StreamParts

pub record PartsValue : Type 0 where
  pub rate : ℤ
  pub period : ℤ
  pub watch : ℤ
  pub version : ℤ
  pub queue : ℤ
  pub ring : ℤ
  pub transport_stream_id : ℤ
  pub original_network_id : ℤ
  pub network_id : ℤ
  pub network_name : List ℕ
  pub transport_descriptors : List ℕ
  pub inputs : List InputPartsValue
  pub services : List ServicePartsValue

abbrev pub input_parts_value : InputParts → InputPartsValue
input_parts_value i = record { file = string_bytes i.file; rate = i.rate; offset = i.offset; size = i.size }

abbrev pub service_parts_value : ServiceParts → ServicePartsValue
service_parts_value s = record {
  input = s.input;
  program = s.program;
  service = s.service;
  pmt = s.pmt;
  streams = s.streams.items;
}

abbrev pub parts_value : Parts → PartsValue
parts_value p = record {
  rate = p.rate;
  period = p.period;
  watch = p.watch;
  version = p.version;
  queue = p.queue;
  ring = p.ring;
  transport_stream_id = p.transport_stream_id;
  original_network_id = p.original_network_id;
  network_id = p.network_id;
  network_name = string_bytes p.network_name;
  transport_descriptors = p.transport_descriptors.items;
  inputs = map input_parts_value p.inputs.items;
  services = map service_parts_value p.services.items;
}
