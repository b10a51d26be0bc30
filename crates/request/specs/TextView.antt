-- The Rust types of the two parts of a plan's top without where they lie in memory.
use Rattle.std.specs.Prelude.{string_bytes}
use Rattle.request.specs.Text.{NamesValue}
use Rattle.request.specs.declared.text.Names.{Names}

abbrev pub names_value : Names → NamesValue
names_value n = record {
  transport_stream_id = n.transport_stream_id;
  original_network_id = n.original_network_id;
  network_id = n.network_id;
  network_name = string_bytes n.network_name;
  transport_descriptors = n.transport_descriptors.items;
}
