use Rattle.std.proofs.Common.{◌≡◌, ◌*◌, take, length}
use Rattle.std.specs.List.{flat_map}
use Rattle.tables.specs.ServiceListDescriptor.{entry_bytes}
use Rattle.tables.proofs.service_list_descriptor.list_bytes.Given as goal

abbrev pub invariant-loop-entry : goal.invariant-loop-entry
invariant-loop-entry l = record {
  bytes : l.body.items ≡ flat_map entry_bytes (take l.entry-index l.entries);
  length : length l.body.items ≡ 3 * l.entry-index;
}
