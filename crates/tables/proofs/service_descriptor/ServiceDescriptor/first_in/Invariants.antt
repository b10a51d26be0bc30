use Rattle.std.proofs.Common.{◌≡◌, true, length}
use Rattle.tables.specs.Descriptors.{are_whole, descriptors_of}
use Rattle.tables.specs.ServiceDescriptor.{first_service_of}
use Rattle.tables.proofs.service_descriptor.ServiceDescriptor.first_in.Given as goal

abbrev pub invariant-loop-rest : goal.invariant-loop-rest
invariant-loop-rest l = record {
  found : first_service_of (descriptors_of 0 l.rest) ≡ first_service_of (descriptors_of 0 l.descriptors);
  whole : are_whole 0 l.rest ≡ true;
}

abbrev pub decreases-loop-rest : goal.decreases-loop-rest
decreases-loop-rest l = length l.rest
