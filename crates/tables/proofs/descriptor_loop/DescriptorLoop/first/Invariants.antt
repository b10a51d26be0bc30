use Rattle.std.proofs.Common.{◌≡◌, ◌==◌, true, length, find}
use Rattle.tables.specs.Descriptors.{are_whole, descriptors_of}
use Rattle.tables.proofs.descriptor_loop.DescriptorLoop.first.Given as goal

abbrev pub invariant-loop-rest : goal.invariant-loop-rest
invariant-loop-rest l = record {
  found : find (λ d. d.tag == l.tag) (descriptors_of 0 l.rest) ≡ find (λ d. d.tag == l.tag) (descriptors_of 0 l.self);
  whole : are_whole 0 l.rest ≡ true;
}

abbrev pub decreases-loop-rest : goal.decreases-loop-rest
decreases-loop-rest l = length l.rest
