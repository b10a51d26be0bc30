use Rattle.std.proofs.Common.{◌≡◌, map}
use Rattle.station.specs.Opening.{new_entry}
use Rattle.station.proofs.station.new_entries.Given as goal

abbrev pub invariant-loop-end : goal.invariant-loop-end
invariant-loop-end l = l.entries.items ≡ map new_entry l.yielded
