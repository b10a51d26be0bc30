use Rattle.std.proofs.Common.{◌≡◌, length}
use Rattle.station.specs.Stations.{IsLawfulInput, LeavesOthers}
use Rattle.station.specs.Moving.{TakesSome}
use Rattle.station.proofs.moving.move_in.Given as goal

abbrev pub invariant-loop-count : goal.invariant-loop-count
invariant-loop-count l = record {
  takes : TakesSome l.fn.number l.fn.mux l.fn.entry l.mux l.entry;
  count : length takes.items ≡ l._count;
  lawful : IsLawfulInput l.mux l.fn.number l.entry;
  others : LeavesOthers l.fn.number l.fn.mux l.mux;
  run : l.mux.run ≡ l.fn.mux.run;
}
