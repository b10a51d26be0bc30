use Rattle.std.proofs.Common.{◌≡◌}
use Rattle.station.specs.Stations.{IsLawfulStation}
use Rattle.station.proofs.MovingLaws.{HasMoved}
use Rattle.station.proofs.station.move_all.Given as goal

abbrev pub invariant-loop-number : goal.invariant-loop-number
invariant-loop-number l = record {
  moved : HasMoved l.fn.most l.fn.mux l.fn.entries.items l.mux l.entries.items l.number;
  lawful : IsLawfulStation l.mux l.entries.items;
  run : l.mux.run ≡ l.fn.mux.run;
}
