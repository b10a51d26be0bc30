use Rattle.threaded.proofs.opening.open.Goals as goal

pub returns-clause-ready : goal.returns-clause-ready
returns-clause-ready g c = record {
  ports = c.in_ok-station.ports.items;
  opened = c.in_ok-station.ensures;
  seats_are = c.in_ok-seats.ensures;
}
