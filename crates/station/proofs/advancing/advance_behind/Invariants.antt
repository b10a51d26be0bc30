use Rattle.std.proofs.Common.{◌≡◌, ◌≤◌, ◌+◌, ◌++◌, ℕ, List, vec_len, vec_capacity}
use Rattle.station.specs.Stations.{IsLawfulStation}
use Rattle.station.specs.Advancing.{Steps}
use Rattle.station.proofs.advancing.advance_behind.Given as goal

abbrev pub invariant-loop-count : goal.invariant-loop-count
invariant-loop-count l = record {
  steps : (packets : List (List ℕ)) × (l.sent.items ≡ l.fn.sent.items ++ packets)
      × Steps l._count (record { history = l.fn.mux; inputs = l.fn.entries.items }) (record { history = l.mux; inputs = l.entries.items }) packets;
  lawful : IsLawfulStation l.mux l.entries.items;
  len : vec_len l.sent ≤ vec_len l.fn.sent + l._count;
  room : vec_capacity l.fn.sent ≤ vec_capacity l.sent;
}
