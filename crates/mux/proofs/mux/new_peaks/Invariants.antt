use Rattle.std.proofs.Common.{◌≡◌, map, take}
use Rattle.mux.specs.Keeping.{no_peak}
use Rattle.mux.proofs.mux.new_peaks.Given as goal

abbrev pub invariant-loop : goal.invariant-loop
invariant-loop l = l.peaks.items ≡ map no_peak (take l.index l.streams)
