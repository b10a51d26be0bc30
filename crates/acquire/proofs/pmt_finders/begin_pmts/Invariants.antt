use Rattle.std.proofs.Common.{◌≡◌, ◌++◌, map, take, drop}
use Rattle.std.specs.List.{flat_map}
use Rattle.tables.specs.Pat.{PatValue}
use Rattle.acquire.specs.Seen.{pmt_finder_begun}
use Rattle.acquire.proofs.pmt_finders.begin_pmts.Given as goal

abbrev pub invariant-loop-finder : goal.invariant-loop-finder
invariant-loop-finder l =
    l.finder-items ≡ map (pmt_finder_begun (flat_map (λ (p : PatValue). p.rows) l.pats)) (take l.finder-index l.initial.finder-items) ++ drop l.finder-index l.initial.finder-items
