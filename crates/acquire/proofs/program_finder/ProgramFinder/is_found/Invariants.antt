use Rattle.std.proofs.Common.{◌≡◌, drop}
use Rattle.acquire.specs.Findings.{all_some}
use Rattle.acquire.proofs.program_finder.ProgramFinder.is_found.Given as goal

abbrev pub invariant-loop-pmt : goal.invariant-loop-pmt
invariant-loop-pmt l = all_some (drop l.pmt-index l.pmt-items) ≡ all_some l.self.found.items
