use Rattle.std.proofs.Common.{◌≡◌, drop}
use Rattle.std.specs.List.{flat_map}
use Rattle.tables.specs.Pat.{PatValue}
use Rattle.acquire.specs.Findings.{pmt_pid_of}
use Rattle.acquire.proofs.pmt_finders.pmt_pid.Given as goal

abbrev pub invariant-loop-pat : goal.invariant-loop-pat
invariant-loop-pat l =
    pmt_pid_of l.program (flat_map (λ (p : PatValue). p.rows) (drop l.pat-index l.pats)) ≡ pmt_pid_of l.program (flat_map (λ (p : PatValue). p.rows) l.pats)
