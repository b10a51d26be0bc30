use Rattle.std.proofs.Common.{◌≡◌, not, drop}
use Rattle.std.specs.List.{list_any}
use Rattle.request.specs.Ranges.{is_letter}
use Rattle.request_causes.proofs.range_causes.letter_cause.Given as goal

abbrev pub invariant-loop-place : goal.invariant-loop-place
invariant-loop-place l = list_any (λ b. not (is_letter b)) l.name ≡ list_any (λ b. not (is_letter b)) (drop l.place l.name)
