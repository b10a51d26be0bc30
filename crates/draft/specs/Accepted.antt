-- A plan's text that a run takes (profile).
use Rattle.std.specs.Prelude.{◌≡◌, ℕ, List, Option, Some, None, option_map}
use Rattle.acquire.specs.Findings.{Findings}
use Rattle.request.specs.Request.{RequestValue, request_of}
use Rattle.request.specs.Text.{text_parts}
use Rattle.request.specs.Answers.{text_fault_of}
use Rattle.plan.specs.Build.{build_fault_of}

-- The text has no fault of its own: its values are in their ranges, and no number or PID has two uses. And none by what was found in
-- its inputs.
pub record IsAccepted (text : List ℕ) (found : List Findings) : Type 0 where
  pub own : text_fault_of text ≡ None
  pub request : RequestValue
  pub read : option_map request_of (text_parts text) ≡ Some request
  pub built : build_fault_of request found ≡ None

-- by what was found in some inputs
abbrev pub IsPlanOfSome : List ℕ → Type 0
IsPlanOfSome text = (found : List Findings) × IsAccepted text found
