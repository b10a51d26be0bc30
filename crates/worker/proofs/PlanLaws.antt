-- The inputs of a schedule.
use Rattle.std.proofs.Common.{◌≡◌, ℕ, List, Some, All, map, option_map, ap, ◌∙◌, subst}
use Rattle.std.specs.List.{slice_get}
use Rattle.std.proofs.lemmas.Option.{slice_get_within, slice_get-map, get_or_from_slice_get}
use Rattle.request.specs.declared.input.Input.{Input}
use Rattle.request.specs.Request.{InputValue, input_value}
use Rattle.schedule.specs.Schedule.{ScheduleValue}

pub all_at : {X : Type 0} (P : X → Type 0) (xs : List X) (k : ℕ) (x : X) → All P xs → slice_get xs k ≡ Some x → P x
all_at P xs k x all at = subst P (get_or_from_slice_get xs k x x at) (all k x (slice_get_within xs k x at))

-- an input of a schedule, as its number and its parts give it
pub input_at : (p : ScheduleValue) (inputs : List Input) (i : ℕ) (x : Input) → map input_value inputs ≡ p.first.request.inputs → slice_get inputs i ≡ Some x
    → slice_get p.first.request.inputs i ≡ Some (input_value x)
input_at p inputs i x same at =
    let P : List InputValue → Type 0 = λ v. slice_get v i ≡ Some (input_value x) in
    subst P same (slice_get-map input_value inputs i ∙ ap (option_map input_value) at)
