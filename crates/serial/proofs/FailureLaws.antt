-- A failed read is told of each input exactly where its source failed.
use Rattle.std.proofs.Common.{◌≡◌, ℕ, ◌<◌, List, set, get_or, length, ap, ◌∙◌, sym, subst, arith, inl, inr}
use Rattle.std.specs.Prelude.{Some}
use Rattle.std.specs.List.{slice_get}
use Rattle.std.proofs.lemmas.Bool.{cases_eq}
use Rattle.std.proofs.lemmas.List.{length-set, get_or-set_same, get_or-set_other}
use Rattle.std.proofs.lemmas.Option.{same_Some, slice_get-get_or, slice_get_within}
use Rattle.reading.specs.PacketReading.{TellsFailures}
use Rattle.serial.specs.Feeding.{SerialInput, AllTellFailures}

-- input i goes on, and the others stay
pub all_tell : {R : Type 0} (failures : R → ℕ) (befores : List ℕ) (inputs : List (SerialInput R)) (i : ℕ) (x y : SerialInput R) → x ≡ get_or inputs i x
    → ((before : ℕ) → TellsFailures failures before x.inlet → TellsFailures failures before y.inlet) → AllTellFailures failures befores inputs
    → AllTellFailures failures befores (set inputs i y)
all_tell failures befores inputs i x y at goes all j z before there here =
    let inside = slice_get_within (set inputs i y) j z there in
    let within : j < length inputs = omega (arith, inside, length-set inputs i y) in
    let z_is : get_or (set inputs i y) j x ≡ z = same_Some (get_or (set inputs i y) j x) z (sym (slice_get-get_or (set inputs i y) j x inside) ∙ there) in
    let P : SerialInput _ → Type 0 = λ v. TellsFailures failures before v.inlet in
    elim (cases_eq j i) [
      | inl same ↦
          (let x_is : slice_get inputs j ≡ Some x = slice_get-get_or inputs j x within ∙ ap (λ k. Some (get_or inputs k x)) same ∙ ap Some (sym at) in
          let y_is : y ≡ z = sym (get_or-set_same inputs i y x (omega (arith, within, same))) ∙ ap (λ k. get_or (set inputs i y) k x) (sym same) ∙ z_is in
          subst P y_is (goes before (all j x before x_is here)))
      | inr ne ↦
          all j z before (slice_get-get_or inputs j x within ∙ ap Some (sym (get_or-set_other inputs i j y x ne) ∙ z_is)) here
    ]
