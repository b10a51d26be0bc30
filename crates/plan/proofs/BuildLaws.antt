-- Facts of plans and of their faults.
use Rattle.std.proofs.Common.{◌≡◌, Bool, true, false, if◌then◌else◌, Option, Some, None, sym, subst}
use Rattle.std.specs.Option.{option_or}
use Rattle.std.specs.Prelude.{List}
use Rattle.std.specs.List.{list_any}
use Rattle.acquire.specs.Findings.{Findings}
use Rattle.rounds.specs.Rounds.{RoundsValue, rounds_fault_of}
use Rattle.rounds.specs.declared.rounds_fault.RoundsFault.{RoundsFault}
use Rattle.rounds.specs.declared.rounds_fault.RoundsFault.TheVariants
use Rattle.request.specs.declared.plan_fault.PlanFault.{PlanFault}
use Rattle.request.specs.declared.plan_fault.PlanFault.TheVariants.{NoProgram, NoSdtRow, CaFound, RateMissing, StreamUnknown, TooLarge, Memory}
use Rattle.request.specs.Request.{RequestValue}
use Rattle.selection.specs.Chosen.{ChosenValue, lacks_program, lacks_row, is_scrambled, streams_of, lacks_rate, has_unknown_stream}
use Rattle.selection.specs.Faults.{choice_fault_of, program_fault_of}
use Rattle.output_tables.specs.Output.{is_too_large}
use Rattle.output_tables.specs.TableSet.{TableSetValue}
use Rattle.plan.specs.Build.{IsPlan, output_rounds, fault_of_rounds, chosen_fault_of}
use Rattle.plan.specs.StreamPlace.{StreamMapValue, IsMapOf}

-- what is kept of equal parts
pub same_plan : (r r' : RequestValue) (t t' : TableSetValue) (rounds : RoundsValue) (m m' : StreamMapValue) → r' ≡ r → t' ≡ t → m' ≡ m
    → IsMapOf m r.streams × IsPlan (record { request = r; tables = t; rounds = rounds })
    → IsMapOf m' r'.streams × IsPlan (record { request = r'; tables = t'; rounds = rounds })
same_plan r r' t t' rounds m m' e f g h =
    let P : RequestValue → Type 0 = λ x. IsMapOf m' x.streams × IsPlan (record { request = x; tables = t'; rounds = rounds }) in
    let Q : TableSetValue → Type 0 = λ x. IsMapOf m' r.streams × IsPlan (record { request = r; tables = x; rounds = rounds }) in
    let R : StreamMapValue → Type 0 = λ x. IsMapOf x r.streams × IsPlan (record { request = r; tables = t; rounds = rounds }) in
    subst P (sym e) (subst Q (sym f) (subst R (sym g) h))

-- want of memory is no fault of the choice
by_choice : (a b : Bool) → (if a then Some NoProgram else if b then Some NoSdtRow else None) ≡ Some Memory → ⊥
by_choice true b h = cc
by_choice false true h = cc
by_choice false false h = cc

pub choice_has_memory : (r : RequestValue) (found : List Findings) → choice_fault_of r found ≡ Some Memory → ⊥
unfolding choice_fault_of
choice_has_memory r found h = by_choice (list_any (lacks_program r found) r.services) (list_any (lacks_row found) r.services) h

-- nor of the chosen services
by_program : (a b c : Bool) (later : Option PlanFault) → (later ≡ Some Memory → ⊥) → option_or (if a then Some CaFound else if b then Some RateMissing else if c then Some StreamUnknown else None) later ≡ Some Memory → ⊥
by_program true b c later l h = cc
by_program false true c later l h = cc
by_program false false true later l h = cc
by_program false false false later l h = l h

by_rounds : (f : Option RoundsFault) → fault_of_rounds f ≡ Some Memory → ⊥
by_rounds None h = cc
by_rounds (Some TheVariants.RoundTooLong) h = cc
by_rounds (Some TheVariants.PeriodTooLong) h = cc

by_size : (large : Bool) (f : Option RoundsFault) → (if large then Some TooLarge else fault_of_rounds f) ≡ Some Memory → ⊥
by_size true f h = cc
by_size false f h = by_rounds f h

pub chosen_has_memory : (r : RequestValue) (chosen : List ChosenValue) → chosen_fault_of r chosen ≡ Some Memory → ⊥
unfolding chosen_fault_of program_fault_of
chosen_has_memory r chosen h =
    by_program (list_any is_scrambled chosen) (list_any (λ (c : ChosenValue). lacks_rate (streams_of r c.service) c.pmt) chosen) (list_any (λ (c : ChosenValue). has_unknown_stream (streams_of r c.service) c.pmt) chosen)
    (if is_too_large r chosen then Some TooLarge else fault_of_rounds (rounds_fault_of (output_rounds r chosen)))
    (by_size (is_too_large r chosen) (rounds_fault_of (output_rounds r chosen))) h
