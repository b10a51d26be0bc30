-- What a request and the findings of its inputs make: a plan, or the fault of the least number (profile).
use Rattle.std.specs.Prelude.{◌≡◌, List, if◌then◌else◌, Option, Some, None}
use Rattle.std.specs.Option.{option_or}
use Rattle.acquire.specs.Findings.{Findings}
use Rattle.rounds.specs.Rounds.{RoundsValue, rounds_with, rounds_fault_of}
use Rattle.rounds.specs.declared.rounds_fault.RoundsFault.{RoundsFault}
use Rattle.rounds.specs.declared.rounds_fault.RoundsFault.TheVariants
use Rattle.request.specs.declared.plan_fault.PlanFault.{PlanFault}
use Rattle.request.specs.declared.plan_fault.PlanFault.TheVariants.{TooLarge, RoundTooLong, PeriodTooLong}
use Rattle.request.specs.Request.{RequestValue}
use Rattle.selection.specs.Chosen.{ChosenValue, AreServicesOf, chosen_of}
use Rattle.selection.specs.Faults.{choice_fault_of, program_fault_of}
use Rattle.output_tables.specs.Output.{is_too_large, fast_count, slow_count}
use Rattle.output_tables.specs.TableSet.{TableSetValue, IsTableSet}

-- when the tables of these services are sent
abbrev pub output_rounds : RequestValue → List ChosenValue → RoundsValue
output_rounds r chosen = rounds_with r.rate r.period (fast_count r chosen) (slow_count r chosen)

abbrev pub fault_of_rounds : Option RoundsFault → Option PlanFault
fault_of_rounds None = None
fault_of_rounds (Some TheVariants.RoundTooLong) = Some RoundTooLong
fault_of_rounds (Some TheVariants.PeriodTooLong) = Some PeriodTooLong

-- the fault of the least number among those of the chosen services
unfoldable pub chosen_fault_of : RequestValue → List ChosenValue → Option PlanFault
chosen_fault_of r chosen =
    option_or (program_fault_of r chosen)
    (if is_too_large r chosen then Some TooLarge else fault_of_rounds (rounds_fault_of (output_rounds r chosen)))

-- the fault of the least number of all
unfoldable pub build_fault_of : RequestValue → List Findings → Option PlanFault
build_fault_of r found = option_or (choice_fault_of r found) (chosen_fault_of r (chosen_of r found))

-- a plan: what was asked for, the sections of the output's tables, and when they are sent
pub record PlanValue : Type 0 where
  pub request : RequestValue
  pub tables : TableSetValue
  pub rounds : RoundsValue

-- the plan of a request for these chosen services
pub record IsPlanOf (r : RequestValue) (chosen : List ChosenValue) (p : PlanValue) : Type 0 where
  pub request : p.request ≡ r
  pub services : AreServicesOf r chosen
  pub tables : IsTableSet r chosen p.tables
  pub rounds : p.rounds ≡ output_rounds r chosen

-- the plan of some chosen services, one for each that was asked for
abbrev pub IsPlan : PlanValue → Type 0
IsPlan p = ∥ ((chosen : List ChosenValue) × IsPlanOf p.request chosen p) ∥₁
