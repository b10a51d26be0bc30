-- The first service of a request that lacks something, and the first chosen one to which a fault applies.
use Rattle.std.proofs.Common.{◌≡◌, Bool, false, true, List, Option, None, Some, map, ap, ◌∙◌, sym, subst}
use Rattle.std.specs.Prelude.{find, Any, is_some}
use Rattle.std.specs.List.{list_any}
use Rattle.request.specs.Request.{RequestValue, ServiceValue, service_value}
use Rattle.request.specs.declared.service.Service.{Service}
use Rattle.selection.specs.Chosen.{ChosenValue}
use Rattle.selection.specs.ChosenView.{chosen_value}
use Rattle.selection.specs.declared.chosen_service.ChosenService.{ChosenService}
use Rattle.plan_causes.specs.ServiceNumbers.{numbers_of}
use Rattle.plan_causes.specs.declared.service_numbers.ServiceNumbers.{ServiceNumbers}
use Rattle.plan_causes.specs.Causes.{OfService, OfChosen}
use Rattle.plan_causes.proofs.FindLaws.{none_passes, one_passes, is_among, found_passes}

pub none_lacks : (p : ServiceValue → Bool) (services : List Service) (values : List ServiceValue) → map service_value services ≡ values
    → find (λ (s : Service). p (service_value s)) services ≡ None → list_any p values ≡ false
none_lacks p services values same h = ap (list_any p) (sym same) ∙ none_passes p service_value services h

pub one_lacks : (p : ServiceValue → Bool) (services : List Service) (values : List ServiceValue) (s : Service) → map service_value services ≡ values
    → find (λ (s : Service). p (service_value s)) services ≡ Some s → list_any p values ≡ true
one_lacks p services values s same h = ap (list_any p) (sym same) ∙ one_passes p service_value services s h

-- what is so of the service that was found is so of one with its numbers
pub service_is : (p : ServiceValue → Bool) (P : ServiceValue → Type 0) (r : RequestValue) (services : List Service) (s : Service) (numbers : ServiceNumbers)
    → map service_value services ≡ r.services → find (λ (s : Service). p (service_value s)) services ≡ Some s → numbers ≡ numbers_of (service_value s) → P (service_value s)
    → OfService r numbers P
service_is p P r services s numbers same h e holds =
    let Q : ServiceValue → Type 0 = λ x. (numbers_of x ≡ numbers) × P x in
    subst (Any Q) same (is_among (λ (s : Service). p (service_value s)) service_value Q services s h (sym e, holds))

pub service_lacks : (p : ServiceValue → Bool) (P : ServiceValue → Type 0) → ((s : ServiceValue) → p s ≡ true → P s) → (r : RequestValue) (services : List Service) (s : Service) (numbers : ServiceNumbers)
    → map service_value services ≡ r.services → find (λ (s : Service). p (service_value s)) services ≡ Some s → numbers ≡ numbers_of (service_value s)
    → OfService r numbers P
service_lacks p P k r services s numbers same h e =
    service_is p P r services s numbers same h e (k (service_value s) (found_passes (λ (s : Service). p (service_value s)) services s h))

pub chosen_is : (p : ChosenValue → Bool) (P : ChosenValue → Type 0) (chosen : List ChosenService) (s : ChosenService) (numbers : ServiceNumbers)
    → find (λ (s : ChosenService). p (chosen_value s)) chosen ≡ Some s → numbers ≡ numbers_of (chosen_value s).service → P (chosen_value s)
    → OfChosen (map chosen_value chosen) numbers P
chosen_is p P chosen s numbers h e holds =
    is_among (λ (s : ChosenService). p (chosen_value s)) chosen_value (λ x. (numbers_of x.service ≡ numbers) × P x) chosen s h (sym e, holds)

pub some_not_none : {X : Type 0} (o : Option X) → is_some o ≡ true → o ≡ None → ⊥
some_not_none None h e = cc
some_not_none (Some x) h e = cc
