-- The place of a service's PMT among those of its input.
use Rattle.std.proofs.Common.{◌≡◌, ℕ, suc, ◌+◌, ◌==◌, Bool, false, true, List, [], ◌∷◌, Option, None, Some, map, filter, cond, refl, ap, ◌∙◌, sym, option_map, add-one}
use Rattle.std.specs.List.{slice_get, position_from}
use Rattle.std.specs.Option.{option_and_then, option_flatten}
use Rattle.tables.specs.Pmt.{PmtValue}
use Rattle.request.specs.Request.{ServiceValue}
use Rattle.request.specs.Request.{service_value}
use Rattle.request.specs.declared.service.Service.{Service}
use Rattle.selection.specs.Chosen.{beside}
use Rattle.selection.proofs.TestLaws.{filter_map_law}

shift_cond : (b : Bool) (i j : ℕ) (rest : Option ℕ) (later : Option ℕ) → suc i ≡ j → later ≡ option_map suc rest → cond b (Some j) later ≡ option_map suc (cond b (Some i) rest)
shift_cond true i j rest later e f = ap Some (sym e)
shift_cond false i j rest later e f = f

-- where the places are counted from one more
position_shift : {X : Type 0} (p : X → Bool) (i : ℕ) (xs : List X) → position_from p (i + 1) xs ≡ option_map suc (position_from p i xs)
position_shift p i [] = refl
position_shift p i (x ∷ xs) = shift_cond (p x) i (i + 1) (position_from p (i + 1) xs) (position_from p (i + 1 + 1) xs) (sym (add-one i)) (position_shift p (i + 1) xs)

-- what stands at a place
abbrev pub at_place : {V : Type 0} → List (Option V) → ℕ → Option V
at_place xs k = option_flatten (slice_get xs k)

none_there : (o : Option ℕ) → None ≡ option_and_then (at_place {V = PmtValue} []) o
none_there None = refl
none_there (Some k) = refl

one_later : {V : Type 0} (x : Option V) (xs : List (Option V)) (o : Option ℕ) → option_and_then (at_place xs) o ≡ option_and_then (at_place (x ∷ xs)) (option_map suc o)
one_later x xs None = refl
one_later x xs (Some k) = refl

beside_step : (b : Bool) (x : Option PmtValue) (xs : List (Option PmtValue)) (later : Option PmtValue) (o : Option ℕ) → later ≡ option_and_then (at_place (x ∷ xs)) o
    → cond b x later ≡ option_and_then (at_place (x ∷ xs)) (cond b (Some 0) o)
beside_step true x xs later o e = refl
beside_step false x xs later o e = e

beside_services : (program : ℕ) (services : List Service) (pmts : List (Option PmtValue)) →
    beside program (map (λ (s : Service). s.program) services) pmts ≡ option_and_then (at_place pmts) (position_from (λ (s : Service). s.program == program) 0 services)
beside_services program [] pmts = refl
beside_services program (s ∷ services) [] = none_there (position_from (λ (s : Service). s.program == program) 0 (s ∷ services))
beside_services program (s ∷ services) (pmt ∷ pmts) =
    beside_step (s.program == program) pmt pmts (beside program (map (λ (s : Service). s.program) services) pmts) (position_from (λ (s : Service). s.program == program) 1 services)
    (beside_services program services pmts ∙ one_later pmt pmts (position_from (λ (s : Service). s.program == program) 0 services)
    ∙ ap (option_and_then (at_place (pmt ∷ pmts))) (sym (position_shift (λ (s : Service). s.program == program) 0 services)))

map_twice : (services : List Service) → map (λ (s : ServiceValue). s.program) (map service_value services) ≡ map (λ (s : Service). s.program) services
map_twice [] = refl
map_twice (s ∷ services) = ap (λ rest. s.program ∷ rest) (map_twice services)

-- the PMT beside a program is at the program's place among those of its input
pub beside_place : (input program : ℕ) (services : List Service) (pmts : List (Option PmtValue)) →
    beside program (map (λ (s : ServiceValue). s.program) (filter (λ (s : ServiceValue). s.input == input) (map service_value services))) pmts
    ≡ option_and_then (at_place pmts) (position_from (λ (s : Service). s.program == program) 0 (filter (λ (s : Service). s.input == input) services))
beside_place input program services pmts =
    ap (λ xs. beside program (map (λ (s : ServiceValue). s.program) xs) pmts) (filter_map_law (λ (s : ServiceValue). s.input == input) service_value services)
    ∙ ap (λ xs. beside program xs pmts) (map_twice (filter (λ (s : Service). s.input == input) services))
    ∙ beside_services program (filter (λ (s : Service). s.input == input) services) pmts

-- the programs of the services of an input, by the services without where they lie in memory
pub programs_by : (input : ℕ) (services : List Service) (values : List ServiceValue) → map service_value services ≡ values →
    map (λ (s : Service). s.program) (filter (λ (s : Service). s.input == input) services) ≡ map (λ (s : ServiceValue). s.program) (filter (λ (s : ServiceValue). s.input == input) values)
programs_by input services values same =
    sym (map_twice (filter (λ (s : Service). s.input == input) services))
    ∙ ap (map (λ (s : ServiceValue). s.program)) (sym (filter_map_law (λ (s : ServiceValue). s.input == input) service_value services))
    ∙ ap (λ xs. map (λ (s : ServiceValue). s.program) (filter (λ (s : ServiceValue). s.input == input) xs)) same
