-- Where nothing is missing, each service is chosen.
use Rattle.std.proofs.Common.{◌≡◌, ℕ, Bool, false, true, ◌||◌, List, [], ◌∷◌, Option, None, Some, map, refl, ap, ◌∙◌, option_map}
use Rattle.std.specs.Prelude.{is_none}
use Rattle.std.specs.List.{list_any, filter_map, cons_option}
use Rattle.std.specs.Option.{option_and_then}
use Rattle.tables.specs.Pmt.{PmtValue}
use Rattle.tables.specs.declared.sdt_row.SdtRow.{SdtRow}
use Rattle.acquire.specs.Findings.{Findings}
use Rattle.request.specs.Request.{RequestValue, ServiceValue}
use Rattle.selection.specs.Chosen.{ChosenValue, chosen_service, chosen_with_row, found_pmt, found_row, service_type_of, lacks_program, lacks_row}

abbrev service_in : ChosenValue → ServiceValue
service_in c = c.service

with_type : (s : ServiceValue) (pmt : PmtValue) (row : SdtRow) (kind : Option ℕ) (rest : List ChosenValue) → is_none kind ≡ false
    → map service_in (cons_option (option_map (λ kind. record { service = s; pmt = pmt; row = row; service_type = kind }) kind) rest) ≡ s ∷ map service_in rest
with_type s pmt row None rest h = cc
with_type s pmt row (Some kind) rest h = refl

with_row : (s : ServiceValue) (pmt : PmtValue) (row : Option SdtRow) (rest : List ChosenValue) → is_none (option_and_then service_type_of row) ≡ false
    → map service_in (cons_option (option_and_then (chosen_with_row s pmt) row) rest) ≡ s ∷ map service_in rest
with_row s pmt None rest h = cc
with_row s pmt (Some row) rest h = with_type s pmt row (service_type_of row) rest h

with_pmt : (s : ServiceValue) (pmt : Option PmtValue) (row : Option SdtRow) (rest : List ChosenValue) → is_none pmt ≡ false → is_none (option_and_then service_type_of row) ≡ false
    → map service_in (cons_option (option_and_then (λ pmt. option_and_then (chosen_with_row s pmt) row) pmt) rest) ≡ s ∷ map service_in rest
with_pmt s None row rest g h = cc
with_pmt s (Some pmt) row rest g h = with_row s pmt row rest h

neither : (a b : Bool) → (a || b) ≡ false → (a ≡ false) × (b ≡ false)
neither true b h = cc
neither false b h = (refl, h)

-- the services of those that are chosen are all of them
pub all_chosen : (r : RequestValue) (found : List Findings) (services : List ServiceValue) → list_any (lacks_program r found) services ≡ false → list_any (lacks_row found) services ≡ false
    → map (λ (c : ChosenValue). c.service) (filter_map (chosen_service r found) services) ≡ services
all_chosen r found [] g h = refl
all_chosen r found (s ∷ services) g h =
    let program = neither (lacks_program r found s) (list_any (lacks_program r found) services) g in
    let row = neither (lacks_row found s) (list_any (lacks_row found) services) h in
    with_pmt s (found_pmt r found s) (found_row found s) (filter_map (chosen_service r found) services) program.0 row.0
    ∙ ap (λ rest. s ∷ rest) (all_chosen r found services program.1 row.1)
