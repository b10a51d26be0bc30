-- What acquisition has seen is what it finds.
use Rattle.std.proofs.Common.{◌≡◌, ℕ, ◌==◌, ◌&&◌, ◌||◌, List, [], ◌∷◌, ◌++◌, Option, Some, None, is_some, option_map, map, length, refl, sym, ◌∙◌, ap}
use Rattle.std.specs.List.{flat_map}
use Rattle.std.proofs.lemmas.List.{length-map}
use Rattle.tables.specs.InForce.{SectionValue}
use Rattle.tables.specs.Kept.{tables_of}
use Rattle.tables.specs.OnPid.{sdt_sections}
use Rattle.tables.specs.Sdt.{SdtValue}
use Rattle.acquire.specs.Findings.{first_complete, sdt_found, pmt_found, findings, all_some, is_all_found}
use Rattle.acquire.specs.Taken.{FirstTableState, HasTaken}
use Rattle.acquire.specs.Seen.{AcquireState, HasSeen, knows_all}
use Rattle.acquire.proofs.TakenLaws.{some_mapped}

rows_of_sdts : (sections : List (SectionValue SdtValue)) → flat_map (λ (s : SectionValue SdtValue). s.table.rows) sections ≡ flat_map (λ (s : SdtValue). s.rows) (tables_of sections)
rows_of_sdts [] = refl
rows_of_sdts (s ∷ sections) = ap (λ l. s.table.rows ++ l) (rows_of_sdts sections)

rows_at : (o : Option (List (SectionValue SdtValue)))
    → option_map (flat_map (λ (s : SdtValue). s.rows)) (option_map tables_of o) ≡ option_map (flat_map (λ (s : SectionValue SdtValue). s.table.rows)) o
rows_at None = refl
rows_at (Some sections) = ap Some (sym (rows_of_sdts sections))

-- the rows of the SDT that was found
pub sdt_is_found : (t : FirstTableState SdtValue) (packets : List (List ℕ)) → HasTaken t (sdt_sections packets)
    → option_map (flat_map (λ (s : SdtValue). s.rows)) t.found ≡ sdt_found packets
sdt_is_found t packets taken =
    ap (option_map (flat_map (λ (s : SdtValue). s.rows))) taken.found ∙ rows_at (first_complete (sdt_sections packets))

pub mapped_twice : {A B C : Type 0} (f : A → B) (g : B → C) (o : Option A) → option_map (λ x. g (f x)) o ≡ option_map g (option_map f o)
mapped_twice f g None = refl
mapped_twice f g (Some x) = refl

-- all that is wanted was found
pub all_is_found : (wanted : List ℕ) (a : AcquireState) (packets : List (List ℕ)) → HasSeen wanted a packets → knows_all a ≡ is_all_found wanted (findings wanted packets)
all_is_found wanted a packets seen =
    let count : length a.programs.found.items ≡ length wanted = ap length seen.programs.found ∙ length-map wanted (λ program. pmt_found program packets) in
    let sdt : is_some a.sdt.table.found ≡ is_some (sdt_found packets) =
    sym (some_mapped (flat_map (λ (s : SdtValue). s.rows)) a.sdt.table.found) ∙ ap is_some (sdt_is_found a.sdt.table packets seen.sdt.taken) in
    ap (λ n. n == 0 || (all_some a.programs.found.items && is_some a.sdt.table.found)) count
    ∙ ap (λ l. length wanted == 0 || (all_some l && is_some a.sdt.table.found)) seen.programs.found
    ∙ ap (λ b. length wanted == 0 || (all_some (map (λ program. pmt_found program packets) wanted) && b)) sdt
