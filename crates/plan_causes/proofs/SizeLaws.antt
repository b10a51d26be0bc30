-- Which table is too large.
use Rattle.std.proofs.Common.{◌≡◌, ◌<◌, nat_lt, Bool, true, false, ◌||◌, List, refl}
use Rattle.std.specs.Prelude.{Any}
use Rattle.std.specs.List.{list_any}
use Rattle.std.proofs.lemmas.Bool.{ltb-true}
use Rattle.std.proofs.lemmas.List.Folds.{Any-from_list_any}
use Rattle.tables.specs.Pmt.{pmt_section_length_of}
use Rattle.tables.specs.Nit.{nit_section_length_of}
use Rattle.tables.specs.Sdt.{rows_room}
use Rattle.request.specs.Request.{RequestValue}
use Rattle.selection.specs.Chosen.{ChosenValue}
use Rattle.output_tables.specs.Output.{output_pmt, output_nit, output_row, row_length, is_too_large}

the_first : (p n w : Bool) → ((p || n) || w) ≡ true → n ≡ false → w ≡ false → p ≡ true
the_first true n w h e f = refl
the_first false true w h e f = cc
the_first false false true h e f = cc
the_first false false false h e f = cc

-- a PMT, where neither the NIT nor a row is
pub pmt_is_large : (r : RequestValue) (chosen : List ChosenValue) → is_too_large r chosen ≡ true → nat_lt 1021 (nit_section_length_of (output_nit r chosen)) ≡ false
    → list_any (λ (c : ChosenValue). nat_lt rows_room (row_length (output_row c))) chosen ≡ false
    → Any (λ (c : ChosenValue). 1021 < pmt_section_length_of (output_pmt r c)) chosen
unfolding is_too_large
pmt_is_large r chosen h nit rows =
    let p : ChosenValue → Bool = λ c. nat_lt 1021 (pmt_section_length_of (output_pmt r c)) in
    let one : list_any p chosen ≡ true =
    the_first (list_any p chosen) (nat_lt 1021 (nit_section_length_of (output_nit r chosen))) (list_any (λ (c : ChosenValue). nat_lt rows_room (row_length (output_row c))) chosen) h nit rows in
    let a = Any-from_list_any p chosen one in
    (a.0, a.1, a.2, a.3, ltb-true 1021 (pmt_section_length_of (output_pmt r a.1)) a.4)
