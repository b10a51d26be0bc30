-- Whether the output's tables have room in their sections.
use Rattle.std.proofs.Common.{arith, ◌≡◌, ℕ, ◌+◌, ◌*◌, ◌≤◌, Bool, false, ◌||◌, List, [], ◌∷◌, length, map, sum, refl, ap, ◌∙◌, nat_lt, length-append, get_or}
use Rattle.std.specs.List.{All, list_any, flat_map}
use Rattle.std.proofs.lemmas.Bool.{ltb-false, or_parts, false_from_ne_true, both_ways}
use Rattle.std.proofs.lemmas.List.{length-map}
use Rattle.std.proofs.lemmas.List.Elements.{All-weaker}
use Rattle.std.proofs.lemmas.List.Folds.{list_any_at}
use Rattle.tables.specs.declared.pmt_row.PmtRow.{PmtRow}
use Rattle.tables.specs.declared.service_list_entry.ServiceListEntry.{ServiceListEntry}
use Rattle.tables.specs.Pmt.{pmt_section_length_of}
use Rattle.tables.specs.Nit.{nit_section_length_of}
use Rattle.tables.specs.ServiceListDescriptor.{entry_bytes}
use Rattle.request.specs.Request.{RequestValue}
use Rattle.request.specs.declared.stream.Stream.{Stream}
use Rattle.selection.specs.declared.chosen_service.ChosenService.{ChosenService}
use Rattle.selection.specs.Chosen.{ChosenValue, streams_of}
use Rattle.selection.specs.ChosenView.{chosen_value}
use Rattle.selection.proofs.TestLaws.{any_map}
use Rattle.tables.specs.Sdt.{rows_room}
use Rattle.output_tables.specs.Output.{list_entry, mapped_row, output_pmt, output_nit, output_row, row_length, is_too_large}
use Rattle.output_tables.specs.Room.{HaveRoom}

-- three bytes for each entry of a service list
list_length : (entries : List ServiceListEntry) → length (flat_map entry_bytes entries) ≡ 3 * length entries
list_length [] = refl
list_length (e ∷ entries) =
    let more = list_length entries in
    length-append (entry_bytes e) (flat_map entry_bytes entries) ∙ omega arith

-- section_length of the output's NIT
pub nit_length : (r : RequestValue) (chosen : List ChosenValue) → nit_section_length_of (output_nit r chosen) ≡ 19 + (2 + length r.network_name) + (2 + 3 * length chosen) + length r.transport_descriptors
nit_length r chosen =
    let entries = map list_entry chosen in
    let body = flat_map entry_bytes entries in
    let list = list_length entries in
    let count = length-map chosen list_entry in
    let all = length-append (0x41 ∷ length body ∷ body) r.transport_descriptors in
    omega arith

-- the rows on their output PIDs are as long
mapped_rows : (streams : List Stream) (rows : List PmtRow) → sum (map (λ (row : PmtRow). 5 + length row.descriptors) (map (mapped_row streams) rows)) ≡ sum (map (λ (row : PmtRow). 5 + length row.descriptors) rows)
mapped_rows streams rows = ap sum (twice rows)
  where
    twice : (rows : List PmtRow) → map (λ (row : PmtRow). 5 + length row.descriptors) (map (mapped_row streams) rows) ≡ map (λ (row : PmtRow). 5 + length row.descriptors) rows
    twice [] = refl
    twice (row ∷ rows) = ap (λ (ns : List ℕ). (5 + length row.descriptors) ∷ ns) (twice rows)

-- section_length of an output's PMT is that of the input's
pub pmt_length : (r : RequestValue) (c : ChosenValue) → pmt_section_length_of (output_pmt r c) ≡ pmt_section_length_of c.pmt
pmt_length r c = ap (λ (n : ℕ). 13 + length c.pmt.program_info + n) (mapped_rows (streams_of r c.service) c.pmt.rows)

any_agree : {X : Type 0} (p q : X → Bool) → ((x : X) → p x ≡ q x) → (xs : List X) → list_any p xs ≡ list_any q xs
any_agree p q h [] = refl
any_agree p q h (x ∷ xs) = ap (λ b. b || list_any p xs) (h x) ∙ ap (λ b. q x || b) (any_agree p q h xs)

-- the test by the services as they lie in memory
pub too_large_by : (r : RequestValue) (chosen : List ChosenService) →
    is_too_large r (map chosen_value chosen)
    ≡ ((list_any (λ (c : ChosenService). nat_lt 1021 (pmt_section_length_of c.pmt.now)) chosen
    || nat_lt 1021 (nit_section_length_of (output_nit r (map chosen_value chosen))))
    || list_any (λ (c : ChosenService). nat_lt rows_room (row_length c.row.now)) chosen)
unfolding is_too_large
too_large_by r chosen =
    let nit = nat_lt 1021 (nit_section_length_of (output_nit r (map chosen_value chosen))) in
    let pmts : list_any (λ (c : ChosenValue). nat_lt 1021 (pmt_section_length_of (output_pmt r c))) (map chosen_value chosen) ≡ list_any (λ (c : ChosenService). nat_lt 1021 (pmt_section_length_of c.pmt.now)) chosen =
    any_map (λ (c : ChosenValue). nat_lt 1021 (pmt_section_length_of (output_pmt r c))) chosen_value chosen
    ∙ any_agree (λ (c : ChosenService). nat_lt 1021 (pmt_section_length_of (output_pmt r (chosen_value c)))) (λ (c : ChosenService). nat_lt 1021 (pmt_section_length_of c.pmt.now)) (λ c. ap (nat_lt 1021) (pmt_length r (chosen_value c))) chosen in
    let rows : list_any (λ (c : ChosenValue). nat_lt rows_room (row_length (output_row c))) (map chosen_value chosen) ≡ list_any (λ (c : ChosenService). nat_lt rows_room (row_length c.row.now)) chosen =
    any_map (λ (c : ChosenValue). nat_lt rows_room (row_length (output_row c))) chosen_value chosen in
    let large = list_any (λ (c : ChosenValue). nat_lt rows_room (row_length (output_row c))) (map chosen_value chosen) in
    let first = list_any (λ (c : ChosenService). nat_lt 1021 (pmt_section_length_of c.pmt.now)) chosen in
    ap (λ b. (b || nit) || large) pmts ∙ ap (λ b. (first || nit) || b) rows

none_passes : {X : Type 0} (p : X → Bool) (xs : List X) → list_any p xs ≡ false → All (λ x. p x ≡ false) xs
none_passes p xs h = λ k d l. false_from_ne_true (p (get_or xs k d)) (λ t. both_ways (list_any p xs) h (list_any_at p xs k d l t))

-- where no test of a size passes, each size is within
all_within : {X : Type 0} (most : ℕ) (size : X → ℕ) (xs : List X) → list_any (λ x. nat_lt most (size x)) xs ≡ false → All (λ x. size x ≤ most) xs
all_within most size xs h =
    All-weaker (λ x. nat_lt most (size x) ≡ false) (λ x. size x ≤ most) (λ x f. ltb-false most (size x) f) xs (none_passes (λ x. nat_lt most (size x)) xs h)

-- what is not too large has room
pub has_room : (r : RequestValue) (chosen : List ChosenValue) → is_too_large r chosen ≡ false → HaveRoom r chosen
unfolding is_too_large
has_room r chosen h =
    let pmts = list_any (λ (c : ChosenValue). nat_lt 1021 (pmt_section_length_of (output_pmt r c))) chosen in
    let nit = nat_lt 1021 (nit_section_length_of (output_nit r chosen)) in
    let rows = list_any (λ (c : ChosenValue). nat_lt rows_room (row_length (output_row c))) chosen in
    let both = or_parts (pmts || nit) rows h in
    let first = or_parts pmts nit both.0 in
    record {
      pmts = all_within 1021 (λ (c : ChosenValue). pmt_section_length_of (output_pmt r c)) chosen first.0;
      nit = ltb-false 1021 (nit_section_length_of (output_nit r chosen)) first.1;
      rows = all_within rows_room (λ (c : ChosenValue). row_length (output_row c)) chosen both.1;
    }
