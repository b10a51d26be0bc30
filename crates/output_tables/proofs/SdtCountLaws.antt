-- How many packets the output's tables take, by the services as they lie in memory.
use Rattle.std.proofs.Common.{arith, ◌≡◌, ℕ, ◌+◌, ◌<◌, ◌≤◌, ◌-◌, Bool, true, false, if◌then◌else◌, List, [], ◌∷◌, ◌++◌, length, map, sum, nat_le, refl, sym, ap, ◌∙◌}
use Rattle.std.proofs.lemmas.List.Elements.{All-map}
use Rattle.std.proofs.lemmas.Bool.{le-leb, lt-leb}
use Rattle.std.proofs.lemmas.List.Sums.{sum-map, sum_by-cons}
use Rattle.tables.specs.declared.sdt_row.SdtRow.{SdtRow}
use Rattle.tables.specs.Sdt.{SdtValue, sdt_section_length_of, rows_room}
use Rattle.tables.specs.Pmt.{pmt_section_length_of}
use Rattle.request.specs.Request.{RequestValue}
use Rattle.selection.specs.declared.chosen_service.ChosenService.{ChosenService}
use Rattle.selection.specs.Chosen.{ChosenValue}
use Rattle.selection.specs.ChosenView.{chosen_value}
use Rattle.output_tables.specs.Room.{AreInRoom}
use Rattle.output_tables.specs.Output.{row_length, sdt_groups, sdt_groups_behind, sdt_section, numbered_sections, output_row, output_sdt, output_pmt, packets_for, group_count, sdt_count}
use Rattle.output_tables.proofs.GroupLaws.{begun, sum_push}
use Rattle.output_tables.proofs.RoomLaws.{pmt_length}

sum_cons : {X : Type 0} (f : X → ℕ) (x : X) (xs : List X) → sum (map f (x ∷ xs)) ≡ f x + sum (map f xs)
sum_cons f x xs = let whole = sum-map f (x ∷ xs) in let less = sum-map f xs in let cons = sum_by-cons f x xs in omega arith

-- the packets of a service's PMT
abbrev pub pmt_packets : ChosenService → ℕ
pmt_packets c = packets_for (pmt_section_length_of c.pmt.now)

-- those of the PMTs
pub pmts_counted : (r : RequestValue) (chosen : List ChosenService) → sum (map (λ (c : ChosenValue). packets_for (pmt_section_length_of (output_pmt r c))) (map chosen_value chosen)) ≡ sum (map pmt_packets chosen)
pmts_counted r [] = refl
pmts_counted r (c ∷ chosen) =
    let f : ChosenValue → ℕ = λ v. packets_for (pmt_section_length_of (output_pmt r v)) in
    sum_cons f (chosen_value c) (map chosen_value chosen)
    ∙ ap (λ (n : ℕ). n + sum (map f (map chosen_value chosen))) (ap packets_for (pmt_length r (chosen_value c)))
    ∙ ap (λ (n : ℕ). pmt_packets c + n) (pmts_counted r chosen)
    ∙ sym (sum_cons pmt_packets c chosen)

-- the packets of the sections of these rows, the first of which has so many bytes of rows before them
unfoldable pub count_behind : ℕ → List SdtRow → ℕ
count_behind used [] = packets_for (12 + used)
count_behind used (row ∷ rows) =
    if nat_le (used + row_length row) rows_room then count_behind (used + row_length row) rows
    else packets_for (12 + used) + count_behind (row_length row) rows

-- a row that has room
pub row_counts : (used : ℕ) (row : SdtRow) (rows : List SdtRow) → used + row_length row ≤ rows_room → count_behind used (row ∷ rows) ≡ count_behind (used + row_length row) rows
unfolding count_behind
row_counts used row rows h = let t : nat_le (used + row_length row) rows_room ≡ true = le-leb _ _ h in rw t refl

-- and one that has none
pub row_counts_anew : (used : ℕ) (row : SdtRow) (rows : List SdtRow) → rows_room < used + row_length row → count_behind used (row ∷ rows) ≡ packets_for (12 + used) + count_behind (row_length row) rows
unfolding count_behind
row_counts_anew used row rows h = let t : nat_le (used + row_length row) rows_room ≡ false = lt-leb _ _ h in rw t refl

pub none_counts : (used : ℕ) → count_behind used [] ≡ packets_for (12 + used)
unfolding count_behind
none_counts used = refl

-- the groups behind one are counted with it
groups_counted : (group rows : List SdtRow) → sum (map group_count (sdt_groups_behind group rows)) ≡ count_behind (sum (map row_length group)) rows
unfolding count_behind
groups_counted group [] = sum_cons group_count group [] ∙ (let z : group_count group + 0 ≡ group_count group = omega arith in z)
groups_counted group (row ∷ rows) =
    either (nat_le (sum (map row_length group) + row_length row) rows_room)
    (sdt_groups_behind (group ++ row ∷ []) rows) (group ∷ sdt_groups_behind (row ∷ []) rows)
    (count_behind (sum (map row_length group) + row_length row) rows) (group_count group + count_behind (row_length row) rows)
    (groups_counted (group ++ row ∷ []) rows ∙ ap (λ (n : ℕ). count_behind n rows) (sum_push group row))
    (sum_cons group_count group (sdt_groups_behind (row ∷ []) rows)
    ∙ ap (λ (n : ℕ). group_count group + n) (groups_counted (row ∷ []) rows ∙ ap (λ (n : ℕ). count_behind n rows) (let one = sum_cons row_length row [] in let z : sum (map row_length (row ∷ [])) ≡ row_length row = omega arith in z)))
  where
    either : (b : Bool) (xs ys : List (List SdtRow)) (m n : ℕ) → sum (map group_count xs) ≡ m → sum (map group_count ys) ≡ n → sum (map group_count (if b then xs else ys)) ≡ (if b then m else n)
    either true xs ys m n h k = h
    either false xs ys m n h k = k

-- the SDT's packets
pub sdt_counted : (chosen : List ChosenValue) → 0 < length (map output_row chosen) → AreInRoom chosen → count_behind 0 (map output_row chosen) ≡ sdt_count chosen
sdt_counted chosen some h =
    let rows = map output_row chosen in
    let room = All-map (λ (row : SdtRow). row_length row ≤ rows_room) output_row chosen h in
    sym (groups_counted [] rows) ∙ ap (λ (g : List (List SdtRow)). sum (map group_count g)) (begun rows some room)

numbered_counted : (r : RequestValue) (last number : ℕ) (groups : List (List SdtRow)) → sum (map (λ (s : SdtValue). packets_for (sdt_section_length_of s)) (numbered_sections r last number groups)) ≡ sum (map group_count groups)
numbered_counted r last number [] = refl
numbered_counted r last number (group ∷ groups) =
    sum_cons (λ (s : SdtValue). packets_for (sdt_section_length_of s)) (sdt_section r last number group) (numbered_sections r last (number + 1) groups)
    ∙ ap (λ (n : ℕ). group_count group + n) (numbered_counted r last (number + 1) groups)
    ∙ sym (sum_cons group_count group groups)

-- by its sections
pub sections_counted : (r : RequestValue) (chosen : List ChosenValue) → sum (map (λ (s : SdtValue). packets_for (sdt_section_length_of s)) (output_sdt r chosen)) ≡ sdt_count chosen
sections_counted r chosen = let groups = sdt_groups (map output_row chosen) in numbered_counted r (length groups - 1) 0 groups
