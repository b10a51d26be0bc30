-- The rows of the SDT in groups, one for each section.
use Rattle.std.proofs.Common.{arith, ◌≡◌, ℕ, ◌+◌, ◌-◌, ◌<◌, ◌≤◌, Bool, true, false, if◌then◌else◌, List, [], ◌∷◌, ◌++◌, length, map, sum, refl, sym, append_assoc, ⊎_elim, ◌⊎◌, inl, inr}
use Rattle.std.specs.Prelude.{nat_le}
use Rattle.std.specs.List.{All}
use Rattle.std.proofs.lemmas.Bool.{le-leb, lt-leb, cases_lt}
use Rattle.std.proofs.lemmas.List.Elements.{All-nil, All-cons, All-head, All-tail, All-same, All-map}
use Rattle.std.proofs.lemmas.List.Sums.{sum-map, sum_by-append}
use Rattle.tables.specs.declared.sdt_row.SdtRow.{SdtRow}
use Rattle.tables.specs.Sdt.{SdtValue, sdt_section_length_of, rows_room}
use Rattle.request.specs.Request.{RequestValue}
use Rattle.selection.specs.Chosen.{ChosenValue}
use Rattle.output_tables.specs.Room.{AreInRoom}
use Rattle.output_tables.specs.Output.{row_length, sdt_groups, sdt_groups_behind, sdt_section, numbered_sections, output_row, output_sdt}

-- a row that has room goes to the group
pub row_put : (groups : List (List SdtRow)) (group : List SdtRow) (row : SdtRow) (rows : List SdtRow) → sum (map row_length group) + row_length row ≤ rows_room → groups ++ sdt_groups_behind group (row ∷ rows) ≡ groups ++ sdt_groups_behind (group ++ row ∷ []) rows
row_put groups group row rows h =
    let t : nat_le (sum (map row_length group) + row_length row) rows_room ≡ true = le-leb _ _ h in
    rw t refl

-- and one that has no room begins another
pub row_begins : (groups : List (List SdtRow)) (group : List SdtRow) (row : SdtRow) (rows : List SdtRow) → rows_room < sum (map row_length group) + row_length row → groups ++ sdt_groups_behind group (row ∷ rows) ≡ (groups ++ group ∷ []) ++ sdt_groups_behind ([] ++ row ∷ []) rows
row_begins groups group row rows h =
    let t : nat_le (sum (map row_length group) + row_length row) rows_room ≡ false = lt-leb _ _ h in
    rw t (sym (append_assoc groups (group ∷ []) (sdt_groups_behind (row ∷ []) rows)))

-- the first row goes to a group of none
pub begun : (rows : List SdtRow) → 0 < length rows → All (λ (row : SdtRow). row_length row ≤ rows_room) rows → sdt_groups_behind [] rows ≡ sdt_groups rows
begun [] l h = absurd (omega arith)
begun (row ∷ rows) l h =
    let first : row_length row ≤ rows_room = All-head (λ (r : SdtRow). row_length r ≤ rows_room) row rows h in
    let t : nat_le (sum (map row_length []) + row_length row) rows_room ≡ true = le-leb _ _ (omega arith) in
    rw t refl

-- the rows of a group, one more
pub sum_push : (group : List SdtRow) (row : SdtRow) → sum (map row_length (group ++ row ∷ [])) ≡ sum (map row_length group) + row_length row
sum_push group row =
    let a = sum-map row_length (group ++ row ∷ []) in
    let b = sum_by-append row_length group (row ∷ []) in
    let d = sum-map row_length group in
    omega arith

-- no more groups than rows
behind_few : (group rows : List SdtRow) → length (sdt_groups_behind group rows) ≤ 1 + length rows
behind_few group [] = omega arith
behind_few group (row ∷ rows) =
    either (nat_le (sum (map row_length group) + row_length row) rows_room) (sdt_groups_behind (group ++ row ∷ []) rows) (group ∷ sdt_groups_behind (row ∷ []) rows) (1 + length (row ∷ rows))
    (let h = behind_few (group ++ row ∷ []) rows in omega arith)
    (let h = behind_few (row ∷ []) rows in omega arith)
  where
    either : (b : Bool) (xs ys : List (List SdtRow)) (n : ℕ) → length xs ≤ n → length ys ≤ n → length (if b then xs else ys) ≤ n
    either true xs ys n h k = h
    either false xs ys n h k = k

pub groups_few : (rows : List SdtRow) → length (sdt_groups rows) ≤ length rows
groups_few [] = omega arith
groups_few (row ∷ rows) = let h = behind_few (row ∷ []) rows in omega arith

pub groups_some : (rows : List SdtRow) → 0 < length rows → 0 < length (sdt_groups rows)
groups_some [] h = h
groups_some (row ∷ rows) h = behind_some (row ∷ []) rows
  where
    either : (b : Bool) (xs ys : List (List SdtRow)) → 0 < length xs → 0 < length ys → 0 < length (if b then xs else ys)
    either true xs ys h k = h
    either false xs ys h k = k

    behind_some : (group rows : List SdtRow) → 0 < length (sdt_groups_behind group rows)
    behind_some group [] = omega arith
    behind_some group (row ∷ rows) =
        either (nat_le (sum (map row_length group) + row_length row) rows_room) (sdt_groups_behind (group ++ row ∷ []) rows) (group ∷ sdt_groups_behind (row ∷ []) rows) (behind_some (group ++ row ∷ []) rows) (omega arith)

abbrev GroupFits : List SdtRow → Type 0
GroupFits group = sum (map row_length group) ≤ rows_room

abbrev RowFits : SdtRow → Type 0
RowFits row = row_length row ≤ rows_room

-- each group has room in a section
behind_fits : (group rows : List SdtRow) → GroupFits group → All RowFits rows → All GroupFits (sdt_groups_behind group rows)
behind_fits group [] g h = All-cons GroupFits group [] g (All-nil GroupFits)
behind_fits group (row ∷ rows) g h =
    ⊎_elim
    (λ (l : sum (map row_length group) + row_length row ≤ rows_room).
    let t : nat_le (sum (map row_length group) + row_length row) rows_room ≡ true = le-leb _ _ l in
    let e : sdt_groups_behind group (row ∷ rows) ≡ sdt_groups_behind (group ++ row ∷ []) rows = rw t refl in
    let fits : GroupFits (group ++ row ∷ []) = let p = sum_push group row in omega arith in
    All-same GroupFits (sdt_groups_behind group (row ∷ rows)) (sdt_groups_behind (group ++ row ∷ []) rows) e (behind_fits (group ++ row ∷ []) rows fits (All-tail RowFits row rows h)))
    (λ (l : rows_room < sum (map row_length group) + row_length row).
    let t : nat_le (sum (map row_length group) + row_length row) rows_room ≡ false = lt-leb _ _ l in
    let e : sdt_groups_behind group (row ∷ rows) ≡ group ∷ sdt_groups_behind (row ∷ []) rows = rw t refl in
    let one : RowFits row = All-head RowFits row rows h in
    let fits : GroupFits (row ∷ []) = omega arith in
    All-same GroupFits (sdt_groups_behind group (row ∷ rows)) (group ∷ sdt_groups_behind (row ∷ []) rows) e (All-cons GroupFits group (sdt_groups_behind (row ∷ []) rows) g (behind_fits (row ∷ []) rows fits (All-tail RowFits row rows h))))
    (le_or_lt (sum (map row_length group) + row_length row) rows_room)
  where
    le_or_lt : (a b : ℕ) → (a ≤ b) ⊎ (b < a)
    le_or_lt a b = ⊎_elim (λ h. inr h) (λ h. inl h) (cases_lt b a)

groups_fit : (rows : List SdtRow) → All RowFits rows → All GroupFits (sdt_groups rows)
groups_fit [] h = All-nil GroupFits
groups_fit (row ∷ rows) h =
    let one : RowFits row = All-head RowFits row rows h in
    behind_fits (row ∷ []) rows (omega arith) (All-tail RowFits row rows h)

abbrev SectionFits : SdtValue → Type 0
SectionFits v = sdt_section_length_of v ≤ 1021

numbered_fit : (r : RequestValue) (last number : ℕ) (groups : List (List SdtRow)) → All GroupFits groups → All SectionFits (numbered_sections r last number groups)
numbered_fit r last number [] h = All-nil SectionFits
numbered_fit r last number (group ∷ groups) h =
    let one : GroupFits group = All-head GroupFits group groups h in
    let fits : SectionFits (sdt_section r last number group) = omega arith in
    All-cons SectionFits (sdt_section r last number group) (numbered_sections r last (number + 1) groups) fits (numbered_fit r last (number + 1) groups (All-tail GroupFits group groups h))

-- each section of the output's SDT has room
pub sdt_fits : (r : RequestValue) (chosen : List ChosenValue) → AreInRoom chosen → All (λ v. sdt_section_length_of v ≤ 1021) (output_sdt r chosen)
sdt_fits r chosen h =
    let groups = sdt_groups (map output_row chosen) in
    numbered_fit r (length groups - 1) 0 groups (groups_fit (map output_row chosen) (All-map RowFits output_row chosen h))
