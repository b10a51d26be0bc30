-- Rows that are read one at a time, after they were counted.
use Rattle.std.proofs.Common.{◌≡◌, Bool, ◌&&◌, take, ℕ, suc, ◌+◌, ◌<◌, ◌≤◌, List, [], ◌∷◌, ◌++◌, length, drop, map, refl, sym, ◌∙◌, ap, arith, Option, Some, None, option_map, true, false, length-append, rules}
use Rattle.std.proofs.lemmas.List.{append_assoc, append-nil, length-take}
use Rattle.tables.specs.Descriptors.{are_whole}
use Rattle.tables.specs.Rows.{RowParts, loop_length_of, has_whole_loop, first_row, rows_of}
use Rattle.tables.proofs.RowLaws.{rows_first, rows_none, rows_bad, whole_long}

-- these rows were read, and these bytes are left
pub record IsFilling {R : Type 0} (h : ℕ) (row_of : RowParts → R) (bytes : List ℕ) (count : ℕ) (rest : List ℕ) (rows : List R) : Type 0 where
  pub items : option_map (λ more. rows ++ map row_of more) (rows_of h 0 rest) ≡ option_map (map row_of) (rows_of h 0 bytes)
  pub left : option_map (λ (more : List RowParts). length rows + length more) (rows_of h 0 rest) ≡ Some count

none_yet : (all : Option (List RowParts)) (n count : ℕ) → n ≡ 0 → option_map length all ≡ Some count → option_map (λ (more : List RowParts). n + length more) all ≡ Some count
none_yet None n count z e = e
none_yet (Some rows) n count z e = ap Some (omega arith) ∙ e

pub filling_begun : {R : Type 0} (h : ℕ) (row_of : RowParts → R) (bytes : List ℕ) (count : ℕ) (rows : List R) → rows ≡ [] → option_map length (rows_of h 0 bytes) ≡ Some count → IsFilling h row_of bytes count bytes rows
filling_begun {R} h row_of bytes count rows e counted = record {
  items = ap (λ (l : List R). option_map (λ more. l ++ map row_of more) (rows_of h 0 bytes)) e;
  left = none_yet (rows_of h 0 bytes) (length rows) count (ap length e) counted;
}

room_of : (n count : ℕ) (p : RowParts) (rest : Option (List RowParts)) → option_map (λ (more : List RowParts). n + length more) (option_map (λ more. p ∷ more) rest) ≡ Some count → n < count
room_of n count p None e = cc
room_of n count p (Some l) e = let same : n + suc (length l) ≡ count = cc in omega arith

pub filling_room : {R : Type 0} (h : ℕ) (row_of : RowParts → R) (bytes : List ℕ) (count : ℕ) (rest : List ℕ) (rows : List R) → IsFilling h row_of bytes count rest rows → 1 ≤ h → has_whole_loop h rest ≡ true → length rows < count
filling_room h row_of bytes count rest rows f l w =
    let behind = rows_of h 0 (drop (h + loop_length_of h rest) rest) in
    room_of (length rows) count (first_row h rest) behind (ap (option_map (λ (more : List RowParts). length rows + length more)) (sym (rows_first h rest l w)) ∙ f.left)

one_more : {R : Type 0} (row_of : RowParts → R) (rows new : List R) (p : RowParts) (rest : Option (List RowParts)) → new ≡ rows ++ row_of p ∷ [] → option_map (λ more. new ++ map row_of more) rest ≡ option_map (λ more. rows ++ map row_of more) (option_map (λ more. p ∷ more) rest)
one_more row_of rows new p None e = refl
one_more {R} row_of rows new p (Some l) e = ap Some (ap (λ (k : List R). k ++ map row_of l) e ∙ append_assoc rows (row_of p ∷ []) (map row_of l))

one_less : (n m : ℕ) (p : RowParts) (rest : Option (List RowParts)) → m ≡ n + 1 → option_map (λ (more : List RowParts). m + length more) rest ≡ option_map (λ (more : List RowParts). n + length more) (option_map (λ more. p ∷ more) rest)
one_less n m p None e = refl
one_less n m p (Some l) e = ap Some (omega arith)

pub filling_step : {R : Type 0} (h : ℕ) (row_of : RowParts → R) (bytes : List ℕ) (count : ℕ) (rest head descriptors behind : List ℕ) (rows new : List R) (r : R) → IsFilling h row_of bytes count rest rows → 1 ≤ h → has_whole_loop h rest ≡ true → head ≡ (first_row h rest).head → descriptors ≡ (first_row h rest).descriptors → behind ≡ drop (h + loop_length_of h rest) rest → r ≡ row_of (record { head = head; descriptors = descriptors }) → new ≡ rows ++ r ∷ [] → IsFilling h row_of bytes count behind new
filling_step {R} h row_of bytes count rest head descriptors behind rows new r f l w hd d b e' n =
    let p = first_row h rest in
    let parts : r ≡ row_of p = e' ∙ ap (λ (t : List ℕ). row_of (record { head = t; descriptors = descriptors })) hd ∙ ap (λ (t : List ℕ). row_of (record { head = take h rest; descriptors = t })) d in
    let left = rows_of h 0 (drop (h + loop_length_of h rest) rest) in
    let first = rows_first h rest l w in
    let same : rows_of h 0 behind ≡ left = ap (rows_of h 0) b in
    let made : new ≡ rows ++ row_of p ∷ [] = n ∙ ap (λ (x : R). rows ++ x ∷ []) parts in
    let longer : length new ≡ length rows + 1 = ap length made ∙ length-append rows (row_of p ∷ []) in
    record {
      items =
          ap (option_map (λ more. new ++ map row_of more)) same
          ∙ one_more row_of rows new p left made
          ∙ ap (option_map (λ more. rows ++ map row_of more)) (sym first)
          ∙ f.items;
      left =
          ap (option_map (λ (more : List RowParts). length new + length more)) same
          ∙ one_less (length rows) (length new) p left longer
          ∙ ap (option_map (λ (more : List RowParts). length rows + length more)) (sym first)
          ∙ f.left;
    }

pub filling_end : {R : Type 0} (h : ℕ) (row_of : RowParts → R) (bytes : List ℕ) (count : ℕ) (rest : List ℕ) (rows : List R) → IsFilling h row_of bytes count rest rows → has_whole_loop h rest ≡ false → option_map (map row_of) (rows_of h 0 bytes) ≡ Some rows
filling_end {R} h row_of bytes count [] rows f w =
    sym f.items
    ∙ ap (option_map (λ more. rows ++ map row_of more)) (rows_none h)
    ∙ ap Some (append-nil rows)
filling_end {R} h row_of bytes count (b ∷ rest) rows f w =
    let none = rows_bad h (b ∷ rest) (omega arith) w in
    let never : None ≡ Some count = sym (ap (option_map (λ (more : List RowParts). length rows + length more)) none) ∙ f.left in
    cc

count_of_some : (n count : ℕ) → Some (n + 0) ≡ Some count → count ≡ n
count_of_some n count e = search (rules, arith)

-- as many rows were read as were counted
pub filling_count : {R : Type 0} (h : ℕ) (row_of : RowParts → R) (bytes : List ℕ) (count : ℕ) (rest : List ℕ) (rows : List R) → IsFilling h row_of bytes count rest rows → has_whole_loop h rest ≡ false → count ≡ length rows
filling_count {R} h row_of bytes count [] rows f w =
    count_of_some (length rows) count (sym (ap (option_map (λ (more : List RowParts). length rows + length more)) (rows_none h)) ∙ f.left)
filling_count {R} h row_of bytes count (b ∷ rest) rows f w =
    let none = rows_bad h (b ∷ rest) (omega arith) w in
    let never : None ≡ Some count = sym (ap (option_map (λ (more : List RowParts). length rows + length more)) none) ∙ f.left in
    cc

-- ---- the parts of a row that is there

pub head_long : (h : ℕ) (b head : List ℕ) → has_whole_loop h b ≡ true → head ≡ take h b → length head ≡ h
head_long h b head w e = let long = whole_long h b w in let n = ap length e ∙ length-take h b in omega arith

both_true : (x y z : Bool) → (x && (y && z)) ≡ true → z ≡ true
both_true true true z e = e
both_true true false z e = cc
both_true false y z e = cc

pub descriptors_whole : (h : ℕ) (b descriptors : List ℕ) → has_whole_loop h b ≡ true → descriptors ≡ take (loop_length_of h b) (drop h b) → are_whole 0 descriptors ≡ true
unfolding has_whole_loop
descriptors_whole h b descriptors w e = ap (are_whole 0) e ∙ both_true _ _ _ w
