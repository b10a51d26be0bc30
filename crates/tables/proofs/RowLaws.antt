-- Rows whose descriptors stand behind their length.
use Rattle.std.proofs.Common.{◌≡◌, ℕ, zero, suc, ◌+◌, ◌-◌, ◌*◌, ◌/◌, ◌%◌, ◌^◌, ◌<◌, ◌≤◌, List, [], ◌∷◌, ◌++◌, length, get_or, take, drop, map, refl, sym, ◌∙◌, ap, arith, Option, Some, None, option_map, Bool, true, false, ◌&&◌, leb, IsSome, IfSome, if◌then◌else◌, subst}
use Rattle.std.proofs.lemmas.List.Elements.{All-cons, All-nil}
use Rattle.std.specs.List.{All, flat_map}
use Rattle.std.proofs.lemmas.List.{drop-drop, length-drop, length-append, take_at, drop_at, append_assoc, get_or_append_left, nil_from_length}
use Rattle.std.proofs.lemmas.Bool.Decides.{nat_tests}
use Rattle.tspkt.specs.Bits.{field}
use Rattle.tspkt.proofs.BitLaws.{field_in_byte, field_and_byte, field_same, bit_same}
use Rattle.tables.specs.Descriptors.{are_whole}
use Rattle.tables.specs.Rows.{RowParts, loop_length_of, has_whole_loop, first_row, rows_of}

-- the length in a head, by its last two bytes
pub loop_length_at : (h : ℕ) (b : List ℕ) → 2 ≤ h → loop_length_of h b ≡ get_or b (h - 2) 0 % 16 * 256 + get_or b (h - 1) 0 % 256
loop_length_at h b l =
    let place : 8 * h - 12 ≡ 8 * (h - 2) + 4 = omega arith in
    let high : field b (8 * h - 12) 4 ≡ get_or b (h - 2) 0 / 2 ^ 0 % 2 ^ 4 = ap (λ (n : ℕ). field b n 4) place ∙ field_in_byte b (h - 2) 4 4 (omega arith) in
    let both : field b (8 * h - 12) 12 ≡ field b (8 * h - 12) 4 * 256 + get_or b (h - 1) 0 % 256 = field_and_byte b (8 * h - 12) 4 (h - 1) (omega arith) in
    omega (arith, high, both)

-- ---- a row, and those behind it

pub rows_passed : (h skip j : ℕ) (bytes : List ℕ) → j ≤ skip → j ≤ length bytes → rows_of h skip bytes ≡ rows_of h (skip - j) (drop j bytes)
unfolding rows_of
rows_passed h skip zero bytes a b = ap (λ (n : ℕ). rows_of h n bytes) (omega arith)
rows_passed h zero (suc j) bytes a b = absurd (omega arith)
rows_passed h (suc skip) (suc j) [] a b = absurd (omega arith)
rows_passed h (suc skip) (suc j) (x ∷ bytes) a b = rows_passed h skip j bytes (omega arith) (omega arith) ∙ ap (λ (n : ℕ). rows_of h n (drop j bytes)) (omega arith)

pub whole_long : (h : ℕ) (bytes : List ℕ) → has_whole_loop h bytes ≡ true → h + loop_length_of h bytes ≤ length bytes
unfolding has_whole_loop
whole_long h bytes w = grind (arith, nat_tests)

pub whole_cut : (h : ℕ) (bytes : List ℕ) → length bytes < h + loop_length_of h bytes → has_whole_loop h bytes ≡ false
unfolding has_whole_loop
whole_cut h bytes l =
    let first : leb (h + loop_length_of h bytes) (length bytes) ≡ false = grind (arith, nat_tests) in
    rw first refl

both_false : (a b : Bool) → (a && (b && false)) ≡ false
both_false true true = refl
both_false true false = refl
both_false false b = refl

pub whole_bad : (h : ℕ) (bytes : List ℕ) → are_whole 0 (take (loop_length_of h bytes) (drop h bytes)) ≡ false → has_whole_loop h bytes ≡ false
unfolding has_whole_loop
whole_bad h bytes w = rw w (both_false _ _)

pub whole_good : (h : ℕ) (bytes : List ℕ) → h + loop_length_of h bytes ≤ length bytes → are_whole 0 (take (loop_length_of h bytes) (drop h bytes)) ≡ true → has_whole_loop h bytes ≡ true
unfolding has_whole_loop
whole_good h bytes l w =
    let first : leb (h + loop_length_of h bytes) (length bytes) ≡ true = grind (arith, nat_tests) in
    let second : leb h (length bytes) ≡ true = grind (arith, nat_tests) in
    rw (first, second, w) refl

pub not_true : (b : Bool) → (b ≡ true → false ≡ true) → b ≡ false
not_true true f = let e = f refl in cc
not_true false f = refl

-- no bytes are no rows
pub rows_none : (h : ℕ) → rows_of h 0 [] ≡ Some []
unfolding rows_of
rows_none h = refl

-- bytes that begin with a row
pub rows_first : (h : ℕ) (bytes : List ℕ) → 1 ≤ h → has_whole_loop h bytes ≡ true → rows_of h 0 bytes ≡ option_map (λ rows. first_row h bytes ∷ rows) (rows_of h 0 (drop (h + loop_length_of h bytes) bytes))
unfolding rows_of
rows_first h [] l w = let e = whole_long h [] w in absurd (omega arith)
rows_first h (b ∷ bytes) l w =
    let n = loop_length_of h (b ∷ bytes) in
    let long = whole_long h (b ∷ bytes) w in
    let all : h - 1 + n + 1 ≡ h + n = omega arith in
    let place : suc (h - 1 + n) ≡ h + n = omega arith in
    let over : h - 1 + n - (h - 1 + n) ≡ 0 = omega arith in
    let passed : rows_of h (h - 1 + n) bytes ≡ rows_of h 0 (drop (h + n) (b ∷ bytes)) =
    rows_passed h (h - 1 + n) (h - 1 + n) bytes (omega arith) (omega arith)
    ∙ ap (λ (k : ℕ). rows_of h k (drop (h - 1 + n) bytes)) over
    ∙ ap (λ (k : ℕ). rows_of h 0 (drop k (b ∷ bytes))) place in
    rw w (ap (option_map (λ rows. first_row h (b ∷ bytes) ∷ rows)) passed)

-- bytes that begin with none
pub rows_bad : (h : ℕ) (bytes : List ℕ) → 0 < length bytes → has_whole_loop h bytes ≡ false → rows_of h 0 bytes ≡ None
unfolding rows_of
rows_bad h [] l w = absurd (omega arith)
rows_bad h (b ∷ bytes) l w = rw w refl

-- ---- rows that are written are read

-- the parts of a row as it is written: the length in its head is that of its descriptors, which are whole
pub record IsWritten (h : ℕ) (row : RowParts) : Type 0 where
  pub head : length row.head ≡ h
  pub descriptors_length : loop_length_of h row.head ≡ length row.descriptors
  pub descriptors : are_whole 0 row.descriptors ≡ true

-- a field within the bytes in front
pub field_in_front : (a b : List ℕ) (first w : ℕ) → first + w ≤ 8 * length a → field (a ++ b) first w ≡ field a first w
field_in_front a b first w h = field_same (a ++ b) a first w (λ k l. bit_same (a ++ b) a (first + k) (get_or_append_left a b 0 ((first + k) / 8) (omega arith)))

loop_length_back : (h : ℕ) (row : RowParts) (rest : List ℕ) → 2 ≤ h → IsWritten h row → loop_length_of h (row.head ++ (row.descriptors ++ rest)) ≡ length row.descriptors
loop_length_back h row rest l w = field_in_front row.head (row.descriptors ++ rest) (8 * h - 12) 12 (omega (arith, w.head)) ∙ w.descriptors_length

behind_back : (h : ℕ) (row : RowParts) (rest : List ℕ) → 2 ≤ h → IsWritten h row → take (loop_length_of h (row.head ++ (row.descriptors ++ rest))) (drop h (row.head ++ (row.descriptors ++ rest))) ≡ row.descriptors
behind_back h row rest l w =
    let all = row.head ++ (row.descriptors ++ rest) in
    ap (λ (n : ℕ). take n (drop h all)) (loop_length_back h row rest l w)
    ∙ ap (take (length row.descriptors)) (drop_at row.head (row.descriptors ++ rest) h w.head)
    ∙ take_at row.descriptors rest (length row.descriptors) refl

pub whole_back : (h : ℕ) (row : RowParts) (rest : List ℕ) → 2 ≤ h → IsWritten h row → has_whole_loop h (row.head ++ (row.descriptors ++ rest)) ≡ true
unfolding has_whole_loop
whole_back h row rest l w =
    let all = row.head ++ (row.descriptors ++ rest) in
    let n = loop_length_back h row rest l w in
    let long : length all ≡ h + length row.descriptors + length rest = omega (arith, w.head, length-append row.head (row.descriptors ++ rest), length-append row.descriptors rest) in
    let first : leb (h + loop_length_of h all) (length all) ≡ true = grind (arith, nat_tests) in
    let second : leb h (length all) ≡ true = grind (arith, nat_tests) in
    let third : are_whole 0 (take (loop_length_of h all) (drop h all)) ≡ true = ap (are_whole 0) (behind_back h row rest l w) ∙ w.descriptors in
    rw (first, second, third) refl

pub first_row_back : (h : ℕ) (row : RowParts) (rest : List ℕ) → 2 ≤ h → IsWritten h row → first_row h (row.head ++ (row.descriptors ++ rest)) ≡ row
first_row_back h row rest l w =
    let head = take_at row.head (row.descriptors ++ rest) h w.head in
    let behind = behind_back h row rest l w in
    rw (head, behind) refl

pub rest_back : (h : ℕ) (row : RowParts) (rest : List ℕ) → 2 ≤ h → IsWritten h row → drop (h + loop_length_of h (row.head ++ (row.descriptors ++ rest))) (row.head ++ (row.descriptors ++ rest)) ≡ rest
rest_back h row rest l w =
    let all = row.head ++ (row.descriptors ++ rest) in
    ap (λ (k : ℕ). drop (h + k) all) (loop_length_back h row rest l w)
    ∙ sym (drop-drop (length row.descriptors) h all)
    ∙ ap (drop (length row.descriptors)) (drop_at row.head (row.descriptors ++ rest) h w.head)
    ∙ drop_at row.descriptors rest (length row.descriptors) refl

-- a written row, and what stands behind it
pub row_read_back : (h : ℕ) (row : RowParts) (rest : List ℕ) → 2 ≤ h → IsWritten h row → rows_of h 0 (row.head ++ (row.descriptors ++ rest)) ≡ option_map (λ rows. row ∷ rows) (rows_of h 0 rest)
row_read_back h row rest l w =
    let all = row.head ++ (row.descriptors ++ rest) in
    rows_first h all (omega arith) (whole_back h row rest l w)
    ∙ ap (λ (r : RowParts). option_map (λ rows. r ∷ rows) (rows_of h 0 (drop (h + loop_length_of h all) all))) (first_row_back h row rest l w)
    ∙ ap (λ (b : List ℕ). option_map (λ rows. row ∷ rows) (rows_of h 0 b)) (rest_back h row rest l w)

-- written rows, by the parts and the bytes of each
pub rows_read_back : {R : Type 0} (h : ℕ) (parts : R → RowParts) (P : R → Type 0) (rows : List R) → 2 ≤ h → ((r : R) → P r → IsWritten h (parts r)) → All P rows → rows_of h 0 (flat_map (λ r. (parts r).head ++ (parts r).descriptors) rows) ≡ Some (map parts rows)
rows_read_back h parts P [] l f a = rows_none h
rows_read_back h parts P (r ∷ rows) l f a =
    let ih = rows_read_back h parts P rows l f (λ k d less. a (suc k) d (omega arith)) in
    let rest = flat_map (λ r. (parts r).head ++ (parts r).descriptors) rows in
    ap (rows_of h 0) (append_assoc (parts r).head (parts r).descriptors rest)
    ∙ row_read_back h (parts r) rest l (f r (a 0 r (omega arith)))
    ∙ ap (option_map (λ rows. parts r ∷ rows)) ih

-- ---- rows one at a time

one_more : (count : ℕ) (row : RowParts) (rest : Option (List RowParts)) → option_map (λ (rows : List RowParts). count + 1 + length rows) rest ≡ option_map (λ (rows : List RowParts). count + length rows) (option_map (λ rows. row ∷ rows) rest)
one_more count row None = refl
one_more count row (Some rows) = ap Some (omega arith)

-- one row more was counted
pub count_step : (h count : ℕ) (bytes rest : List ℕ) (all : Option ℕ) → 1 ≤ h → has_whole_loop h bytes ≡ true → rest ≡ drop (h + loop_length_of h bytes) bytes → option_map (λ (rows : List RowParts). count + length rows) (rows_of h 0 bytes) ≡ all → option_map (λ (rows : List RowParts). count + 1 + length rows) (rows_of h 0 rest) ≡ all
count_step h count bytes rest all l w e before =
    ap (λ (b : List ℕ). option_map (λ (rows : List RowParts). count + 1 + length rows) (rows_of h 0 b)) e
    ∙ one_more count (first_row h bytes) (rows_of h 0 (drop (h + loop_length_of h bytes) bytes))
    ∙ ap (option_map (λ (rows : List RowParts). count + length rows)) (sym (rows_first h bytes l w))
    ∙ before

-- what is left is shorter
pub rest_shorter : (h : ℕ) (bytes rest : List ℕ) → 1 ≤ h → has_whole_loop h bytes ≡ true → rest ≡ drop (h + loop_length_of h bytes) bytes → length rest + 1 ≤ length bytes
rest_shorter h bytes rest l w e = let n = whole_long h bytes w in let m = ap length e ∙ length-drop (h + loop_length_of h bytes) bytes in omega arith

-- no row is left
pub count_end : (h count : ℕ) (bytes : List ℕ) (all : Option ℕ) → length bytes ≡ 0 → option_map (λ (rows : List RowParts). count + length rows) (rows_of h 0 bytes) ≡ all → Some count ≡ all
count_end h count bytes all e before =
    let zero : Some count ≡ Some (count + 0) = ap Some (omega arith) in
    zero
    ∙ ap (option_map (λ (rows : List RowParts). count + length rows)) (sym (ap (rows_of h 0) (nil_from_length bytes e) ∙ rows_none h))
    ∙ before

-- what is left is no row
pub count_bad : (h count : ℕ) (bytes : List ℕ) (all : Option ℕ) → 0 < length bytes → (has_whole_loop h bytes ≡ true → false ≡ true) → option_map (λ (rows : List RowParts). count + length rows) (rows_of h 0 bytes) ≡ all → None ≡ all
count_bad h count bytes all l f before =
    ap (option_map (λ (rows : List RowParts). count + length rows)) (sym (rows_bad h bytes l (not_true (has_whole_loop h bytes) f)))
    ∙ before

-- rows of which some function is known are there
pub some_from_map : {A B : Type 0} (f : A → B) (o : Option A) (x : B) → option_map f o ≡ Some x → IsSome o
some_from_map f None x e = absurd (let g : None ≡ Some x = e in cc)
some_from_map f (Some a) x e = refl

-- the descriptors of a row are whole
and_last : (a b c : Bool) → (a && (b && c)) ≡ true → c ≡ true
and_last true true c e = e
and_last true false c e = absurd (let f : false ≡ true = e in cc)
and_last false b c e = absurd (let f : false ≡ true = e in cc)

pub whole_descriptors : (h : ℕ) (bytes : List ℕ) → has_whole_loop h bytes ≡ true → are_whole 0 (take (loop_length_of h bytes) (drop h bytes)) ≡ true
unfolding has_whole_loop
whole_descriptors h bytes w = and_last _ _ _ w

module _ {R : Type 0} (h : ℕ) (of : RowParts → R) (P : R → Type 0) (f : (row : RowParts) → are_whole 0 row.descriptors ≡ true → P (of row)) where
  one_all : (row : RowParts) (rest : Option (List RowParts)) → P (of row) → IfSome rest (λ rows. All P (map of rows)) → IfSome (option_map (λ rows. row ∷ rows) rest) (λ rows. All P (map of rows))
  one_all row None p a = tt
  one_all row (Some rows) p a = All-cons P (of row) (map of rows) p a

  step_all : (w : Bool) (bytes : List ℕ) (rest : Option (List RowParts)) → has_whole_loop h bytes ≡ w → IfSome rest (λ rows. All P (map of rows)) → IfSome (if w then option_map (λ rows. first_row h bytes ∷ rows) rest else None) (λ rows. All P (map of rows))
  step_all true bytes rest e a = one_all (first_row h bytes) rest (f (first_row h bytes) (whole_descriptors h bytes e)) a
  step_all false bytes rest e a = tt

  all_rows : (skip : ℕ) (bytes : List ℕ) → IfSome (rows_of h skip bytes) (λ rows. All P (map of rows))
  unfolding rows_of
  all_rows zero [] = All-nil P
  all_rows (suc skip) [] = tt
  all_rows (suc skip) (b ∷ bytes) = all_rows skip bytes
  all_rows zero (b ∷ bytes) =
      let n = h - 1 + loop_length_of h (b ∷ bytes) in
      step_all (has_whole_loop h (b ∷ bytes)) (b ∷ bytes) (rows_of h n bytes) refl (all_rows n bytes)

  from_all : (rows : List R) (o : Option (List RowParts)) → IfSome o (λ more. All P (map of more)) → option_map (map of) o ≡ Some rows → All P rows
  from_all rows None a e = absurd (let g : None ≡ Some rows = e in cc)
  from_all rows (Some l) a e = let g : map of l ≡ rows = cc in subst (All P) g a

  -- what is true of each row with whole descriptors is true of each row that is read
  pub rows_all : (bytes : List ℕ) (rows : List R) → option_map (map of) (rows_of h 0 bytes) ≡ Some rows → All P rows
  rows_all bytes rows e = from_all rows (rows_of h 0 bytes) (all_rows 0 bytes) e
