-- An output PID that is there twice is that of two streams, of a stream and a PMT, or of two PMTs.
use Rattle.std.proofs.Common.{◌≡◌, ℤ, Bool, true, false, not, ◌||◌, ◌&&◌, List, [], ◌∷◌, ◌++◌, map, cond, refl, ap, ◌∙◌, sym}
use Rattle.std.specs.List.{list_any, filter}
use Rattle.std.specs.Ordering.{int_eq}
use Rattle.std.proofs.lemmas.List.Folds.{list_any-append}
use Rattle.request.proofs.ListLaws.{list_any-map}
use Rattle.request.specs.declared.stream_row.StreamRow.{StreamRow}
use Rattle.request.specs.Parts.{ServicePartsValue}
use Rattle.request.specs.Request.{has_same_source, without_repeats, rows_of, stream_rows_of, has_repeat, output_pids, are_at_odds, names_pid_twice, has_pid_twice}
use Rattle.request_causes.specs.Causes.{meet, pmts_of}

or_false : (a b : Bool) → (a || b) ≡ false → (a ≡ false) × (b ≡ false)
or_false true b h = cc
or_false false b h = (refl, h)

or_from : (a b : Bool) → a ≡ false → b ≡ false → (a || b) ≡ false
or_from true b e f = cc
or_from false b e f = f

-- what all rows fail, those that a filter keeps fail
kept_fail : {X : Type 0} (p keep : X → Bool) (x : X) (xs : List X) (b : Bool) → p x ≡ false → list_any p (filter keep xs) ≡ false → list_any p (cond b (x ∷ filter keep xs) (filter keep xs)) ≡ false
kept_fail p keep x xs true e f = or_from (p x) (list_any p (filter keep xs)) e f
kept_fail p keep x xs false e f = f

filter_fails : {X : Type 0} (p keep : X → Bool) (xs : List X) → list_any p xs ≡ false → list_any p (filter keep xs) ≡ false
filter_fails p keep [] h = refl
filter_fails p keep (x ∷ xs) h =
    let both = or_false (p x) (list_any p xs) h in
    kept_fail p keep x xs (keep x) both.0 (filter_fails p keep xs both.1)

streams_fail : (p : StreamRow → Bool) (rows : List StreamRow) → list_any p rows ≡ false → list_any p (without_repeats rows) ≡ false
unfolding without_repeats
streams_fail p [] h = refl
streams_fail p (row ∷ rows) h =
    let both = or_false (p row) (list_any p rows) h in
    or_from (p row) (list_any p (filter (λ other. not (has_same_source row other)) (without_repeats rows))) both.0
    (filter_fails p (λ other. not (has_same_source row other)) (without_repeats rows) (streams_fail p rows both.1))

-- what fails a test fails one that is as strict
any_weaker : {X : Type 0} (p q : X → Bool) → ((x : X) → p x ≡ false → q x ≡ false) → (xs : List X) → list_any p xs ≡ false → list_any q xs ≡ false
any_weaker p q k [] h = refl
any_weaker p q k (x ∷ xs) h =
    let both = or_false (p x) (list_any p xs) h in
    or_from (q x) (list_any q xs) (k x both.0) (any_weaker p q k xs both.1)

-- what is kept and passes is both
kept_step : {X : Type 0} (keep p : X → Bool) (x : X) (xs : List X) (b : Bool) → keep x ≡ b → (keep x && p x) ≡ false → list_any p (filter keep xs) ≡ false → list_any p (cond b (x ∷ filter keep xs) (filter keep xs)) ≡ false
kept_step keep p x xs true e h f =
    let fails : p x ≡ false = ap (λ t. t && p x) (sym e) ∙ h in
    or_from (p x) (list_any p (filter keep xs)) fails f
kept_step keep p x xs false e h f = f

kept_pass : {X : Type 0} (keep p : X → Bool) (xs : List X) → list_any (λ x. keep x && p x) xs ≡ false → list_any p (filter keep xs) ≡ false
kept_pass keep p [] h = refl
kept_pass keep p (x ∷ xs) h =
    let both = or_false (keep x && p x) (list_any (λ x. keep x && p x) xs) h in
    kept_step keep p x xs (keep x) refl both.0 (kept_pass keep p xs both.1)

-- numbers of which none is there twice, fewer of them
repeat_step : {X : Type 0} (f : X → ℤ) (keep : X → Bool) (x : X) (xs : List X) (b : Bool) → list_any (int_eq (f x)) (map f (filter keep xs)) ≡ false → has_repeat (map f (filter keep xs)) ≡ false
    → has_repeat (map f (cond b (x ∷ filter keep xs) (filter keep xs))) ≡ false
unfolding has_repeat
repeat_step f keep x xs true e h = or_from (list_any (int_eq (f x)) (map f (filter keep xs))) (has_repeat (map f (filter keep xs))) e h
repeat_step f keep x xs false e h = h

filter_repeats : {X : Type 0} (f : X → ℤ) (keep : X → Bool) (xs : List X) → has_repeat (map f xs) ≡ false → has_repeat (map f (filter keep xs)) ≡ false
unfolding has_repeat
filter_repeats f keep [] h = refl
filter_repeats f keep (x ∷ xs) h =
    let both = or_false (list_any (int_eq (f x)) (map f xs)) (has_repeat (map f xs)) h in
    let alone : list_any (int_eq (f x)) (map f (filter keep xs)) ≡ false =
    list_any-map (int_eq (f x)) f (filter keep xs)
    ∙ filter_fails (λ y. int_eq (f x) (f y)) keep xs (sym (list_any-map (int_eq (f x)) f xs) ∙ both.0) in
    repeat_step f keep x xs (keep x) alone (filter_repeats f keep xs both.1)

abbrev pub some_meet : List StreamRow → Bool
some_meet rows = list_any (λ a. list_any (meet a) rows) rows

-- streams of which no two meet
outs_repeat : (rows : List StreamRow) → some_meet rows ≡ false → has_repeat (map (λ (r : StreamRow). r.out) (without_repeats rows)) ≡ false
unfolding without_repeats has_repeat
outs_repeat [] h = refl
outs_repeat (row ∷ rows) h =
    let keep : StreamRow → Bool = λ other. not (has_same_source row other) in
    let streams = without_repeats rows in
    let both = or_false (list_any (meet row) (row ∷ rows)) (list_any (λ a. list_any (meet a) (row ∷ rows)) rows) h in
    let here = or_false (meet row row) (list_any (meet row) rows) both.0 in
    let later = any_weaker (λ a. list_any (meet a) (row ∷ rows)) (λ a. list_any (meet a) rows) (λ a e. (or_false (meet a row) (list_any (meet a) rows) e).1) rows both.1 in
    let alone : list_any (int_eq row.out) (map (λ (r : StreamRow). r.out) (filter keep streams)) ≡ false =
    list_any-map (int_eq row.out) (λ (r : StreamRow). r.out) (filter keep streams)
    ∙ kept_pass keep (λ (r : StreamRow). int_eq row.out r.out) streams (streams_fail (meet row) rows here.1) in
    or_from (list_any (int_eq row.out) (map (λ (r : StreamRow). r.out) (filter keep streams))) (has_repeat (map (λ (r : StreamRow). r.out) (filter keep streams))) alone
    (filter_repeats (λ (r : StreamRow). r.out) keep streams (outs_repeat rows later))

-- a repeat in two lists, of which the first has none and shares none with the second
repeat_behind : (xs ys : List ℤ) → has_repeat xs ≡ false → list_any (λ x. list_any (int_eq x) ys) xs ≡ false → has_repeat (xs ++ ys) ≡ has_repeat ys
unfolding has_repeat
repeat_behind [] ys a b = refl
repeat_behind (x ∷ xs) ys a b =
    let first = or_false (list_any (int_eq x) xs) (has_repeat xs) a in
    let second = or_false (list_any (int_eq x) ys) (list_any (λ y. list_any (int_eq y) ys) xs) b in
    let none : list_any (int_eq x) (xs ++ ys) ≡ false =
    list_any-append (int_eq x) xs ys ∙ or_from (list_any (int_eq x) xs) (list_any (int_eq x) ys) first.0 second.0 in
    ap (λ t. t || has_repeat (xs ++ ys)) none ∙ repeat_behind xs ys first.1 second.1

abbrev pub some_on_pmt : List ServicePartsValue → Bool
some_on_pmt services = list_any (λ (a : StreamRow). list_any (int_eq a.out) (pmts_of services)) (rows_of services)

-- where no two streams meet, and no stream is on a PMT's PID, two PMTs have one PID
pub pmts_repeat : (services : List ServicePartsValue) → has_repeat (output_pids services) ≡ true → some_meet (rows_of services) ≡ false → some_on_pmt services ≡ false → has_repeat (pmts_of services) ≡ true
pmts_repeat services h meets on =
    let outs = map (λ (r : StreamRow). r.out) (stream_rows_of services) in
    let apart : list_any (λ x. list_any (int_eq x) (pmts_of services)) outs ≡ false =
    list_any-map (λ x. list_any (int_eq x) (pmts_of services)) (λ (r : StreamRow). r.out) (stream_rows_of services)
    ∙ streams_fail (λ (a : StreamRow). list_any (int_eq a.out) (pmts_of services)) (rows_of services) on in
    sym (repeat_behind outs (pmts_of services) (outs_repeat (rows_of services) meets) apart) ∙ h

-- and what is left where no service names a PID twice, and no rows are at odds
left : (a b d : Bool) → ((a || b) || d) ≡ true → a ≡ false → b ≡ false → d ≡ true
left true b d h e f = cc
left false true d h e f = cc
left false false d h e f = h

pub outs_left : (services : List ServicePartsValue) → has_pid_twice services ≡ true → list_any names_pid_twice services ≡ false
    → list_any (λ a. list_any (are_at_odds a) (rows_of services)) (rows_of services) ≡ false → has_repeat (output_pids services) ≡ true
unfolding has_pid_twice
outs_left services h naming odds =
    left (list_any names_pid_twice services) (list_any (λ a. list_any (are_at_odds a) (rows_of services)) (rows_of services)) (has_repeat (output_pids services)) h naming odds
