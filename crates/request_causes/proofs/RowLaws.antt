-- Pairs of rows, and of a row and a PMT.
use Rattle.std.proofs.Common.{◌≡◌, ◌+◌, ◌<◌, arith, ℕ, ℤ, pos, Bool, true, false, List, [], ◌∷◌, ◌++◌, Some, None, map, slice_get, get_or, take, length, append_assoc, ap, ◌∙◌, sym, subst}
use Rattle.std.specs.Prelude.{find, option_map, option_and_then}
use Rattle.std.specs.List.{list_any, position_from}
use Rattle.std.specs.Ordering.{int_eq}
use Rattle.std.proofs.lemmas.Bool.Decides.{Decides-int_eq}
use Rattle.std.proofs.lemmas.Option.{slice_get-map, slice_get-get_or}
use Rattle.std.proofs.lemmas.List.{map_more}
use Rattle.request.specs.declared.service_parts.ServiceParts.{ServiceParts}
use Rattle.request.specs.declared.stream_parts.StreamParts.{StreamParts}
use Rattle.request.specs.declared.stream_row.StreamRow.{StreamRow}
use Rattle.request.specs.Parts.{ServicePartsValue, service_parts_value}
use Rattle.request.specs.Request.{row_of, rows_of}
use Rattle.request.proofs.ListLaws.{list_any-map, list_any_agree, map-append}
use Rattle.request_causes.specs.Causes.{AreBoth, IsPidCause, IsRowOf, AreRowsOf, stream_row, row_at, pmts_of, pids_of}
use Rattle.request_causes.specs.declared.pid_cause.PidCause.TheVariants.{NamedTwice}
use Rattle.request_causes.specs.declared.placed_row.PlacedRow.{PlacedRow}
use Rattle.request_causes.proofs.FindLaws.{has_other, pairs_are, found_holds, found_passes, passes_at, none_of, one_of}

-- the two rows that were found
pub pair_is : (test : StreamRow → StreamRow → Bool) (services : List ServicePartsValue) (rows : List PlacedRow) (a b : PlacedRow) → AreRowsOf services rows
    → find (has_other test stream_row rows) rows ≡ Some a → find (λ (other : PlacedRow). test (stream_row a) (stream_row other)) rows ≡ Some b
    → IsRowOf services a × IsRowOf services b × (test (stream_row a) (stream_row b) ≡ true)
pair_is test services rows a b are first second = (
  found_holds (IsRowOf services) (has_other test stream_row rows) rows a are.places first,
  found_holds (IsRowOf services) (λ (other : PlacedRow). test (stream_row a) (stream_row other)) rows b are.places second,
  found_passes (λ (other : PlacedRow). test (stream_row a) (stream_row other)) rows b second,
)

-- there are two wherever there are two rows that pass the test
pub some_pair : (test : StreamRow → StreamRow → Bool) (services : List ServicePartsValue) (rows : List PlacedRow) (a : PlacedRow) → AreRowsOf services rows
    → find (has_other test stream_row rows) rows ≡ Some a → list_any (λ (x : StreamRow). list_any (test x) (rows_of services)) (rows_of services) ≡ true
some_pair test services rows a are first = pairs_are test stream_row rows (rows_of services) are.all ∙ one_of (has_other test stream_row rows) rows a first

pub no_pair : (test : StreamRow → StreamRow → Bool) (services : List ServicePartsValue) (rows : List PlacedRow) → AreRowsOf services rows
    → find (has_other test stream_row rows) rows ≡ None → list_any (λ (x : StreamRow). list_any (test x) (rows_of services)) (rows_of services) ≡ false
no_pair test services rows are first = pairs_are test stream_row rows (rows_of services) are.all ∙ none_of (has_other test stream_row rows) rows first

-- rows and PMTs
abbrev pub on_pmt : List ServiceParts → PlacedRow → Bool
on_pmt services row = list_any (λ (s : ServiceParts). int_eq row.out s.pmt) services

on_pmts : (services : List ServiceParts) (row : PlacedRow) → list_any (int_eq row.out) (pmts_of (map service_parts_value services)) ≡ on_pmt services row
on_pmts services row =
    list_any-map (int_eq row.out) (λ (s : ServicePartsValue). s.pmt) (map service_parts_value services)
    ∙ list_any-map (λ (s : ServicePartsValue). int_eq row.out s.pmt) service_parts_value services

pub on_pmts_are : (services : List ServiceParts) (rows : List PlacedRow) → AreRowsOf (map service_parts_value services) rows
    → list_any (λ (a : StreamRow). list_any (int_eq a.out) (pmts_of (map service_parts_value services))) (rows_of (map service_parts_value services)) ≡ list_any (on_pmt services) rows
on_pmts_are services rows are =
    ap (list_any (λ (a : StreamRow). list_any (int_eq a.out) (pmts_of (map service_parts_value services)))) (sym are.all)
    ∙ list_any-map (λ (a : StreamRow). list_any (int_eq a.out) (pmts_of (map service_parts_value services))) stream_row rows
    ∙ list_any_agree (λ (row : PlacedRow). list_any (int_eq row.out) (pmts_of (map service_parts_value services))) (on_pmt services) (on_pmts services) rows

pmt_at : (services : List ServiceParts) (k n : ℕ) (s : ServiceParts) (pid : ℤ) → k ≡ 0 + n → slice_get services n ≡ Some s → int_eq pid s.pmt ≡ true → slice_get (pmts_of (map service_parts_value services)) k ≡ Some pid
pmt_at services k n s pid place at same =
    let e : k ≡ n = omega arith in
    let equal : pid ≡ s.pmt = (Decides-int_eq pid s.pmt).0 same in
    slice_get-map (λ (s : ServicePartsValue). s.pmt) (map service_parts_value services) k
    ∙ ap (option_map (λ (s : ServicePartsValue). s.pmt)) (slice_get-map service_parts_value services k ∙ ap (option_map service_parts_value) (ap (slice_get services) e ∙ at))
    ∙ ap Some (sym equal)

pub pmt_is : (services : List ServiceParts) (k : ℕ) (pid : ℤ) → position_from (λ (s : ServiceParts). int_eq pid s.pmt) 0 services ≡ Some k → slice_get (pmts_of (map service_parts_value services)) k ≡ Some pid
pmt_is services k pid h =
    let at = passes_at (λ (s : ServiceParts). int_eq pid s.pmt) services 0 k h in
    pmt_at services k at.0 at.1 pid at.2 at.3 at.4

-- a row of a service stands at its place
pub row_is : (services : List ServiceParts) (place number : ℕ) (s : ServiceParts) (r : StreamParts) → slice_get services place ≡ Some s → slice_get s.streams.items number ≡ Some r
    → row_at (map service_parts_value services) place number ≡ Some (row_of s.input r)
row_is services place number s r at here =
    ap (option_and_then (λ (x : ServicePartsValue). option_map (row_of x.input) (slice_get x.streams number))) (slice_get-map service_parts_value services place ∙ ap (option_map service_parts_value) at)
    ∙ ap (option_map (row_of s.input)) here

abbrev pub no_stream : StreamParts
no_stream = record { pid = pos 0; out = pos 0; leak = pos 0 }

pub new_row_is : (services : List ServiceParts) (place number : ℕ) (s : ServiceParts) (row : PlacedRow) → number < length s.streams.items → slice_get services place ≡ Some s
    → stream_row row ≡ row_of s.input (get_or s.streams.items number no_stream) → row.service ≡ place → row.stream ≡ number → IsRowOf (map service_parts_value services) row
new_row_is services place number s row l at is service stream =
    ap (λ n. row_at (map service_parts_value services) n row.stream) service
    ∙ ap (row_at (map service_parts_value services) place) stream
    ∙ row_is services place number s (get_or s.streams.items number no_stream) at (slice_get-get_or s.streams.items number no_stream l)
    ∙ ap Some (sym is)

-- one row more
pub rows_more : (f : StreamParts → StreamRow) (xs : List StreamParts) (n : ℕ) (rows before : List PlacedRow) (row : PlacedRow) → n < length xs → stream_row row ≡ f (get_or xs n no_stream)
    → map stream_row rows ≡ map stream_row before ++ map f (take n xs) → map stream_row (rows ++ row ∷ []) ≡ map stream_row before ++ map f (take (n + 1) xs)
rows_more f xs n rows before row l is e =
    map-append stream_row rows (row ∷ [])
    ∙ ap (λ ys. ys ++ stream_row row ∷ []) e
    ∙ ap (λ r. (map stream_row before ++ map f (take n xs)) ++ r ∷ []) is
    ∙ append_assoc (map stream_row before) (map f (take n xs)) (f (get_or xs n no_stream) ∷ [])
    ∙ ap (λ ys. map stream_row before ++ ys) (sym (map_more f xs n no_stream l))

-- a service that names a PID twice
pub naming_is : (services : List ServiceParts) (service first second : ℕ) (pid told : ℤ) (s : ServiceParts) → told ≡ pid → slice_get services service ≡ Some s
    → AreBoth (pids_of (service_parts_value s)) first second pid → IsPidCause (map service_parts_value services) (NamedTwice service first second told)
naming_is services service first second pid told s same at both = (
  service_parts_value s,
  slice_get-map service_parts_value services service ∙ ap (option_map service_parts_value) at,
  subst (AreBoth (pids_of (service_parts_value s)) first second) (sym same) both,
)
