-- A plan without fault is a request.
use Rattle.std.proofs.Common.{ℕ, ℤ, pos, negsuc, ◌<◌, ◌≤◌, ◌≡◌, ◌≢◌, ◌&&◌, Bool, true, false, not, cond, leb, List, [], ◌∷◌, ◌++◌, map, length, None, Some, refl, ap, ◌∙◌, sym, subst, arith, All, inl, inr}
use Rattle.std.specs.List.{list_any, list_all, filter, AllPairs}
use Rattle.std.specs.Ordering.{int_eq}
use Rattle.std.proofs.lemmas.Cmp.{int_eq_equiv}
use Rattle.std.proofs.lemmas.Bool.{and_parts, and_from, or_parts, or_left, or_right, leb-true, false≢true, cases_lt}
use Rattle.std.proofs.lemmas.List.{length-map}
use Rattle.std.proofs.lemmas.List.Folds.{list_all-map, list_all-append, Any-from_list_any}
use Rattle.std.proofs.lemmas.List.Sums.{fails_before_first, AllPass-from_list_all}
use Rattle.std.proofs.lemmas.List.Elements.{All-nil, All-cons, All-weaker}
use Rattle.std.proofs.lemmas.List.Kept.{AllPairs-cons, AllPairs-filter}
use Rattle.std.proofs.lemmas.Map.Views.{any-filter_same}
use Rattle.tables.specs.Descriptors.{are_whole}
use Rattle.request.specs.declared.limits.TheConstants.{MIN_RATE, MAX_RATE, MIN_LEAK, MAX_LEAK, MAX_OFFSET, MAX_SLOTS, MAX_VERSION, MAX_ITEMS, MAX_ID, FIRST_PID, LAST_PID, MAX_INPUTS, MAX_SERVICES, MAX_STREAMS, MAX_NAME, FIRST_LETTER, LAST_LETTER, MAX_DESCRIPTORS}
use Rattle.request.specs.declared.plan_fault.PlanFault.TheVariants.{OutOfRange, ServiceTaken, PidTaken}
use Rattle.request.specs.declared.stream_row.StreamRow.{StreamRow}
use Rattle.request.specs.declared.stream.Stream.{Stream}
use Rattle.request.specs.Parts.{InputPartsValue, ServicePartsValue, PartsValue}
use Rattle.request.specs.Ranges.{is_count_between, is_between, is_place, is_rate, is_pid, is_program_number, has_good_rates, has_good_sizes, has_good_ids, is_letter, is_network_name, are_descriptors, is_size, is_input, are_inputs, is_stream, is_service, are_services, has_good_top, has_good_lists}
use Rattle.request.specs.Request.{row_of, service_rows, rows_of, has_same_source, without_repeats, stream_rows_of, has_repeat, has_bad_range, has_service_twice, output_pids, has_pid_twice, request_fault_of, natural_of, ServiceValue, input_of, stream_of, stream_number, service_of, request_of, IsBetween, IsInput, IsStream, IsService, IsRequest}
use Rattle.request.proofs.ListLaws.{list_all_weaker, list_all-filter, list_all-flat_map, all_from, map-map, map-append, all_pairs-map}
use Rattle.request.proofs.StreamLaws.{same_source_symm, same_source_congr}
use Rattle.request.proofs.RangeLaws.{count_between, between, place, is_natural, natural_between, same_int, distinct}
use Rattle.request.proofs.FaultLaws.{IsRanged, ranged_of}

-- each row is a stream or repeats one

same_source_refl : (row : StreamRow) → has_same_source row row ≡ true
same_source_refl row = and_from (int_eq row.input row.input) (int_eq row.pid row.pid) (int_eq_equiv.refl row.input) (int_eq_equiv.refl row.pid)

abbrev is_found : List StreamRow → StreamRow → Bool
is_found streams row = list_any (has_same_source row) streams

stays : (r row : StreamRow) (s : Bool) → has_same_source row r ≡ s → (xs : List StreamRow) → is_found xs row ≡ true
    → is_found (r ∷ filter (λ other. not (has_same_source r other)) xs) row ≡ true
stays r row true e xs f = or_left (has_same_source row r) (is_found (filter (λ other. not (has_same_source r other)) xs) row) e
stays r row false e xs f =
    or_right (has_same_source row r) (is_found (filter (λ other. not (has_same_source r other)) xs) row)
    (any-filter_same (has_same_source row) (λ other. not (has_same_source r other)) true
    (λ k same. ap not (same_source_symm r k ∙ sym (same_source_congr row k r same) ∙ e)) xs ∙ f)

all_found : (rows : List StreamRow) → list_all (is_found (without_repeats rows)) rows ≡ true
unfolding without_repeats
all_found [] = refl
all_found (r ∷ rows) =
    and_from (is_found (without_repeats (r ∷ rows)) r) (list_all (is_found (without_repeats (r ∷ rows))) rows)
    (or_left (has_same_source r r) (is_found (filter (λ other. not (has_same_source r other)) (without_repeats rows)) r) (same_source_refl r))
    (list_all_weaker (is_found (without_repeats rows)) (is_found (without_repeats (r ∷ rows))) (λ row f. stays r row (has_same_source row r) refl (without_repeats rows) f) rows (all_found rows))

-- so its number is that of a stream
number_below : (streams : List StreamRow) (row : StreamRow) → is_found streams row ≡ true → stream_number streams row < length streams
number_below streams row e =
    let any = Any-from_list_any (has_same_source row) streams e in
    elim (cases_lt (stream_number streams row) (length streams)) [
      | inl below ↦ below
      | inr past ↦ absurd (false≢true (sym (fails_before_first (has_same_source row) streams any.0 any.1 (earlier any.0 any.2 past)) ∙ ap (has_same_source row) any.3 ∙ any.4))
    ]
  where
    earlier : (k : ℕ) → k < length streams → length streams ≤ stream_number streams row → k < stream_number streams row
    earlier k l past = omega arith

-- the ranges of rows

abbrev pub is_row : ℕ → StreamRow → Bool
is_row inputs r = is_place inputs r.input && ((is_pid r.pid && is_pid r.out) && is_between MIN_LEAK MAX_LEAK r.leak)

service_row : (inputs : ℕ) (s : ServicePartsValue) → is_service inputs s ≡ true → list_all (is_row inputs) (service_rows s) ≡ true
unfolding is_service is_stream
service_row inputs s e =
    let halves = and_parts (is_place inputs s.input && is_program_number s.program) ((is_program_number s.service && is_pid s.pmt) && list_all is_stream s.streams) e in
    let first = and_parts (is_place inputs s.input) (is_program_number s.program) halves.0 in
    let second = and_parts (is_program_number s.service && is_pid s.pmt) (list_all is_stream s.streams) halves.1 in
    list_all-map (is_row inputs) (row_of s.input) s.streams
    ∙ list_all_weaker is_stream (λ r. is_row inputs (row_of s.input r)) (λ r good. and_from (is_place inputs s.input) ((is_pid r.pid && is_pid r.out) && is_between MIN_LEAK MAX_LEAK r.leak) first.0 good) s.streams second.1

rows_ranged : (inputs : ℕ) (services : List ServicePartsValue) → list_all (is_service inputs) services ≡ true → list_all (is_row inputs) (rows_of services) ≡ true
rows_ranged inputs services e =
    list_all-flat_map (is_row inputs) service_rows services
    ∙ list_all_weaker (is_service inputs) (λ s. list_all (is_row inputs) (service_rows s)) (service_row inputs) services e

kept_rows : (p : StreamRow → Bool) (rows : List StreamRow) → list_all p rows ≡ true → list_all p (without_repeats rows) ≡ true
unfolding without_repeats
kept_rows p [] e = refl
kept_rows p (r ∷ rows) e =
    let both = and_parts (p r) (list_all p rows) e in
    and_from (p r) (list_all p (filter (λ other. not (has_same_source r other)) (without_repeats rows))) both.0
    (list_all-filter p (λ other. not (has_same_source r other)) (without_repeats rows) (kept_rows p rows both.1))

pub streams_ranged : (inputs : ℕ) (services : List ServicePartsValue) → list_all (is_service inputs) services ≡ true → list_all (is_row inputs) (stream_rows_of services) ≡ true
streams_ranged inputs services e = kept_rows (is_row inputs) (rows_of services) (rows_ranged inputs services e)

pub stream_is : (inputs : ℕ) (r : StreamRow) → is_row inputs r ≡ true → IsStream inputs (stream_of r)
stream_is inputs r e =
    let a = and_parts (is_place inputs r.input) ((is_pid r.pid && is_pid r.out) && is_between MIN_LEAK MAX_LEAK r.leak) e in
    let b = and_parts (is_pid r.pid && is_pid r.out) (is_between MIN_LEAK MAX_LEAK r.leak) a.1 in
    let d = and_parts (is_pid r.pid) (is_pid r.out) b.0 in
    record { input = place inputs r.input a.0; pid = between FIRST_PID LAST_PID r.pid d.0; output_pid = between FIRST_PID LAST_PID r.out d.1; leak = between MIN_LEAK MAX_LEAK r.leak b.1 }

-- and of services

pub service_numbers : (inputs : ℕ) (s : ServicePartsValue) → is_service inputs s ≡ true
    → (IsBetween 1 MAX_ID (natural_of s.program)) × (IsBetween 1 MAX_ID (natural_of s.service)) × (IsBetween FIRST_PID LAST_PID (natural_of s.pmt))
unfolding is_service
service_numbers inputs s e =
    let halves = and_parts (is_place inputs s.input && is_program_number s.program) ((is_program_number s.service && is_pid s.pmt) && list_all is_stream s.streams) e in
    let first = and_parts (is_place inputs s.input) (is_program_number s.program) halves.0 in
    let second = and_parts (is_program_number s.service && is_pid s.pmt) (list_all is_stream s.streams) halves.1 in
    let third = and_parts (is_program_number s.service) (is_pid s.pmt) second.0 in
    (between 1 MAX_ID s.program first.1, between 1 MAX_ID s.service third.0, between FIRST_PID LAST_PID s.pmt third.1)

service_is : (inputs : ℕ) (streams : List StreamRow) (s : ServicePartsValue) → (is_service inputs s && list_all (is_found streams) (service_rows s)) ≡ true
    → IsService inputs (length streams) (service_of streams s)
unfolding is_service
service_is inputs streams s e =
    let both = and_parts (is_service inputs s) (list_all (is_found streams) (service_rows s)) e in
    let halves = and_parts (is_place inputs s.input && is_program_number s.program) ((is_program_number s.service && is_pid s.pmt) && list_all is_stream s.streams) both.0 in
    let first = and_parts (is_place inputs s.input) (is_program_number s.program) halves.0 in
    let second = and_parts (is_program_number s.service && is_pid s.pmt) (list_all is_stream s.streams) halves.1 in
    let third = and_parts (is_program_number s.service) (is_pid s.pmt) second.0 in
    record {
      input = place inputs s.input first.0;
      program = between 1 MAX_ID s.program first.1;
      service = between 1 MAX_ID s.service third.0;
      pmt = between FIRST_PID LAST_PID s.pmt third.1;
      stream_numbers = all_from (is_found streams) (stream_number streams) (λ n. n < length streams) (number_below streams) (service_rows s) both.1;
    }

list_all-both : {X : Type 0} (p q : X → Bool) (xs : List X) → list_all p xs ≡ true → list_all q xs ≡ true → list_all (λ x. p x && q x) xs ≡ true
list_all-both p q [] e f = refl
list_all-both p q (x ∷ xs) e f =
    let a = and_parts (p x) (list_all p xs) e in
    let b = and_parts (q x) (list_all q xs) f in
    and_from (p x && q x) (list_all (λ x. p x && q x) xs) (and_from (p x) (q x) a.0 b.0) (list_all-both p q xs a.1 b.1)

services_are : (inputs : ℕ) (services : List ServicePartsValue) → list_all (is_service inputs) services ≡ true
    → All (IsService inputs (length (stream_rows_of services))) (map (service_of (stream_rows_of services)) services)
services_are inputs services e =
    let streams = stream_rows_of services in
    all_from (λ s. is_service inputs s && list_all (is_found streams) (service_rows s)) (service_of streams) (IsService inputs (length streams)) (service_is inputs streams) services
    (list_all-both (is_service inputs) (λ s. list_all (is_found streams) (service_rows s)) services e
    (sym (list_all-flat_map (is_found streams) service_rows services) ∙ all_found (rows_of services)))

input_is : (i : InputPartsValue) → is_input i ≡ true → IsInput (input_of i)
unfolding is_input
input_is i e =
    let both = and_parts (is_rate i.rate) (is_between 0 MAX_OFFSET i.offset) (and_parts (is_rate i.rate && is_between 0 MAX_OFFSET i.offset) (is_size i.size) e).0 in
    record { rate = between MIN_RATE MAX_RATE i.rate both.0; offset = (between 0 MAX_OFFSET i.offset both.1).1 }

-- numbers that are there once

number_natural : (inputs : ℕ) (s : ServicePartsValue) → is_service inputs s ≡ true → is_natural s.service ≡ true
unfolding is_service
number_natural inputs s e =
    let halves = and_parts (is_place inputs s.input && is_program_number s.program) ((is_program_number s.service && is_pid s.pmt) && list_all is_stream s.streams) e in
    let second = and_parts (is_program_number s.service && is_pid s.pmt) (list_all is_stream s.streams) halves.1 in
    natural_between 1 MAX_ID s.service (and_parts (is_program_number s.service) (is_pid s.pmt) second.0).0

pmt_natural : (inputs : ℕ) (s : ServicePartsValue) → is_service inputs s ≡ true → is_natural s.pmt ≡ true
unfolding is_service
pmt_natural inputs s e =
    let halves = and_parts (is_place inputs s.input && is_program_number s.program) ((is_program_number s.service && is_pid s.pmt) && list_all is_stream s.streams) e in
    let second = and_parts (is_program_number s.service && is_pid s.pmt) (list_all is_stream s.streams) halves.1 in
    natural_between FIRST_PID LAST_PID s.pmt (and_parts (is_program_number s.service) (is_pid s.pmt) second.0).1

out_natural : (inputs : ℕ) (r : StreamRow) → is_row inputs r ≡ true → is_natural r.out ≡ true
out_natural inputs r e =
    let a = and_parts (is_place inputs r.input) ((is_pid r.pid && is_pid r.out) && is_between MIN_LEAK MAX_LEAK r.leak) e in
    let b = and_parts (is_pid r.pid && is_pid r.out) (is_between MIN_LEAK MAX_LEAK r.leak) a.1 in
    natural_between FIRST_PID LAST_PID r.out (and_parts (is_pid r.pid) (is_pid r.out) b.0).1

numbers_apart : (streams : List StreamRow) (inputs : ℕ) (services : List ServicePartsValue) → list_all (is_service inputs) services ≡ true → has_service_twice services ≡ false
    → AllPairs (λ a b. a ≢ b) (map (λ (s : ServiceValue). s.service) (map (service_of streams) services))
numbers_apart streams inputs services e f =
    subst (λ (ns : List ℕ). AllPairs (λ a b. a ≢ b) ns)
    (map-map natural_of (λ (s : ServicePartsValue). s.service) services ∙ sym (map-map (λ (s : ServiceValue). s.service) (service_of streams) services))
    (distinct (map (λ (s : ServicePartsValue). s.service) services)
    (list_all-map is_natural (λ (s : ServicePartsValue). s.service) services ∙ list_all_weaker (is_service inputs) (λ s. is_natural s.service) (number_natural inputs) services e) f)

pids_apart : (inputs : ℕ) (services : List ServicePartsValue) → list_all (is_service inputs) services ≡ true → has_repeat (output_pids services) ≡ false
    → AllPairs (λ a b. a ≢ b)
    (map (λ (s : Stream). s.output_pid) (map stream_of (stream_rows_of services)) ++ map (λ (s : ServiceValue). s.pmt) (map (service_of (stream_rows_of services)) services))
pids_apart inputs services e f =
    let streams = stream_rows_of services in
    let outs = map (λ (r : StreamRow). r.out) streams in
    let pmts = map (λ (s : ServicePartsValue). s.pmt) services in
    let of_streams = map-map natural_of (λ (r : StreamRow). r.out) streams ∙ sym (map-map (λ (s : Stream). s.output_pid) stream_of streams) in
    let of_services = map-map natural_of (λ (s : ServicePartsValue). s.pmt) services ∙ sym (map-map (λ (s : ServiceValue). s.pmt) (service_of streams) services) in
    subst (λ (ns : List ℕ). AllPairs (λ a b. a ≢ b) ns)
    (map-append natural_of outs pmts ∙ ap (λ (ns : List ℕ). ns ++ map natural_of pmts) of_streams
    ∙ ap (λ (ns : List ℕ). map (λ (s : Stream). s.output_pid) (map stream_of streams) ++ ns) of_services)
    (distinct (outs ++ pmts)
    (list_all-append is_natural outs pmts
    ∙ and_from (list_all is_natural outs) (list_all is_natural pmts)
    (list_all-map is_natural (λ (r : StreamRow). r.out) streams ∙ list_all_weaker (is_row inputs) (λ r. is_natural r.out) (out_natural inputs) streams (streams_ranged inputs services e))
    (list_all-map is_natural (λ (s : ServicePartsValue). s.pmt) services ∙ list_all_weaker (is_service inputs) (λ s. is_natural s.pmt) (pmt_natural inputs) services e)) f)

-- streams of different sources

-- two rows of whole numbers that don't have one input and PID
abbrev AreApart : StreamRow → StreamRow → Type 0
AreApart a b = natural_of a.input ≡ natural_of b.input → natural_of a.pid ≢ natural_of b.pid

input_natural : (inputs : ℕ) (z : ℤ) → is_place inputs z ≡ true → is_natural z ≡ true
input_natural inputs (pos n) e = refl
input_natural inputs (negsuc n) e = e

source_natural : (inputs : ℕ) (r : StreamRow) → is_row inputs r ≡ true → (is_natural r.input ≡ true) × (is_natural r.pid ≡ true)
source_natural inputs r e =
    let a = and_parts (is_place inputs r.input) ((is_pid r.pid && is_pid r.out) && is_between MIN_LEAK MAX_LEAK r.leak) e in
    let b = and_parts (is_pid r.pid && is_pid r.out) (is_between MIN_LEAK MAX_LEAK r.leak) a.1 in
    (input_natural inputs r.input a.0, natural_between FIRST_PID LAST_PID r.pid (and_parts (is_pid r.pid) (is_pid r.out) b.0).0)

apart : (inputs : ℕ) (a b : StreamRow) → is_row inputs a ≡ true → is_row inputs b ≡ true → has_same_source a b ≡ false → AreApart a b
apart inputs a b e f differ same_input same_pid =
    let x = source_natural inputs a e in
    let y = source_natural inputs b f in
    false≢true
    (sym differ
    ∙ and_from (int_eq a.input b.input) (int_eq a.pid b.pid) (same_int a.input b.input x.0 y.0 same_input) (same_int a.pid b.pid x.1 y.1 same_pid))

kept_apart : (inputs : ℕ) (r x : StreamRow) (rest : List StreamRow) (s : Bool) → has_same_source r x ≡ s → is_row inputs r ≡ true → is_row inputs x ≡ true
    → All (AreApart r) rest → All (AreApart r) (cond (not s) (x ∷ rest) rest)
kept_apart inputs r x rest true same e f more = more
kept_apart inputs r x rest false differ e f more = All-cons (AreApart r) x rest (apart inputs r x e f differ) more

rest_apart : (inputs : ℕ) (r : StreamRow) (rows : List StreamRow) → is_row inputs r ≡ true → list_all (is_row inputs) rows ≡ true → All (AreApart r) (filter (λ other. not (has_same_source r other)) rows)
rest_apart inputs r [] e f = All-nil (AreApart r)
rest_apart inputs r (x ∷ rows) e f =
    let both = and_parts (is_row inputs x) (list_all (is_row inputs) rows) f in
    kept_apart inputs r x (filter (λ other. not (has_same_source r other)) rows) (has_same_source r x) refl e both.0 (rest_apart inputs r rows e both.1)

rows_apart : (inputs : ℕ) (rows : List StreamRow) → list_all (is_row inputs) rows ≡ true → AllPairs AreApart (without_repeats rows)
unfolding without_repeats
rows_apart inputs [] e = λ i j d l m. absurd (omega arith)
rows_apart inputs (r ∷ rows) e =
    let both = and_parts (is_row inputs r) (list_all (is_row inputs) rows) e in
    AllPairs-cons AreApart r (filter (λ other. not (has_same_source r other)) (without_repeats rows))
    (rest_apart inputs r (without_repeats rows) both.0 (kept_rows (is_row inputs) rows both.1))
    (AllPairs-filter AreApart (λ other. not (has_same_source r other)) (without_repeats rows) (rows_apart inputs rows both.1))

streams_apart : (inputs : ℕ) (services : List ServicePartsValue) → list_all (is_service inputs) services ≡ true
    → AllPairs (λ (a b : Stream). a.input ≡ b.input → a.pid ≢ b.pid) (map stream_of (stream_rows_of services))
streams_apart inputs services e =
    all_pairs-map (λ (a b : Stream). a.input ≡ b.input → a.pid ≢ b.pid) stream_of (stream_rows_of services) (record { input = pos 0; pid = pos 0; out = pos 0; leak = pos 0 })
    (rows_apart inputs (rows_of services) (rows_ranged inputs services e))

-- what no fault tells

pub record IsFaultless (p : PartsValue) : Type 0 where
  pub ranged : IsRanged p
  pub services : has_service_twice p.services ≡ false
  pub pids : has_pid_twice p.services ≡ false

chain : (a b c : Bool) → cond a (Some OutOfRange) (cond b (Some ServiceTaken) (cond c (Some PidTaken) None)) ≡ None → (a ≡ false) × (b ≡ false) × (c ≡ false)
chain true b c e = cc
chain false true c e = cc
chain false false true e = cc
chain false false false e = (refl, refl, refl)

pub faultless : (p : PartsValue) → request_fault_of p ≡ None → IsFaultless p
unfolding request_fault_of
faultless p e =
    let all = chain (has_bad_range p) (has_service_twice p.services) (has_pid_twice p.services) e in
    record { ranged = ranged_of p all.0; services = all.1; pids = all.2 }

-- the parts of the tests

record IsTop (p : PartsValue) : Type 0 where
  rates : has_good_rates p ≡ true
  sizes : has_good_sizes p ≡ true
  ids : has_good_ids p ≡ true
  name : is_network_name p.network_name ≡ true
  descriptors : are_descriptors p.transport_descriptors ≡ true

top_is : (p : PartsValue) → has_good_top p ≡ true → IsTop p
unfolding has_good_top
top_is p e =
    let a = and_parts (((has_good_rates p && has_good_sizes p) && has_good_ids p) && is_network_name p.network_name) (are_descriptors p.transport_descriptors) e in
    let b = and_parts ((has_good_rates p && has_good_sizes p) && has_good_ids p) (is_network_name p.network_name) a.0 in
    let d = and_parts (has_good_rates p && has_good_sizes p) (has_good_ids p) b.0 in
    let f = and_parts (has_good_rates p) (has_good_sizes p) d.0 in
    record { rates = f.0; sizes = f.1; ids = d.1; name = b.1; descriptors = a.1 }

rates_are : (p : PartsValue) → has_good_rates p ≡ true → (is_rate p.rate ≡ true) × (is_between 1 MAX_SLOTS p.period ≡ true) × (is_between 1 MAX_SLOTS p.watch ≡ true)
unfolding has_good_rates
rates_are p e =
    let a = and_parts (is_rate p.rate && is_between 1 MAX_SLOTS p.period) (is_between 1 MAX_SLOTS p.watch) e in
    let b = and_parts (is_rate p.rate) (is_between 1 MAX_SLOTS p.period) a.0 in
    (b.0, b.1, a.1)

sizes_are : (p : PartsValue) → has_good_sizes p ≡ true → (is_between 0 MAX_VERSION p.version ≡ true) × (is_between 1 MAX_ITEMS p.queue ≡ true) × (is_between 1 MAX_ITEMS p.ring ≡ true)
unfolding has_good_sizes
sizes_are p e =
    let a = and_parts (is_between 0 MAX_VERSION p.version && is_between 1 MAX_ITEMS p.queue) (is_between 1 MAX_ITEMS p.ring) e in
    let b = and_parts (is_between 0 MAX_VERSION p.version) (is_between 1 MAX_ITEMS p.queue) a.0 in
    (b.0, b.1, a.1)

ids_are : (p : PartsValue) → has_good_ids p ≡ true → (is_between 0 MAX_ID p.transport_stream_id ≡ true) × (is_between 0 MAX_ID p.original_network_id ≡ true) × (is_between 0 MAX_ID p.network_id ≡ true)
unfolding has_good_ids
ids_are p e =
    let a = and_parts (is_between 0 MAX_ID p.transport_stream_id && is_between 0 MAX_ID p.original_network_id) (is_between 0 MAX_ID p.network_id) e in
    let b = and_parts (is_between 0 MAX_ID p.transport_stream_id) (is_between 0 MAX_ID p.original_network_id) a.0 in
    (b.0, b.1, a.1)

name_is : (bytes : List ℕ) → is_network_name bytes ≡ true → (IsBetween 1 MAX_NAME (length bytes)) × (All (IsBetween FIRST_LETTER LAST_LETTER) bytes)
unfolding is_network_name
name_is bytes e =
    let a = and_parts (is_count_between 1 MAX_NAME (length bytes)) (list_all is_letter bytes) e in (
      count_between 1 MAX_NAME (length bytes) a.0,
      All-weaker (λ b. is_letter b ≡ true) (IsBetween FIRST_LETTER LAST_LETTER) (count_between FIRST_LETTER LAST_LETTER) bytes (AllPass-from_list_all is_letter bytes a.1),
    )

descriptors_are : (bytes : List ℕ) → are_descriptors bytes ≡ true → (length bytes ≤ MAX_DESCRIPTORS) × (are_whole 0 bytes ≡ true)
unfolding are_descriptors
descriptors_are bytes e =
    let a = and_parts (leb (length bytes) MAX_DESCRIPTORS) (are_whole 0 bytes) e in
    (leb-true (length bytes) MAX_DESCRIPTORS a.0, a.1)

pub record AreLists (p : PartsValue) : Type 0 where
  pub input_count : is_count_between 1 MAX_INPUTS (length p.inputs) ≡ true
  pub inputs : list_all is_input p.inputs ≡ true
  pub service_count : is_count_between 1 MAX_SERVICES (length p.services) ≡ true
  pub services : list_all (is_service (length p.inputs)) p.services ≡ true

pub lists_are : (p : PartsValue) → has_good_lists p ≡ true → AreLists p
unfolding has_good_lists are_inputs are_services
lists_are p e =
    let a = and_parts (are_inputs p.inputs) (are_services (length p.inputs) p.services) e in
    let b = and_parts (is_count_between 1 MAX_INPUTS (length p.inputs)) (list_all is_input p.inputs) a.0 in
    let d = and_parts (is_count_between 1 MAX_SERVICES (length p.services)) (list_all (is_service (length p.inputs)) p.services) a.1 in
    record { input_count = b.0; inputs = b.1; service_count = d.0; services = d.1 }

no_output_twice : (p : PartsValue) → has_pid_twice p.services ≡ false → has_repeat (output_pids p.services) ≡ false
unfolding has_pid_twice
no_output_twice p e = (or_parts _ (has_repeat (output_pids p.services)) e).1

-- the request of a plan without fault
pub request_is : (p : PartsValue) → request_fault_of p ≡ None → IsRequest (request_of p)
request_is p e =
    let f = faultless p e in
    let top = top_is p f.ranged.top in
    let rates = rates_are p top.rates in
    let sizes = sizes_are p top.sizes in
    let ids = ids_are p top.ids in
    let name = name_is p.network_name top.name in
    let descriptors = descriptors_are p.transport_descriptors top.descriptors in
    let lists = lists_are p f.ranged.lists in
    let streams = stream_rows_of p.services in
    let inputs_length = length-map p.inputs input_of in
    let streams_length = length-map streams stream_of in
    record {
      rate = between MIN_RATE MAX_RATE p.rate rates.0;
      period = between 1 MAX_SLOTS p.period rates.1;
      watch = between 1 MAX_SLOTS p.watch rates.2;
      version = (between 0 MAX_VERSION p.version sizes.0).1;
      queue = between 1 MAX_ITEMS p.queue sizes.1;
      ring = between 1 MAX_ITEMS p.ring sizes.2;
      transport_stream_id = (between 0 MAX_ID p.transport_stream_id ids.0).1;
      original_network_id = (between 0 MAX_ID p.original_network_id ids.1).1;
      network_id = (between 0 MAX_ID p.network_id ids.2).1;
      name_length = name.0;
      name_letters = name.1;
      descriptors_length = descriptors.0;
      whole_descriptors = descriptors.1;
      input_count = subst (IsBetween 1 MAX_INPUTS) (sym inputs_length) (count_between 1 MAX_INPUTS (length p.inputs) lists.input_count);
      inputs = all_from is_input input_of IsInput input_is p.inputs lists.inputs;
      service_count = subst (IsBetween 1 MAX_SERVICES) (sym (length-map p.services (service_of streams))) (count_between 1 MAX_SERVICES (length p.services) lists.service_count);
      services = subst (λ (n : ℕ). All (IsService n (length (map stream_of streams))) (map (service_of streams) p.services)) (sym inputs_length)
          (subst (λ (n : ℕ). All (IsService (length p.inputs) n) (map (service_of streams) p.services)) (sym streams_length) (services_are (length p.inputs) p.services lists.services));
      stream_count = subst (IsBetween 1 MAX_STREAMS) (sym streams_length) (count_between 1 MAX_STREAMS (length streams) f.ranged.few_streams);
      streams = subst (λ (n : ℕ). All (IsStream n) (map stream_of streams)) (sym inputs_length)
          (all_from (is_row (length p.inputs)) stream_of (IsStream (length p.inputs)) (stream_is (length p.inputs)) streams (streams_ranged (length p.inputs) p.services lists.services));
      one_stream_a_source = streams_apart (length p.inputs) p.services lists.services;
      one_service_a_number = numbers_apart streams (length p.inputs) p.services lists.services f.services;
      one_use_an_output_pid = pids_apart (length p.inputs) p.services lists.services (no_output_twice p f.pids);
    }
