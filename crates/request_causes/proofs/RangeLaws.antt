-- What is out of its range, and where the ranges of a plan say that something is.
use Rattle.std.proofs.Common.{arith, ◌≡◌, ◌≤◌, ◌<◌, ℕ, Bool, true, false, not, ◌&&◌, ◌||◌, List, [], ◌∷◌, length, refl, ap, ◌∙◌, sym}
use Rattle.std.specs.Prelude.{nat_le}
use Rattle.std.specs.List.{list_any, list_all}
use Rattle.std.proofs.lemmas.Bool.Decides.{nat_tests}
use Rattle.tables.specs.Descriptors.{are_whole}
use Rattle.request.specs.declared.stream_parts.StreamParts.{StreamParts}
use Rattle.request.specs.Limits.{MIN_LEAK, MAX_LEAK, MAX_OFFSET, MAX_SLOTS, MAX_VERSION, MAX_ITEMS, MAX_ID, MAX_INPUTS, MAX_SERVICES, MAX_NAME, MAX_DESCRIPTORS}
use Rattle.request.specs.Parts.{InputPartsValue, ServicePartsValue, PartsValue}
use Rattle.request.specs.Ranges.{is_between, is_count_between, is_place, is_rate, is_pid, is_program_number, is_letter, has_good_rates, has_good_sizes, has_good_ids, is_network_name, are_descriptors, is_size, is_input, are_inputs, is_stream, is_service, are_services, has_good_top, has_good_lists}
use Rattle.request.proofs.ListLaws.{list_any_agree}
use Rattle.request_causes.specs.RangeCauses.{is_outside, top_numbers, input_numbers, service_numbers, stream_numbers}

not_and : (a b : Bool) → (not a || not b) ≡ not (a && b)
not_and true b = refl
not_and false b = refl

-- one fails where not all pass
pub not_all : {X : Type 0} (p : X → Bool) (xs : List X) → list_any (λ x. not (p x)) xs ≡ not (list_all p xs)
not_all p [] = refl
not_all p (x ∷ xs) = ap (λ b. not (p x) || b) (not_all p xs) ∙ not_and (p x) (list_all p xs)

-- the tables of numbers, against the ranges
three : (a b d : Bool) → (not a || (not b || (not d || false))) ≡ not ((a && b) && d)
three false b d = refl
three true false d = refl
three true true false = refl
three true true true = refl

nine : (a b d e f g h i j : Bool) → (not a || (not b || (not d || (not e || (not f || (not g || (not h || (not i || (not j || false))))))))) ≡ not ((((a && b) && d) && ((e && f) && g)) && ((h && i) && j))
nine false b d e f g h i j = refl
nine true false d e f g h i j = refl
nine true true false e f g h i j = refl
nine true true true false f g h i j = refl
nine true true true true false g h i j = refl
nine true true true true true false h i j = refl
nine true true true true true true h i j = three h i j

-- an input: one of its numbers, else its size
bad_numbers_of : (a b d : Bool) → (not a || (not b || false)) ≡ true → true ≡ not ((a && b) && d)
bad_numbers_of false b d h = refl
bad_numbers_of true false d h = refl
bad_numbers_of true true d h = cc

pub bad_input_number : (i : InputPartsValue) → list_any is_outside (input_numbers i) ≡ true → true ≡ not (is_input i)
unfolding is_input
bad_input_number i h = bad_numbers_of (is_rate i.rate) (is_between 0 MAX_OFFSET i.offset) (is_size i.size) h

size_left_of : (a b d any : Bool) → (not a || (not b || false)) ≡ false → any ≡ not d → any ≡ not ((a && b) && d)
size_left_of false b d any h t = cc
size_left_of true false d any h t = cc
size_left_of true true d any h t = t

pub size_left : (i : InputPartsValue) (any : Bool) → list_any is_outside (input_numbers i) ≡ false → any ≡ not (is_size i.size) → any ≡ not (is_input i)
unfolding is_input
size_left i any h t = size_left_of (is_rate i.rate) (is_between 0 MAX_OFFSET i.offset) (is_size i.size) any h t

pub stream_is : (s : StreamParts) → list_any is_outside (stream_numbers s) ≡ not (is_stream s)
unfolding is_stream
stream_is s = three (is_pid s.pid) (is_pid s.out) (is_between MIN_LEAK MAX_LEAK s.leak)

top_are : (p : PartsValue) → list_any is_outside (top_numbers p) ≡ not ((has_good_rates p && has_good_sizes p) && has_good_ids p)
unfolding has_good_rates has_good_sizes has_good_ids
top_are p =
    nine (is_rate p.rate) (is_between 1 MAX_SLOTS p.period) (is_between 1 MAX_SLOTS p.watch) (is_between 0 MAX_VERSION p.version) (is_between 1 MAX_ITEMS p.queue)
    (is_between 1 MAX_ITEMS p.ring) (is_between 0 MAX_ID p.transport_stream_id) (is_between 0 MAX_ID p.original_network_id) (is_between 0 MAX_ID p.network_id)

-- a service
pub streams_are : (xs : List StreamParts) → list_any (λ s. list_any is_outside (stream_numbers s)) xs ≡ not (list_all is_stream xs)
streams_are xs = list_any_agree (λ s. list_any is_outside (stream_numbers s)) (λ s. not (is_stream s)) stream_is xs ∙ not_all is_stream xs

no_place_of : (a b d : Bool) → a ≡ false → true ≡ not ((a && b) && d)
no_place_of true b d h = cc
no_place_of false b d h = refl

pub bad_place : (count : ℕ) (s : ServicePartsValue) → is_place count s.input ≡ false → true ≡ not (is_service count s)
unfolding is_service
bad_place count s h = no_place_of (is_place count s.input) (is_program_number s.program) ((is_program_number s.service && is_pid s.pmt) && list_all is_stream s.streams) h

bad_number_of : (a b d e f : Bool) → a ≡ true → (not b || (not d || (not e || false))) ≡ true → true ≡ not ((a && b) && ((d && e) && f))
bad_number_of false b d e f h k = cc
bad_number_of true false d e f h k = refl
bad_number_of true true false e f h k = refl
bad_number_of true true true false f h k = refl
bad_number_of true true true true f h k = cc

pub bad_number : (count : ℕ) (s : ServicePartsValue) → is_place count s.input ≡ true → list_any is_outside (service_numbers s) ≡ true → true ≡ not (is_service count s)
unfolding is_service
bad_number count s h k =
    bad_number_of (is_place count s.input) (is_program_number s.program) (is_program_number s.service) (is_pid s.pmt) (list_all is_stream s.streams) h k

streams_left_of : (a b d e f any : Bool) → a ≡ true → (not b || (not d || (not e || false))) ≡ false → any ≡ not f → any ≡ not ((a && b) && ((d && e) && f))
streams_left_of false b d e f any h k t = cc
streams_left_of true false d e f any h k t = cc
streams_left_of true true false e f any h k t = cc
streams_left_of true true true false f any h k t = cc
streams_left_of true true true true f any h k t = t

pub streams_left : (count : ℕ) (s : ServicePartsValue) (any : Bool) → is_place count s.input ≡ true → list_any is_outside (service_numbers s) ≡ false
    → any ≡ list_any (λ r. list_any is_outside (stream_numbers r)) s.streams → any ≡ not (is_service count s)
unfolding is_service
streams_left count s any h k t =
    streams_left_of (is_place count s.input) (is_program_number s.program) (is_program_number s.service) (is_pid s.pmt) (list_all is_stream s.streams) any h k (t ∙ streams_are s.streams)

-- a count, and what is counted
count_fails : (a b : Bool) → a ≡ false → true ≡ not (a && b)
count_fails true b h = cc
count_fails false b h = refl

count_holds : (a b any : Bool) → a ≡ true → any ≡ not b → any ≡ not (a && b)
count_holds true b any h t = t
count_holds false b any h t = cc

pub bad_name_length : (name : List ℕ) → is_count_between 1 MAX_NAME (length name) ≡ false → true ≡ not (is_network_name name)
unfolding is_network_name
bad_name_length name h = count_fails (is_count_between 1 MAX_NAME (length name)) (list_all is_letter name) h

pub name_left : (name : List ℕ) (any : Bool) → is_count_between 1 MAX_NAME (length name) ≡ true → any ≡ list_any (λ b. not (is_letter b)) name → any ≡ not (is_network_name name)
unfolding is_network_name
name_left name any h t = count_holds (is_count_between 1 MAX_NAME (length name)) (list_all is_letter name) any h (t ∙ not_all is_letter name)

pub bad_input_count : (inputs : List InputPartsValue) → is_count_between 1 MAX_INPUTS (length inputs) ≡ false → true ≡ not (are_inputs inputs)
unfolding are_inputs
bad_input_count inputs h = count_fails (is_count_between 1 MAX_INPUTS (length inputs)) (list_all is_input inputs) h

pub inputs_left : (inputs : List InputPartsValue) (any : Bool) → is_count_between 1 MAX_INPUTS (length inputs) ≡ true
    → any ≡ list_any (λ i. not (is_input i)) inputs → any ≡ not (are_inputs inputs)
unfolding are_inputs
inputs_left inputs any h t =
    count_holds (is_count_between 1 MAX_INPUTS (length inputs)) (list_all is_input inputs) any h (t ∙ not_all is_input inputs)

pub bad_service_count : (count : ℕ) (services : List ServicePartsValue) → is_count_between 1 MAX_SERVICES (length services) ≡ false → true ≡ not (are_services count services)
unfolding are_services
bad_service_count count services h = count_fails (is_count_between 1 MAX_SERVICES (length services)) (list_all (is_service count) services) h

pub services_left : (count : ℕ) (services : List ServicePartsValue) (any : Bool) → is_count_between 1 MAX_SERVICES (length services) ≡ true
    → any ≡ list_any (λ s. not (is_service count s)) services → any ≡ not (are_services count services)
unfolding are_services
services_left count services any h t =
    count_holds (is_count_between 1 MAX_SERVICES (length services)) (list_all (is_service count) services) any h (t ∙ not_all (is_service count) services)

-- the descriptors
pub long_descriptors : (bytes : List ℕ) → MAX_DESCRIPTORS < length bytes → are_descriptors bytes ≡ false
unfolding are_descriptors
long_descriptors bytes h = let long : nat_le (length bytes) MAX_DESCRIPTORS ≡ false = grind (arith, nat_tests) in rw long refl

pub descriptors_are : (bytes : List ℕ) (whole : Bool) → length bytes ≤ MAX_DESCRIPTORS → are_whole 0 bytes ≡ whole → are_descriptors bytes ≡ whole
unfolding are_descriptors
descriptors_are bytes whole h e = let short : nat_le (length bytes) MAX_DESCRIPTORS ≡ true = grind (arith, nat_tests) in rw (short, e) refl

-- the top
bad_first_of : (a b d : Bool) → not a ≡ true → true ≡ not ((a && b) && d)
bad_first_of true b d h = cc
bad_first_of false b d h = refl

pub bad_top_number : (p : PartsValue) → list_any is_outside (top_numbers p) ≡ true → true ≡ not (has_good_top p)
unfolding has_good_top
bad_top_number p h =
    bad_first_of ((has_good_rates p && has_good_sizes p) && has_good_ids p) (is_network_name p.network_name) (are_descriptors p.transport_descriptors) (sym (top_are p) ∙ h)

bad_second_of : (a b d : Bool) → not b ≡ true → true ≡ not ((a && b) && d)
bad_second_of a true d h = cc
bad_second_of true false d h = refl
bad_second_of false false d h = refl

pub bad_name : (p : PartsValue) → not (is_network_name p.network_name) ≡ true → true ≡ not (has_good_top p)
unfolding has_good_top
bad_name p h = bad_second_of ((has_good_rates p && has_good_sizes p) && has_good_ids p) (is_network_name p.network_name) (are_descriptors p.transport_descriptors) h

third_left_of : (a b d any : Bool) → not a ≡ false → not b ≡ false → any ≡ not d → any ≡ not ((a && b) && d)
third_left_of false b d any h k t = cc
third_left_of true false d any h k t = cc
third_left_of true true d any h k t = t

pub descriptors_left : (p : PartsValue) (any : Bool) → list_any is_outside (top_numbers p) ≡ false → not (is_network_name p.network_name) ≡ false
    → any ≡ not (are_descriptors p.transport_descriptors) → any ≡ not (has_good_top p)
unfolding has_good_top
descriptors_left p any h k t =
    third_left_of ((has_good_rates p && has_good_sizes p) && has_good_ids p) (is_network_name p.network_name) (are_descriptors p.transport_descriptors) any (sym (top_are p) ∙ h) k t

-- the lists
pub bad_inputs : (p : PartsValue) → are_inputs p.inputs ≡ false → has_good_lists p ≡ false
unfolding has_good_lists
bad_inputs p h = rw h refl

pub lists_are : (p : PartsValue) (services : Bool) → are_inputs p.inputs ≡ true → are_services (length p.inputs) p.services ≡ services → has_good_lists p ≡ services
unfolding has_good_lists
lists_are p services h k = rw (h, k) refl

-- what a test has that was turned round
pub good_of : (b : Bool) → not b ≡ false → b ≡ true
good_of true h = refl
good_of false h = cc

pub bad_of : (b : Bool) → not b ≡ true → b ≡ false
bad_of true h = cc
bad_of false h = refl
