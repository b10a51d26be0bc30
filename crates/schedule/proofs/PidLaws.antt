-- Whether a plan has an output PID, as the code finds it.
use Rattle.std.proofs.Common.{ℕ, ◌≡◌, ◌<◌, ◌∙◌, ◌||◌, ◌&&◌, Bool, true, false, not, List, [], ◌∷◌, length, map, get_or, ap, refl, sym, subst, inl, inr, arith}
use Rattle.std.specs.Prelude.{◌==◌, ◌↔◌, IsTrue}
use Rattle.std.specs.List.{All, Any, Contains, list_any}
use Rattle.std.proofs.lemmas.Bool.Decides.{nat_tests}
use Rattle.std.proofs.lemmas.List.{length-map, get_or-map}
use Rattle.std.proofs.lemmas.List.Folds.{Any-from_list_any, list_any-from_Any, list_any_at}
use Rattle.std.proofs.lemmas.List.Elements.{Contains-append_left, Contains-append_right, Contains-append_cases}
use Rattle.request.specs.declared.stream.Stream.{Stream}
use Rattle.request.specs.Request.{RequestValue, ServiceValue}
use Rattle.schedule.specs.Switches.{output_pids, HasPmtOf}

pub are_one : (a b : ℕ) → (a == b) ≡ true → a ≡ b
are_one a b e = grind (arith, nat_tests)

pub is_one : (a b : ℕ) → a ≡ b → (a == b) ≡ true
is_one a b e = grind (arith, nat_tests)

-- a number of an element, found by looking at each
found : {X : Type 0} (f : X → ℕ) (pid : ℕ) (xs : List X) → list_any (λ x. f x == pid) xs ≡ true → Contains (map f xs) pid
found f pid xs e =
    let a = Any-from_list_any (λ x. f x == pid) xs e in
    let size = length-map xs f in
    (a.0, omega (arith, a.2, size), get_or-map f xs a.0 a.1 pid a.2 ∙ ap f a.3 ∙ are_one (f a.1) pid a.4)

finds : {X : Type 0} (f : X → ℕ) (pid : ℕ) (xs : List X) → Contains (map f xs) pid → list_any (λ x. f x == pid) xs ≡ true
finds f pid [] c = absurd (omega (arith, c.1))
finds f pid (x ∷ xs) c =
    let size = length-map (x ∷ xs) f in
    let within : c.0 < length (x ∷ xs) = omega (arith, c.1, size) in
    list_any_at (λ y. f y == pid) (x ∷ xs) c.0 x within
    (is_one (f (get_or (x ∷ xs) c.0 x)) pid (sym (get_or-map f (x ∷ xs) c.0 x pid within) ∙ c.2))

abbrev pub has_stream_pid : RequestValue → ℕ → Bool
has_stream_pid r pid = list_any (λ (st : Stream). st.output_pid == pid) r.streams

abbrev pub has_pmt_pid : RequestValue → ℕ → Bool
has_pmt_pid r pid = list_any (λ (v : ServiceValue). v.pmt == pid) r.services

pub unlike : false ≡ true → ⊥
unlike e = cc

-- the output PIDs are those of streams and of PMTs
pub among : (r : RequestValue) (pid : ℕ) (a b : Bool) → a ≡ has_stream_pid r pid → b ≡ has_pmt_pid r pid → IsTrue (a || b) ↔ Contains (output_pids r) pid
among r pid a b ea eb = (to a b ea eb, from a b ea eb)
  where
    to : (a b : Bool) → a ≡ has_stream_pid r pid → b ≡ has_pmt_pid r pid → IsTrue (a || b) → Contains (output_pids r) pid
    to true b ea eb e = Contains-append_left (map (λ (st : Stream). st.output_pid) r.streams) (map (λ (v : ServiceValue). v.pmt) r.services) pid
        (found (λ (st : Stream). st.output_pid) pid r.streams (sym ea))
    to false true ea eb e = Contains-append_right (map (λ (st : Stream). st.output_pid) r.streams) (map (λ (v : ServiceValue). v.pmt) r.services) pid
        (found (λ (v : ServiceValue). v.pmt) pid r.services (sym eb))
    to false false ea eb e = cc

    from : (a b : Bool) → a ≡ has_stream_pid r pid → b ≡ has_pmt_pid r pid → Contains (output_pids r) pid → IsTrue (a || b)
    from true b ea eb c = refl
    from false b ea eb c =
        elim (Contains-append_cases (map (λ (st : Stream). st.output_pid) r.streams) (map (λ (v : ServiceValue). v.pmt) r.services) pid c) [
          | inl d ↦ (let t = finds (λ (st : Stream). st.output_pid) pid r.streams d in absurd (unlike (ea ∙ t)))
          | inr d ↦ eb ∙ finds (λ (v : ServiceValue). v.pmt) pid r.services d
        ]

-- a test of one thing where another holds
pub implied : (a b : Bool) (P Q : Type 0) → IsTrue a ↔ P → IsTrue b ↔ Q → IsTrue (not a || b) ↔ (P → Q)
implied true true P Q p q = (λ e have. q.0 refl, λ h. refl)
implied true false P Q p q = (λ e have. cc, λ h. q.1 (h (p.0 refl)))
implied false b P Q p q = (λ e have. absurd (unlike (p.1 have)), λ h. refl)

-- an element by a test of each
any_is : {X : Type 0} (test : X → Bool) (P : X → Type 0) → ((x : X) → IsTrue (test x) ↔ P x) → (xs : List X) → IsTrue (list_any test xs) ↔ Any P xs
any_is test P says xs = (
  λ e. (let a = Any-from_list_any test xs e in (a.0, a.1, a.2, a.3, (says a.1).0 a.4)),
  λ a. list_any-from_Any test xs (a.0, a.1, a.2, a.3, (says a.1).1 a.4),
)

both_are : (a b c d : ℕ) → IsTrue (a == c && b == d) ↔ ((a ≡ c) × (b ≡ d))
both_are a b c d = (λ e. (grind (arith, nat_tests), grind (arith, nat_tests)), λ e. grind (arith, nat_tests))

-- the PMT of a service, as the code finds it
pub has_pmt : (r : RequestValue) (v : ServiceValue) (b : Bool) → b ≡ list_any (λ (u : ServiceValue). u.service == v.service && u.pmt == v.pmt) r.services
    → IsTrue b ↔ HasPmtOf r v
has_pmt r v b e =
    let is = any_is (λ (u : ServiceValue). u.service == v.service && u.pmt == v.pmt) (λ (u : ServiceValue). (u.service ≡ v.service) × (u.pmt ≡ v.pmt))
    (λ u. both_are u.service u.pmt v.service v.pmt) r.services in
    (λ t. is.0 (sym e ∙ t), λ h. e ∙ is.1 h)

-- what holds of each element, said of what is made of it
pub all_of_map : {X Y : Type 0} (P : Y → Type 0) (f : X → Y) (xs : List X) → All P (map f xs) → All (λ x. P (f x)) xs
all_of_map P f xs h k d within =
    let size = length-map xs f in subst P (get_or-map f xs k d (f d) within) (h k (f d) (omega (arith, size, within)))
