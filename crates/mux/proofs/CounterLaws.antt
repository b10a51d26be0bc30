-- The counters of the PIDs, after one more packet.
use Rattle.std.proofs.Common.{ℕ, ◌+◌, ◌%◌, ◌<◌, ◌≡◌, ◌≢◌, Bool, cond, nat_eq, List, [], ◌∷◌, ◌++◌, length, map, set, get_or, replicate, refl, ap, ◌∙◌, sym, arith, inl, inr, length-append, All}
use Rattle.std.specs.List.{range_with_len}
use Rattle.std.proofs.lemmas.List.{append-nil, length-replicate, get_or-replicate}
use Rattle.std.proofs.lemmas.List.Elements.{filter-append}
use Rattle.std.proofs.lemmas.List.FromFn.{length-range_with_len, get_or-range_with_len, get_or-map-range_with_len}
use Rattle.std.proofs.lemmas.Bool.{cases_Bool, eq-eqb, ne_eqb}
use Rattle.tspkt.specs.Packet.{pid_of}
use Rattle.emission.specs.Emission.{of_pid}
use Rattle.mux.specs.PidCounters.{counters_of, counted}
use Rattle.mux.proofs.Lists.{set_map}

-- how many packets a PID has, modulo 16
abbrev count_of : List (List ℕ) → ℕ → ℕ
count_of packets pid = length (of_pid pid packets) % 16

one_more : (pid : ℕ) (qs : List (List ℕ)) (q : List ℕ) → length (of_pid pid (qs ++ q ∷ [])) ≡ cond (nat_eq (pid_of q) pid) (length (of_pid pid qs) + 1) (length (of_pid pid qs))
one_more pid qs q =
    let test : List ℕ → Bool = λ x. nat_eq (pid_of x) pid in
    ap length (filter-append test qs (q ∷ []))
    ∙ elim (cases_Bool (nat_eq (pid_of q) pid)) [
      | inl e ↦ rw e (length-append (of_pid pid qs) (q ∷ []))
      | inr e ↦ rw e (ap length (append-nil (of_pid pid qs)))
    ]

pub counter_at : (packets : List (List ℕ)) (pid d : ℕ) → pid < 8192 → get_or (counters_of packets) pid d ≡ count_of packets pid
counter_at packets pid d l = get_or-map-range_with_len (count_of packets) 0 8192 pid pid d l (omega arith)

set_count : (before after : ℕ → ℕ) (n i : ℕ) → i < n → ((j : ℕ) → j ≢ i → before j ≡ after j)
    → set (map before (range_with_len 0 n)) i (after i) ≡ map after (range_with_len 0 n)
set_count before after n i l others =
    let at : (j : ℕ) → j < n → get_or (range_with_len 0 n) j 0 ≡ j = λ j m. get_or-range_with_len 0 n j 0 m ∙ omega arith in
    ap (λ k. set (map before (range_with_len 0 n)) i (after k)) (sym (at i l))
    ∙ set_map before after (range_with_len 0 n) i 0 (omega (arith, length-range_with_len 0 n)) (λ j m ne. others _ (λ same. ne (sym (at j (omega (arith, length-range_with_len 0 n))) ∙ same)))

step : (n : ℕ) → (n % 16 + 1) % 16 ≡ (n + 1) % 16
step n = omega arith

-- one more packet of a PID
pub counted_more : (packets : List (List ℕ)) (q : List ℕ) → pid_of q < 8192 → counted (counters_of packets) (pid_of q) ≡ counters_of (packets ++ q ∷ [])
counted_more packets q l =
    let pid = pid_of q in
    let after = count_of (packets ++ q ∷ []) in
    let grown : length (of_pid pid (packets ++ q ∷ [])) ≡ length (of_pid pid packets) + 1 =
    one_more pid packets q ∙ ap (λ b. cond b (length (of_pid pid packets) + 1) (length (of_pid pid packets))) (eq-eqb pid pid refl) in
    let here : (get_or (counters_of packets) pid 0 + 1) % 16 ≡ after pid =
    ap (λ n. (n + 1) % 16) (counter_at packets pid 0 l) ∙ step (length (of_pid pid packets)) ∙ ap (λ n. n % 16) (sym grown) in
    ap (set (counters_of packets) pid) here
    ∙ set_count (count_of packets) after 8192 pid l (λ j ne. sym (ap (λ n. n % 16) (one_more j packets q ∙ ap (λ b. cond b (length (of_pid j packets) + 1) (length (of_pid j packets))) (ne_eqb pid j (λ e. ne (sym e))))))

map_zero : (xs : List ℕ) → replicate (length xs) 0 ≡ map (count_of []) xs
map_zero [] = refl
map_zero (x ∷ xs) = ap (λ ys. 0 ∷ ys) (map_zero xs)

pub counters_none : replicate 8192 0 ≡ counters_of []
counters_none = ap (λ n. replicate n 0) (sym (length-range_with_len 0 8192)) ∙ map_zero (range_with_len 0 8192)

pub all_zero : (n : ℕ) → (length {A = ℕ} (replicate n 0) ≡ n) × All (λ (k : ℕ). k < 16) (replicate n 0)
all_zero n =
    let zeros : List ℕ = replicate n 0 in
    let zero : ℕ = 0 in
    let size : length zeros ≡ n = length-replicate n zero in
    (size, λ i d l. let e : get_or zeros i d ≡ 0 = get_or-replicate n i zero d (omega (arith, size)) in omega arith)
