-- What a packet more does to the counters that are kept.
use Rattle.std.proofs.Common.{◌≡◌, ◌≢◌, ℕ, ◌+◌, ◌<◌, ◌==◌, nat_lt, ◌&&◌, ◌||◌, not, if◌then◌else◌, List, [], ◌∷◌, length, replicate, get_or, slice_set, slice_get, slice_index, Bool, true, false, Option, Some, None, is_some, refl, arith, subst, sym, ap, ◌∙◌}
use Rattle.std.proofs.lemmas.Grind.{common_steps}
use Rattle.std.proofs.lemmas.List.{get_or-replicate, get_or-set_same, get_or-set_other}
use Rattle.std.proofs.lemmas.Option.{slice_get-get_or}
use Rattle.rate_meter.specs.declared.seen.Seen.{Seen}
use Rattle.rate_meter.specs.Counters.{KeepsCounters, breaks_off, code_of, goes_on, goes_on_behind, is_cut, newest_of}

whole_at : (n i : ℕ) → i < n → slice_get (replicate n false) i ≡ Some false
whole_at n i h =
    let long : length (replicate n false) ≡ n = grind (arith, common_steps) in
    slice_get-get_or (replicate n false) i false (omega (arith, long)) ∙ ap (λ (b : Bool). Some b) (get_or-replicate n i false false h)

no_counters : (n : ℕ) → n ≡ 8191 → KeepsCounters [] (replicate n 0) (replicate n false)
no_counters n e = record {
  newest_pids = grind (arith, common_steps);
  cut_pids = grind (arith, common_steps);
  newest_are = λ pid h. get_or-replicate n pid 0 0 (omega (arith, e));
  cut_are = λ pid h. whole_at n pid (omega (arith, e));
}

pub counters_begin : (newest : List ℕ) (cut : List Bool) → newest ≡ replicate 8191 0 → cut ≡ replicate 8191 false → KeepsCounters [] newest cut
counters_begin newest cut e f =
    let P : List ℕ → Type 0 = λ xs. KeepsCounters [] xs cut in
    let Q : List Bool → Type 0 = λ xs. KeepsCounters [] (replicate 8191 0) xs in
    subst P (sym e) (subst Q (sym f) (no_counters 8191 refl))

-- a counter that is kept as a number says what it says itself
coded : (code : ℕ) (now : Seen) (before : Option ℕ) → code ≡ code_of before → goes_on_behind code now ≡ goes_on before now
coded code now None e = grind arith
coded code now (Some counter) e = grind arith

pub breaks : (seen : List Seen) (newest : List ℕ) (cut : List Bool) (s : Seen) → KeepsCounters seen newest cut → s.pid < 8191
    → (not s.is_discontinuous && not (goes_on_behind (slice_index newest s.pid) s)) ≡ breaks_off s seen
breaks seen newest cut s k within =
    let is : goes_on_behind (slice_index newest s.pid) s ≡ goes_on (newest_of s.pid seen) s =
    coded (slice_index newest s.pid) s (newest_of s.pid seen) (k.newest_are s.pid within) in
    let watched : nat_lt s.pid 8191 ≡ true = grind arith in
    rw (is, watched) refl

same_number : (a b : ℕ) → (a == b) ≡ true → a ≡ b
same_number a b e = grind arith

other_number : (a b : ℕ) → (a == b) ≡ false → b ≢ a
other_number a b e = grind arith

newest_by : (seen : List Seen) (newest : List ℕ) (s : Seen) (pid : ℕ) (b : Bool) → (s.pid == pid) ≡ b → s.pid < length newest
    → slice_index newest pid ≡ code_of (newest_of pid seen) → slice_index (slice_set newest s.pid (s.counter + 1)) pid ≡ code_of (newest_of pid (s ∷ seen))
newest_by seen newest s pid true e within h =
    let is : code_of (newest_of pid (s ∷ seen)) ≡ s.counter + 1 = rw e refl in
    let P : ℕ → Type 0 = λ n. slice_index (slice_set newest s.pid (s.counter + 1)) n ≡ s.counter + 1 in
    subst P (same_number s.pid pid e) (get_or-set_same newest s.pid (s.counter + 1) 0 within) ∙ sym is
newest_by seen newest s pid false e within h =
    let is : code_of (newest_of pid (s ∷ seen)) ≡ code_of (newest_of pid seen) = rw e refl in
    get_or-set_other newest s.pid pid (s.counter + 1) 0 (other_number s.pid pid e) ∙ h ∙ sym is

-- a packet of a PID that is watched
pub keeps : (seen : List Seen) (newest : List ℕ) (cut after : List Bool) (s : Seen) (b : Bool) → KeepsCounters seen newest cut
    → s.pid < 8191 → b ≡ breaks_off s seen → length after ≡ length cut
    → ((pid : ℕ) (before : Bool) → slice_get cut pid ≡ Some before
    → slice_get after pid ≡ Some (if (s.pid == pid) && is_some s.reading then false else (b || before)))
    → KeepsCounters (s ∷ seen) (slice_set newest s.pid (s.counter + 1)) after
keeps seen newest cut after s b k within broken same cuts = record {
  newest_pids = grind (arith, common_steps, k.newest_pids);
  cut_pids = same ∙ k.cut_pids;
  newest_are = λ pid h. newest_by seen newest s pid (s.pid == pid) refl (omega (arith, k.newest_pids)) (k.newest_are pid h);
  cut_are = λ pid h.
      cuts pid (is_cut pid seen) (k.cut_are pid h)
      ∙ ap (λ (x : Bool). Some (if (s.pid == pid) && is_some s.reading then false else (x || is_cut pid seen))) broken;
}

-- the same where the PID, the counter and whether there is a PCR are known by other names
pub keeps_at : (seen : List Seen) (newest : List ℕ) (cut after : List Bool) (s : Seen) (b reads : Bool) (place counter : ℕ)
    → KeepsCounters seen newest cut → place ≡ s.pid → counter ≡ s.counter → reads ≡ is_some s.reading → s.pid < 8191 → b ≡ breaks_off s seen
    → length after ≡ length cut
    → ((pid : ℕ) (before : Bool) → slice_get cut pid ≡ Some before
    → slice_get after pid ≡ Some (if (place == pid) && reads then false else (b || before)))
    → KeepsCounters (s ∷ seen) (slice_set newest place (counter + 1)) after
keeps_at seen newest cut after s b reads place counter k p n r within broken same cuts =
    let After : ℕ → ℕ → Type 0 = λ i v. KeepsCounters (s ∷ seen) (slice_set newest i (v + 1)) after in
    let P : ℕ → Type 0 = λ i. After i counter in
    let Q : ℕ → Type 0 = λ v. After s.pid v in
    let cuts_of = λ (pid : ℕ) (before : Bool) (h : slice_get cut pid ≡ Some before).
    cuts pid before h
    ∙ (ap (λ (i : ℕ). Some (if (i == pid) && reads then false else (b || before))) p
    ∙ ap (λ (x : Bool). Some (if (s.pid == pid) && x then false else (b || before))) r) in
    subst P (sym p) (subst Q (sym n) (keeps seen newest cut after s b k within broken same cuts_of))

not_watched : (seen : List Seen) (s : Seen) → nat_lt s.pid 8191 ≡ false → breaks_off s seen ≡ false
not_watched seen s e = rw e refl

another : (s : Seen) (pid : ℕ) → nat_lt s.pid 8191 ≡ false → pid < 8191 → (s.pid == pid) ≡ false
another s pid e h = grind arith

-- one of another PID
pub passes : (seen : List Seen) (newest : List ℕ) (cut : List Bool) (s : Seen) → KeepsCounters seen newest cut → nat_lt s.pid 8191 ≡ false
    → KeepsCounters (s ∷ seen) newest cut
passes seen newest cut s k e = record {
  newest_pids = k.newest_pids;
  cut_pids = k.cut_pids;
  newest_are = λ pid h. rw (another s pid e h) (k.newest_are pid h);
  cut_are = λ pid h. rw (another s pid e h, not_watched seen s e) (k.cut_are pid h);
}
