-- What is counted of a PID behind one packet more.
use Rattle.std.proofs.Common.{◌≡◌, ℕ, suc, ◌+◌, ◌<◌, ◌≤◌, ◌==◌, max, Bool, true, false, if◌then◌else◌, List, [], ◌∷◌, length, replicate, get_or, slice_set, Option, Some, None, unwrap_or, refl, arith, ap, sym, subst, ◌∙◌, zero-add, add_comm, cond}
use Rattle.std.proofs.lemmas.Bool.{eqb-true, eqb-false, eq-eqb, ne_eqb}
use Rattle.std.proofs.lemmas.List.Sums.{sum_by-cons}
use Rattle.std.proofs.lemmas.List.{length-replicate, get_or-replicate, get_or-set_same, get_or-set_other, length-set}
use Rattle.std.specs.List.{count_by}
use Rattle.rate_meter.specs.Line.{within_64}
use Rattle.probe.specs.declared.place.Place.{Place}
use Rattle.probe.specs.declared.occurrences.Occurrences.{Occurrences}
use Rattle.probe.specs.declared.sighting.Sighting.{Sighting}
use Rattle.probe.specs.declared.pid_count.PidCount.{PidCount}
use Rattle.probe.specs.Occurring.{first_of, occurrences_of, once_more}
use Rattle.probe.specs.Counts.{is_of, is_scrambled_of, has_error_of, window_behind, in_window, most_in_window}
use Rattle.probe.specs.Counting.{IsKeptCount, AreCounts}

not_counted : (p : Sighting → Bool) (s : Sighting) (seen : List Sighting) → p s ≡ false → count_by p (s ∷ seen) ≡ count_by p seen
not_counted p s seen e =
    sum_by-cons (λ x. cond (p x) 1 0) s seen ∙ ap (λ (b : Bool). cond b 1 0 + count_by p seen) e ∙ zero-add (count_by p seen)

counted_once : (p : Sighting → Bool) (s : Sighting) (seen : List Sighting) → p s ≡ true → count_by p (s ∷ seen) ≡ count_by p seen + 1
counted_once p s seen e =
    sum_by-cons (λ x. cond (p x) 1 0) s seen ∙ ap (λ (b : Bool). cond b 1 0 + count_by p seen) e ∙ add_comm 1 (count_by p seen)

-- where the first of them stands is the same behind one that doesn't pass
first_stays : (p : Sighting → Bool) (s : Sighting) (seen : List Sighting) (o : Option Place) → first_of p seen ≡ o → p s ≡ false
    → first_of p (s ∷ seen) ≡ first_of p seen
first_stays p s seen None h e = rw (h, e) refl
first_stays p s seen (Some place) h e = rw h refl

-- behind one that passes there is a first one
first_comes : (p : Sighting → Bool) (s : Sighting) (seen : List Sighting) (o : Option Place) → first_of p seen ≡ o → p s ≡ true
    → first_of p (s ∷ seen) ≡ Some (unwrap_or (first_of p seen) s.place)
first_comes p s seen None h e = rw (h, e) refl
first_comes p s seen (Some place) h e = rw h refl

alike : (m n : ℕ) (a b : Option Place) (c d : Occurrences) → c ≡ record { count = m; first = a } → d ≡ record { count = n; first = b } → m ≡ n → a ≡ b → c ≡ d
alike m n a b c d e f g h = cc

occurrences_stay : (p : Sighting → Bool) (s : Sighting) (seen : List Sighting) → p s ≡ false → occurrences_of p (s ∷ seen) ≡ occurrences_of p seen
occurrences_stay p s seen e =
    alike _ _ _ _ _ _ refl refl (ap within_64 (not_counted p s seen e)) (first_stays p s seen (first_of p seen) refl e)

more : (n : ℕ) → within_64 (n + 1) ≡ within_64 (within_64 n + 1)
more n = omega arith

more_packets : (n : ℕ) → within_64 (suc n) ≡ within_64 (within_64 n + 1)
more_packets n = omega arith

occurrences_grow : (p : Sighting → Bool) (s : Sighting) (seen : List Sighting) → p s ≡ true
    → occurrences_of p (s ∷ seen) ≡ once_more s.place (occurrences_of p seen)
occurrences_grow p s seen e =
    alike _ _ _ _ _ _ refl refl (ap within_64 (counted_once p s seen e) ∙ more (count_by p seen)) (first_comes p s seen (first_of p seen) refl e)

-- what was told of packets, and then of one more
told : (p : Sighting → Bool) (s : Sighting) (seen : List Sighting) (passes : Bool) (c d : Occurrences) → p s ≡ passes
    → c ≡ occurrences_of p seen → d ≡ (if passes then once_more s.place c else c) → d ≡ occurrences_of p (s ∷ seen)
told p s seen true c d e before after = after ∙ ap (once_more s.place) before ∙ sym (occurrences_grow p s seen e)
told p s seen false c d e before after = after ∙ before ∙ sym (occurrences_stay p s seen e)

same : (n : ℕ) → (n == n) ≡ true
same n = eq-eqb n n refl

-- a packet of another PID, or of another window
elsewhere : (pid window : ℕ) (s : Sighting) (seen : List Sighting) (is : Bool) → (s.pid == pid) ≡ is → (window_behind seen == window) ≡ false
    → in_window pid window (s ∷ seen) ≡ in_window pid window seen
elsewhere pid window s seen true m e = rw (m, e) (zero-add (in_window pid window seen))
elsewhere pid window s seen false m e = rw m (zero-add (in_window pid window seen))

another : (pid window : ℕ) (s : Sighting) (seen : List Sighting) → (s.pid == pid) ≡ false → in_window pid window (s ∷ seen) ≡ in_window pid window seen
another pid window s seen e = rw e (zero-add (in_window pid window seen))

here : (s : Sighting) (seen : List Sighting) → in_window s.pid (window_behind seen) (s ∷ seen) ≡ in_window s.pid (window_behind seen) seen + 1
here s seen = rw (same s.pid, same (window_behind seen)) (omega arith)

no_more_by : (pid window most : ℕ) (s : Sighting) (seen : List Sighting) (is : Bool) → (window_behind seen == window) ≡ is
    → within_64 (in_window pid window seen) ≤ most
    → within_64 (in_window pid window (s ∷ seen)) ≤ max (within_64 (in_window pid (window_behind seen) (s ∷ seen))) most
no_more_by pid window most s seen true e h =
    let P : ℕ → Type 0 = λ w. within_64 (in_window pid w (s ∷ seen)) ≤ max (within_64 (in_window pid (window_behind seen) (s ∷ seen))) most in
    let here : P (window_behind seen) = omega arith in
    subst P (eqb-true (window_behind seen) window e) here
no_more_by pid window most s seen false e h =
    let stays = elsewhere pid window s seen (s.pid == pid) refl e in
    omega (arith, stays)

-- no window has more than the most
pub no_window_above : (pid window : ℕ) (seen : List Sighting) → within_64 (in_window pid window seen) ≤ most_in_window pid seen
no_window_above pid window [] = omega arith
no_window_above pid window (s ∷ seen) =
    no_more_by pid window (most_in_window pid seen) s seen (window_behind seen == window) refl (no_window_above pid window seen)

later_window : (s : Sighting) (seen : List Sighting) → window_behind seen ≤ window_behind (s ∷ seen)
later_window s seen = omega arith

-- a packet of another PID
pub count_stays : (pid : ℕ) (s : Sighting) (seen : List Sighting) (c : PidCount) → (s.pid == pid) ≡ false → IsKeptCount pid seen c → IsKeptCount pid (s ∷ seen) c
count_stays pid s seen c e k = record {
  count = record {
    all_are = k.count.all_are ∙ sym (occurrences_stay (is_of pid) s seen e);
    scrambled_are = k.count.scrambled_are ∙ sym (occurrences_stay (is_scrambled_of pid) s seen (rw e refl));
    errors_are = k.count.errors_are ∙ sym (occurrences_stay (has_error_of pid) s seen (rw e refl));
    highest_is =
        let stays = another pid (window_behind seen) s seen e in
        let above = no_window_above pid (window_behind seen) seen in
        let is = k.count.highest_is in
        omega (arith, stays, above, is);
  };
  begun = let later = later_window s seen in omega (arith, later, k.begun);
  newest = k.newest ∙ sym (ap within_64 (another pid c.window s seen e));
  later = λ window h. another pid window s seen e ∙ k.later window h;
}

-- how many packets of the PID the window had that a packet comes in
begun_by : (pid : ℕ) (seen : List Sighting) (c : PidCount) (is : Bool) → (window_behind seen == c.window) ≡ is → IsKeptCount pid seen c
    → (if is then c.in_window else 0) ≡ within_64 (in_window pid (window_behind seen) seen)
begun_by pid seen c true e k =
    let P : ℕ → Type 0 = λ w. c.in_window ≡ within_64 (in_window pid w seen) in
    subst P (sym (eqb-true (window_behind seen) c.window e)) k.newest
begun_by pid seen c false e k =
    let apart : c.window < window_behind seen = grind (arith, k.begun, e) in
    sym (ap within_64 (k.later (window_behind seen) apart))

-- a later window than that of the newest packet
none_later : (pid window : ℕ) (s : Sighting) (seen : List Sighting) (c : PidCount) → IsKeptCount pid seen c → window_behind seen < window
    → in_window pid window (s ∷ seen) ≡ 0
none_later pid window s seen c k h =
    let apart : (window_behind seen == window) ≡ false = grind arith in
    let later : c.window < window = omega (arith, k.begun) in
    elsewhere pid window s seen (s.pid == pid) refl apart ∙ k.later window later

-- one of the PID itself
pub count_grows : (s : Sighting) (seen : List Sighting) (c d : PidCount) → IsKeptCount s.pid seen c
    → d.all ≡ once_more s.place c.all
    → d.scrambled ≡ (if s.is_scrambled then once_more s.place c.scrambled else c.scrambled)
    → d.errors ≡ (if s.has_error then once_more s.place c.errors else c.errors)
    → d.window ≡ window_behind seen
    → d.in_window ≡ within_64 ((if window_behind seen == c.window then c.in_window else 0) + 1)
    → d.highest ≡ max c.highest d.in_window
    → IsKeptCount s.pid (s ∷ seen) d
count_grows s seen c d k all scrambled errors window in_it highest =
    let w = window_behind seen in
    let begun = begun_by s.pid seen c (w == c.window) refl k in
    let grown : d.in_window ≡ within_64 (in_window s.pid w (s ∷ seen)) =
    in_it ∙ ap (λ (n : ℕ). within_64 (n + 1)) begun ∙ sym (more (in_window s.pid w seen)) ∙ sym (ap within_64 (here s seen)) in
    record {
      count = record {
        all_are = all ∙ ap (once_more s.place) k.count.all_are ∙ sym (occurrences_grow (is_of s.pid) s seen (same s.pid));
        scrambled_are =
            told (is_scrambled_of s.pid) s seen s.is_scrambled c.scrambled d.scrambled (rw (same s.pid) refl) k.count.scrambled_are scrambled;
        errors_are = told (has_error_of s.pid) s seen s.has_error c.errors d.errors (rw (same s.pid) refl) k.count.errors_are errors;
        highest_is = let is = k.count.highest_is in omega (arith, is, grown, highest);
      };
      begun = let later = later_window s seen in omega (arith, later, window);
      newest =
          let P : ℕ → Type 0 = λ v. d.in_window ≡ within_64 (in_window s.pid v (s ∷ seen)) in
          subst P (sym window) grown;
      later = λ v h. none_later s.pid v s seen c k (omega (arith, window, h));
    }

-- the count of the window of a packet, where that is the window of the newest one, and where it isn't
pub begun_then : (behind window before held : ℕ) → behind ≡ window → before ≡ held → before ≡ (if behind == window then held else 0)
begun_then behind window before held e f = rw (eq-eqb behind window e) f

pub begun_else : (behind window before held : ℕ) → (behind ≡ window → ⊥) → before ≡ 0 → before ≡ (if behind == window then held else 0)
begun_else behind window before held e f = rw (ne_eqb behind window e) f

-- no packet was seen
pub counts_begin : (n : ℕ) (counts : List PidCount) (none : PidCount) → n ≡ 8192 → ((pid : ℕ) → IsKeptCount pid [] none)
    → counts ≡ replicate n none → AreCounts [] 0 counts
counts_begin n counts none e is same =
    let P : List PidCount → Type 0 = AreCounts [] 0 in
    let begun : P (replicate n none) = record {
      packets_are = refl;
      pids = length-replicate n none ∙ e;
      counts_are = λ pid h d.
          let Q : PidCount → Type 0 = IsKeptCount pid [] in
          subst Q (sym (get_or-replicate n pid none d (omega (arith, e)))) (is pid);
    } in
    subst P (sym same) begun

same_number : (a b : ℕ) → (a == b) ≡ true → a ≡ b
same_number a b e = eqb-true a b e

count_by_pid : (s : Sighting) (seen : List Sighting) (counts : List PidCount) (grown : PidCount) (pid : ℕ) (d : PidCount) (is : Bool)
    → (s.pid == pid) ≡ is → s.pid < length counts → IsKeptCount s.pid (s ∷ seen) grown → IsKeptCount pid seen (get_or counts pid d)
    → IsKeptCount pid (s ∷ seen) (get_or (slice_set counts s.pid grown) pid d)
count_by_pid s seen counts grown pid d true e within own k =
    let P : ℕ → Type 0 = λ n. IsKeptCount n (s ∷ seen) (get_or (slice_set counts s.pid grown) n d) in
    let Q : PidCount → Type 0 = IsKeptCount s.pid (s ∷ seen) in
    subst P (same_number s.pid pid e) (subst Q (sym (get_or-set_same counts s.pid grown d within)) own)
count_by_pid s seen counts grown pid d false e within own k =
    let other : pid ≡ s.pid → ⊥ = λ h. eqb-false s.pid pid e (sym h) in
    let Q : PidCount → Type 0 = IsKeptCount pid (s ∷ seen) in
    subst Q (sym (get_or-set_other counts s.pid pid grown d other)) (count_stays pid s seen (get_or counts pid d) e k)

-- one packet more, of a PID that is counted
pub counts_grow : (s : Sighting) (seen : List Sighting) (packets more : ℕ) (counts : List PidCount) (grown : PidCount) → s.pid < 8192
    → AreCounts seen packets counts → more ≡ within_64 (packets + 1) → IsKeptCount s.pid (s ∷ seen) grown
    → AreCounts (s ∷ seen) more (slice_set counts s.pid grown)
counts_grow s seen packets more counts grown within k e own = record {
  packets_are = e ∙ ap (λ (n : ℕ). within_64 (n + 1)) k.packets_are ∙ sym (more_packets (length seen));
  pids = length-set counts s.pid grown ∙ k.pids;
  counts_are = λ pid h d.
      count_by_pid s seen counts grown pid d (s.pid == pid) refl (omega (arith, k.pids)) own (k.counts_are pid h d);
}

-- one of a PID that isn't
pub counts_stay : (s : Sighting) (seen : List Sighting) (packets more : ℕ) (counts : List PidCount) → 8192 ≤ s.pid
    → AreCounts seen packets counts → more ≡ within_64 (packets + 1) → AreCounts (s ∷ seen) more counts
counts_stay s seen packets more counts past k e = record {
  packets_are = e ∙ ap (λ (n : ℕ). within_64 (n + 1)) k.packets_are ∙ sym (more_packets (length seen));
  pids = k.pids;
  counts_are = λ pid h d.
      let other : (s.pid == pid) ≡ false = ne_eqb s.pid pid (λ is. omega arith) in
      count_stays pid s seen (get_or counts pid d) other (k.counts_are pid h d);
}
