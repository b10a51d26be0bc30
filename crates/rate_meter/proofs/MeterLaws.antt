-- What a packet more does to the clocks and the counts.
use Rattle.std.proofs.Common.{◌≡◌, ℕ, List, [], ◌∷◌, map, replicate, Bool, true, false, IsTrue, All, Option, Some, None, get_or, refl, arith, subst, sym, ap, ◌∙◌, ◌≢◌, if◌then◌else◌}
use Rattle.std.proofs.lemmas.List.Elements.{All-map}
use Rattle.std.proofs.lemmas.Grind.{common_steps}
use Rattle.rate_meter.specs.declared.seen.Seen.{Seen}
use Rattle.rate_meter.specs.declared.reading.Reading.{Reading}
use Rattle.rate_meter.specs.declared.pid_clock.PidClock.{PidClock}
use Rattle.rate_meter.specs.Counters.{is_cut_off, marked}
use Rattle.rate_meter.specs.Meter.{AreCounts, AreClocks, AreParts, IsClockIn, clock_behind, has_clock, readings_of}

no_counts : (n : ℕ) → n ≡ 8192 → AreCounts [] 0 (replicate n 0)
no_counts n e = record {
  packets_is = refl;
  pids = grind (arith, common_steps);
  counts_are = λ pid h. grind (arith, common_steps);
}

pub counts_begin : (counts : List ℕ) → counts ≡ replicate 8192 0 → AreCounts [] 0 counts
counts_begin counts e = let P : List ℕ → Type 0 = AreCounts [] 0 in subst P (sym e) (no_counts 8192 refl)

-- a clock goes on with the packet that it reads
reads_one : (seen : List Seen) (s : Seen) (r : Reading) (c : PidClock) → IsClockIn seen c → IsClockIn (record s { reading = Some r } ∷ seen) (clock_behind s.pid r c)
reads_one seen s r c h = grind arith

-- and so do all
reads_each : (seen : List Seen) (s : Seen) (r : Reading) (clocks : List PidClock) → All (IsClockIn seen) clocks
    → All (IsClockIn (record s { reading = Some r } ∷ seen)) (map (clock_behind s.pid r) clocks)
reads_each seen s r clocks h =
    All-map (IsClockIn (record s { reading = Some r } ∷ seen)) (clock_behind s.pid r) clocks
    (λ k d lt. reads_one seen s r (get_or clocks k d) (h k d lt))

-- a reading changes the PID of no clock
has_same : (q pid : ℕ) (r : Reading) (clocks : List PidClock) → has_clock q (map (clock_behind pid r) clocks) ≡ has_clock q clocks
has_same q pid r [] = refl
has_same q pid r (c ∷ clocks) = grind (arith, has_same q pid r clocks)

-- another PID has no reading in the packet
none_of_another : (seen : List Seen) (q : ℕ) (s : Seen) (r : Reading) → s.pid ≢ q → readings_of q seen ≡ []
    → readings_of q (record s { reading = Some r } ∷ seen) ≡ []
none_of_another seen q s r other none = grind arith

another : (q pid : ℕ) (clocks : List PidClock) → has_clock q clocks ≡ false → has_clock pid clocks ≡ true → pid ≢ q
another q pid clocks absent there e = let P : ℕ → Type 0 = λ n. has_clock n clocks ≡ true in let h = subst P e there in cc

reads_pid : (seen : List Seen) (is_whole : Bool) (s : Seen) (r : Reading) (clocks : List PidClock) → AreClocks seen is_whole clocks
    → (IsTrue is_whole → has_clock s.pid clocks ≡ true)
    → AreClocks (record s { reading = Some r } ∷ seen) is_whole (map (clock_behind s.pid r) clocks)
reads_pid seen is_whole s r clocks a has = record {
  each = reads_each seen s r clocks a.each;
  others = λ whole q none.
      let no : has_clock q clocks ≡ false = sym (has_same q s.pid r clocks) ∙ none in
      none_of_another seen q s r (another q s.pid clocks no (has whole)) (a.others whole q no);
}

-- a packet with a PCR changes the clock of its PID
pub reads : (seen : List Seen) (is_whole : Bool) (s : Seen) (r : Reading) (clocks : List PidClock) → s.reading ≡ Some r → AreClocks seen is_whole clocks
    → (IsTrue is_whole → has_clock s.pid clocks ≡ true) → AreClocks (s ∷ seen) is_whole (map (clock_behind s.pid r) clocks)
reads seen is_whole s r clocks e a has =
    let P : Option Reading → Type 0 = λ o. AreClocks (record s { reading = o } ∷ seen) is_whole (map (clock_behind s.pid r) clocks) in
    subst P (sym e) (reads_pid seen is_whole s r clocks a has)

passes_one : (seen : List Seen) (s : Seen) (c : PidClock) → s.reading ≡ None → IsClockIn seen c → IsClockIn (s ∷ seen) c
passes_one seen s c e h = grind (arith, common_steps)

none_passed : (seen : List Seen) (s : Seen) (q : ℕ) → s.reading ≡ None → readings_of q seen ≡ [] → readings_of q (s ∷ seen) ≡ []
none_passed seen s q e h = grind (arith, common_steps)

-- a packet without a PCR changes no clock
pub passes_by : (seen : List Seen) (is_whole : Bool) (s : Seen) (clocks : List PidClock) → s.reading ≡ None → AreClocks seen is_whole clocks
    → AreClocks (s ∷ seen) is_whole clocks
passes_by seen is_whole s clocks e a = record {
  each = λ k d lt. passes_one seen s (get_or clocks k d) e (a.each k d lt);
  others = λ whole q none. none_passed seen s q e (a.others whole q none);
}

-- what a packet more does to the parts of a meter
pub parts_behind : (s : Seen) (seen clocks counters scrambled : List Seen) → AreParts seen clocks counters scrambled
    → AreParts (s ∷ seen) (marked s (is_cut_off s counters) ∷ clocks) (s ∷ counters) (if s.is_scrambled then s ∷ scrambled else scrambled)
parts_behind s seen clocks counters scrambled p = record {
  clocks_are = rw (p.counters_are, p.clocks_are) refl;
  counters_are = ap (λ (xs : List Seen). s ∷ xs) p.counters_are;
  scrambled_are = rw p.scrambled_are refl;
}
