-- Which clock has the most points.
use Rattle.std.proofs.Common.{◌≡◌, ℕ, ◌+◌, ◌<◌, ◌==◌, List, [], ◌∷◌, length, Bool, true, false, All, Option, Some, None, IfSome, ◌⊎◌, get_or, suc, refl, arith, subst, sym, inl, inr, ap, ◌∙◌}
use Rattle.std.proofs.lemmas.Grind.{common_steps}
use Rattle.rate_meter.specs.declared.seen.Seen.{Seen}
use Rattle.rate_meter.specs.declared.reading.Reading.{Reading}
use Rattle.rate_meter.specs.declared.measured.Measured.{Measured}
use Rattle.rate_meter.specs.declared.pid_clock.PidClock.{PidClock}
use Rattle.rate_meter.specs.Line.{rate_of}
use Rattle.std.specs.Option.{option_map}
use borrow.Author.Count.{below_more}
use Rattle.rate_meter.specs.Pace.{pace_of, is_variable}
use Rattle.rate_meter.specs.Readings.{points_of}
use Rattle.rate_meter.specs.Meter.{IsClockIn, IsNoLonger, has_clock, measured_by, measured_of, readings_of}

abbrev pub says : PidClock → Option Measured
says c = measured_by c.pid c.clock

-- none of the first clocks rests on more points
abbrev pub NoneLonger : List PidClock → ℕ → Option Measured → Type 0
NoneLonger clocks n found = (k : ℕ) (d : PidClock) → k < n → IsNoLonger (says (get_or clocks k d)) found

pub along_longer : (a b c : Option Measured) → IsNoLonger a b → IsNoLonger b c → IsNoLonger a c
along_longer None b c h g = tt
along_longer (Some m) None c h g = absurd h
along_longer (Some m) (Some n) None h g = absurd g
along_longer (Some m) (Some n) (Some o) h g = omega arith

any_default : (clocks : List PidClock) (n : ℕ) (d x : PidClock) → n < length clocks → get_or clocks n d ≡ get_or clocks n x
any_default clocks n d x h = grind (arith, common_steps)

pub none_longer_more : (clocks : List PidClock) (n : ℕ) (x : PidClock) (found after : Option Measured) → n < length clocks → x ≡ get_or clocks n x
    → NoneLonger clocks n found → IsNoLonger found after → IsNoLonger (says x) after → NoneLonger clocks (n + 1) after
none_longer_more clocks n x found after within is earlier h here k d below =
    let P : ℕ → Type 0 = λ i. (e : PidClock) → IsNoLonger (says (get_or clocks i e)) after in
    let Q : PidClock → Type 0 = λ c. IsNoLonger (says c) after in
    let before : (i : ℕ) → i < n → P i = λ i less e. along_longer (says (get_or clocks i e)) found after (earlier i e less) h in
    let last : P n = λ e. subst Q (is ∙ any_default clocks n x e within) here in
    below_more P n before last k below d

has_pid : (f : ℕ → Measured) (pid : ℕ) (rate : Option ℕ) → ((r : ℕ) → (f r).pid ≡ pid) → IfSome (option_map f rate) (λ m. m.pid ≡ pid)
has_pid f pid None h = tt
has_pid f pid (Some r) h = h r

pid_is : (pid : ℕ) (readings : List Reading) → IfSome (measured_by pid readings) (λ m. m.pid ≡ pid)
pid_is pid readings =
    has_pid (λ rate. record {
      pid = pid;
      rate = rate;
      is_variable = is_variable (pace_of (points_of readings));
      points = length (points_of readings);
    }) pid (rate_of (points_of readings)) (λ r. refl)

own_of : (F : ℕ → Option Measured) (pid : ℕ) (o : Option Measured) → F pid ≡ o → IfSome o (λ m. m.pid ≡ pid) → IfSome o (λ m. F m.pid ≡ Some m)
own_of F pid None e h = tt
own_of F pid (Some m) e h = ap F h ∙ e

pub measured_own : (seen : List Seen) (c : PidClock) → IsClockIn seen c → IfSome (says c) (λ m. measured_of m.pid seen ≡ Some m)
measured_own seen c is =
    let F : ℕ → Option Measured = λ p. measured_of p seen in
    own_of F c.pid (says c) (ap (measured_by c.pid) (sym is)) (pid_is c.pid c.clock)

pub of_either : (seen : List Seen) (c : PidClock) (found after : Option Measured) → IsClockIn seen c → (after ≡ found) ⊎ (after ≡ says c)
    → IfSome found (λ m. measured_of m.pid seen ≡ Some m) → IfSome after (λ m. measured_of m.pid seen ≡ Some m)
of_either seen c found after is either own =
    let P : Option Measured → Type 0 = λ o. IfSome o (λ m. measured_of m.pid seen ≡ Some m) in
    elim either [ inl e ↦ subst P (sym e) own | inr e ↦ subst P (sym e) (measured_own seen c is) ]

same_number : (a b : ℕ) → (a == b) ≡ true → a ≡ b
same_number a b e = grind arith

by_test : (pid : ℕ) (c : PidClock) (clocks : List PidClock) (G : Type 0) (b : Bool) → (c.pid == pid) ≡ b → has_clock pid (c ∷ clocks) ≡ true
    → (c.pid ≡ pid → G) → (has_clock pid clocks ≡ true → G) → G
by_test pid c clocks G true e has first later = first (same_number c.pid pid e)
by_test pid c clocks G false e has first later = later (grind arith)

first_is : (seen : List Seen) (pid : ℕ) (c : PidClock) (found : Option Measured) → IsClockIn seen c → IsNoLonger (says c) found → c.pid ≡ pid
    → IsNoLonger (measured_of pid seen) found
first_is seen pid c found is h e =
    let P : Option Measured → Type 0 = λ o. IsNoLonger o found in
    subst P (ap (measured_by c.pid) is ∙ ap (λ p. measured_of p seen) e) h

pub none_longer_of : (seen : List Seen) (pid : ℕ) (clocks : List PidClock) (found : Option Measured) → All (IsClockIn seen) clocks
    → NoneLonger clocks (length clocks) found → has_clock pid clocks ≡ true → IsNoLonger (measured_of pid seen) found
none_longer_of seen pid [] found each most has = absurd (cc)
none_longer_of seen pid (c ∷ clocks) found each most has =
    let later = none_longer_of seen pid clocks found (λ k d h. each (suc k) d (omega arith)) (λ k d h. most (suc k) d (omega arith)) in
    let first = first_is seen pid c found (each 0 c (omega arith)) (most 0 c (omega arith)) in
    by_test pid c clocks (IsNoLonger (measured_of pid seen) found) (c.pid == pid) refl has first later

-- without a clock a PID says nothing
pub says_nothing : (seen : List Seen) (pid : ℕ) (found : Option Measured) → readings_of pid seen ≡ [] → IsNoLonger (measured_of pid seen) found
says_nothing seen pid found e =
    let P : List Reading → Type 0 = λ readings. IsNoLonger (measured_by pid readings) found in
    subst P (sym e) tt

either_way : (pid : ℕ) (clocks : List PidClock) (G : Type 0) (b : Bool) → has_clock pid clocks ≡ b → (has_clock pid clocks ≡ true → G)
    → (has_clock pid clocks ≡ false → G) → G
either_way pid clocks G true e there absent = there e
either_way pid clocks G false e there absent = absent e

pub none_longer_of_any : (seen : List Seen) (pid : ℕ) (clocks : List PidClock) (found : Option Measured) → All (IsClockIn seen) clocks
    → NoneLonger clocks (length clocks) found → (has_clock pid clocks ≡ false → readings_of pid seen ≡ []) → IsNoLonger (measured_of pid seen) found
none_longer_of_any seen pid clocks found each most none =
    let given = λ (e : has_clock pid clocks ≡ true). none_longer_of seen pid clocks found each most e in
    let nothing = λ (e : has_clock pid clocks ≡ false). says_nothing seen pid found (none e) in
    either_way pid clocks (IsNoLonger (measured_of pid seen) found) (has_clock pid clocks) refl given nothing
