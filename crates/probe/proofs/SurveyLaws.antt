-- The PIDs of which something is said, with one PID more that was looked at.
use Rattle.std.proofs.Common.{◌≡◌, ℕ, ◌+◌, ◌<◌, List, [], ◌∷◌, ◌++◌, ◌⊎◌, inl, inr, length, get_or, arith, ap, sym, ◌∙◌, length-append}
use Rattle.std.specs.List.{Any, count_by}
use Rattle.std.proofs.lemmas.Bool.{cases_eq}
use Rattle.std.proofs.lemmas.List.{get_or_append_left}
use Rattle.std.proofs.lemmas.List.Quantifiers.{Any-push}
use Rattle.probe.specs.declared.sighting.Sighting.{Sighting}
use Rattle.probe.specs.declared.pid_survey.PidSurvey.{PidSurvey}
use Rattle.probe.specs.Counts.{is_of}
use Rattle.probe.specs.Probing.{IsOfPid}

-- each PID below this one that has packets is among some
abbrev pub AreListed : List Sighting → ℕ → List PidSurvey → Type 0
AreListed seen below pids = (pid : ℕ) → pid < below → 0 < count_by (is_of pid) seen → Any (IsOfPid pid) pids

any_before : {X : Type 0} (P : X → Type 0) (xs ys : List X) → Any P xs → Any P (xs ++ ys)
any_before P xs ys (k, x, within, at, p) =
    (k, x, omega (arith, within, length-append xs ys), get_or_append_left xs ys x k within ∙ at, p)

listed_at : (seen : List Sighting) (pid at : ℕ) (pids : List PidSurvey) (s : PidSurvey) → s.pid ≡ at → AreListed seen at pids → pid < at + 1
    → 0 < count_by (is_of pid) seen → (pid ≡ at) ⊎ (pid ≡ at → ⊥) → Any (IsOfPid pid) (pids ++ s ∷ [])
listed_at seen pid at pids s is before h some (inl e) = Any-push (IsOfPid pid) pids s (is ∙ sym e)
listed_at seen pid at pids s is before h some (inr ne) =
    any_before (IsOfPid pid) pids (s ∷ []) (before pid (omega (arith, h, ne)) some)

pub listed_more : (seen : List Sighting) (at : ℕ) (pids : List PidSurvey) (s : PidSurvey) → s.pid ≡ at → AreListed seen at pids
    → AreListed seen (at + 1) (pids ++ s ∷ [])
listed_more seen at pids s is before pid h some = listed_at seen pid at pids s is before h some (cases_eq pid at)

passed_at : (seen : List Sighting) (pid at : ℕ) (pids : List PidSurvey) → count_by (is_of at) seen ≡ 0 → AreListed seen at pids → pid < at + 1
    → 0 < count_by (is_of pid) seen → (pid ≡ at) ⊎ (pid ≡ at → ⊥) → Any (IsOfPid pid) pids
passed_at seen pid at pids none before h some (inl e) =
    let here : count_by (is_of pid) seen ≡ 0 = ap (λ (n : ℕ). count_by (is_of n) seen) e ∙ none in absurd (omega (arith, here, some))
passed_at seen pid at pids none before h some (inr ne) = before pid (omega (arith, h, ne)) some

pub listed_same : (seen : List Sighting) (at : ℕ) (pids : List PidSurvey) → count_by (is_of at) seen ≡ 0 → AreListed seen at pids
    → AreListed seen (at + 1) pids
listed_same seen at pids none before pid h some = passed_at seen pid at pids none before h some (cases_eq pid at)
