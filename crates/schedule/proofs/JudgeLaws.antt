-- The tests of a schedule, from what was read.
use Rattle.std.proofs.Common.{ℕ, ◌≡◌, ◌+◌, ◌%◌, true, false, sym, subst, ap, ◌∙◌, refl}
use Rattle.std.specs.Prelude.{◌↔◌, IsTrue}
use Rattle.plan.specs.Build.{PlanValue}
use Rattle.request.specs.Request.{RequestValue}
use Rattle.schedule.specs.Schedule.{ScheduleValue, plan_at}
use Rattle.schedule.specs.Switches.{ReusesNoPid, IsSwitchSlot}

-- the answers where nothing is left to ask
pub never : {P : Type 0} → (P → ⊥) → IsTrue false ↔ P
never refuted = (λ e. cc, λ p. absurd (refuted p))

pub always : {P : Type 0} → P → IsTrue true ↔ P
always p = (λ e. p, λ q. refl)

-- the version of the plan behind this one is the next
abbrev pub VersionFollows : ScheduleValue → ℕ → Type 0
VersionFollows s number = (plan_at s (number + 1)).request.version ≡ ((plan_at s number).request.version + 1) % 32

abbrev version : PlanValue → ℕ
version p = p.request.version

abbrev next : PlanValue → ℕ
next p = (p.request.version + 1) % 32

pub version_follows : (s : ScheduleValue) (number : ℕ) (before p : PlanValue) → before ≡ plan_at s number → plan_at s (number + 1) ≡ p
    → p.request.version ≡ (before.request.version + 1) % 32 → VersionFollows s number
version_follows s number before p b e h = ap version e ∙ h ∙ ap next b

pub version_read : (s : ScheduleValue) (number : ℕ) (before p : PlanValue) → before ≡ plan_at s number → plan_at s (number + 1) ≡ p
    → VersionFollows s number → p.request.version ≡ (before.request.version + 1) % 32
version_read s number before p b e h = sym (ap version e) ∙ h ∙ ap next (sym b)

-- of equal plans, and of equal numbers
pub reuse_moves : (a b r a' b' r' : RequestValue) → a ≡ a' → b ≡ b' → r ≡ r' → ReusesNoPid a b r → ReusesNoPid a' b' r'
reuse_moves a b r a' b' r' e f g h =
    let P : RequestValue → Type 0 = λ x. ReusesNoPid a' b' x in
    let Q : RequestValue → Type 0 = λ x. ReusesNoPid a' x r in
    let R : RequestValue → Type 0 = λ x. ReusesNoPid x b r in
    subst P g (subst Q f (subst R e h))

pub switch_moves : (period before slot period' before' slot' : ℕ) → period ≡ period' → before ≡ before' → slot ≡ slot'
    → IsSwitchSlot period before slot → IsSwitchSlot period' before' slot'
switch_moves period before slot period' before' slot' e f g h =
    let P : ℕ → Type 0 = λ x. IsSwitchSlot period' before' x in
    let Q : ℕ → Type 0 = λ x. IsSwitchSlot period' x slot in
    let R : ℕ → Type 0 = λ x. IsSwitchSlot x before slot in
    subst P g (subst Q f (subst R e h))
