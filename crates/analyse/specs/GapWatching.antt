-- What a gap watch knows of the numbers of slots so far (see Gaps), from which it follows whether a gap is told.
use Rattle.std.specs.Prelude.{◌≡◌, ℕ, ◌+◌, ◌-◌, ◌<◌, ◌==◌, nat_le, if◌then◌else◌, Bool, true, false, ◌&&◌, not, Option, Some, None}
use Rattle.analyse.specs.Slots.{each_from}

-- the number of slots at the mark whose gap is open, where one is
pub record GapState : Type 0 where
  pub limit : ℕ
  pub since : Option ℕ

abbrev pub new_gap : ℕ → GapState
new_gap limit = record { limit = limit; since = None }

-- the same behind `count` slots, where the thing is watched there or not and the last of them is a mark or not
abbrev pub since_behind : Option ℕ → ℕ → Bool → Bool → Option ℕ
since_behind since count watched mark = if not watched then None else if mark then Some count else since

abbrev pub is_long : ℕ → ℕ → Option ℕ → Bool
is_long limit count None = false
is_long limit count (Some first) = nat_le first count && count - first == limit

abbrev pub is_told : GapState → ℕ → Bool
is_told w count = is_long w.limit count w.since

-- a mark at `first`, watched from there on, and no mark behind it, up to below `count`
unfoldable pub is_open : (ℕ → Bool) → (ℕ → Bool) → ℕ → ℕ → Bool
is_open watched mark first count =
    each_from first count watched && (mark first && each_from (first + 1) count (λ k. not (mark k)))

abbrev pub IsSince : (ℕ → Bool) → (ℕ → Bool) → ℕ → Option ℕ → Type 0
IsSince watched mark count None = (first : ℕ) → first < count → is_open watched mark first count ≡ false
IsSince watched mark count (Some first) = (first < count) × (is_open watched mark first count ≡ true)

-- it has seen the numbers of slots below `count`
pub record HasSeenNumbers (w : GapState) (watched mark : ℕ → Bool) (count : ℕ) : Type 0 where
  pub since : IsSince watched mark count w.since
