-- How a thread waits for what others change (profile).
use Rattle.std.specs.Prelude.{◌≡◌, ℕ, ◌+◌, ◌≤◌, ◌<◌}
use Rattle.waking.specs.declared.rest.Rest.{Rest}
use Rattle.waking.specs.declared.rest.Rest.TheVariants.{Pause, Nap, Sleep}

-- How many first looks it made since it last found what it waited for, how many there are before it tells that it waits, and which
-- changes it told that it waits for, one a bit.
pub record SleeperValue : Type 0 where
  pub looks : ℕ
  pub first_looks : ℕ
  pub told : ℕ

-- it didn't look in vain, and told nothing
pub record IsAwake (s : SleeperValue) : Type 0 where
  pub looks : s.looks ≡ 0
  pub told : s.told ≡ 0

-- What a call does that waits for these changes behind a look in vain, by how it rested.
pub record Waits (old : SleeperValue) (changes : ℕ) (rest : Rest) (new : SleeperValue) : Type 0 where
  -- behind a first look it pauses and tells nothing
  pub early : old.looks < old.first_looks → (rest ≡ Pause) × (new ≡ record old { looks = old.looks + 1; first_looks = new.first_looks })
  -- behind a later one it has told
  pub late : old.first_looks ≤ old.looks → (new.looks ≡ old.looks) × (new.told ≡ changes)
  -- it sleeps only where it had told before the look
  pub asleep : rest ≡ Sleep → old.told ≡ changes
  -- and wherever it had
  pub awake : old.first_looks ≤ old.looks → old.told ≡ changes → rest ≡ Sleep
  -- it naps only where it had told nothing
  pub napped : rest ≡ Nap → old.told ≡ 0
