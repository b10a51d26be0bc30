-- For the code: what is known of a begun section, and what its collecting leaves. No public clause cites this.
use Rattle.std.specs.Prelude.{◌≡◌, ℕ, ◌+◌, ◌-◌, ◌<◌, ◌≤◌, Bool, true, false, if◌then◌else◌, List, ◌++◌, length}
use Rattle.section.specs.Section.{section_length_of, is_too_long, is_whole}
use Rattle.section.specs.Assembled.{Reading, collected}
use Rattle.section.specs.declared.told.Told.{Told}
use Rattle.section.specs.declared.collected.Collected.{Collected}
use Rattle.section.specs.declared.collected.Collected.TheVariants.{Begun, TooLong, Whole}

-- once its section_length is there, a begun section isn't too long and isn't whole
pub record IsBegun (begun : List ℕ) : Type 0 where
  pub partial : 3 ≤ length begun → length begun < section_length_of begun + 3
  pub fits : 3 ≤ length begun → section_length_of begun ≤ 1021

-- how bytes for a begun section end: it goes on, it is too long, or so many of them made it whole
abbrev pub outcome_of : List ℕ → List ℕ → Collected
outcome_of begun bytes =
    if is_too_long (begun ++ bytes) then TooLong
    else if is_whole (begun ++ bytes) then Whole (section_length_of (begun ++ bytes) + 3 - length begun)
    else Begun

-- whether the section was too long
abbrev pub is_ended : Collected → Bool
is_ended Begun = false
is_ended TooLong = true
is_ended (Whole count) = false

-- what bytes for a begun section leave of it, and of what was told
pub record Collects (old bytes kept : List ℕ) (out new : List Told) (outcome : Collected) : Type 0 where
  pub begun : kept ≡ (collected (old ++ bytes)).begun
  pub told : new ≡ out ++ (collected (old ++ bytes)).told
  pub next : outcome ≡ outcome_of old bytes
  pub still : IsBegun kept

-- what a reading leaves of a begun section, and of what was told
pub record Reads (r : Reading) (kept : List ℕ) (out new : List Told) : Type 0 where
  pub begun : kept ≡ r.begun
  pub told : new ≡ out ++ r.told
  pub still : IsBegun kept
