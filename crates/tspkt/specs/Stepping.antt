-- For the code of the framer: one step, what waits for more bytes, and what the end tells. No public clause cites it.
use Rattle.std.specs.Prelude.{◌≡◌, ℕ, zero, suc, ◌+◌, ◌*◌, ◌^◌, ◌<◌, ◌≤◌, ◌==◌, nat_lt, false, if◌then◌else◌, List, [], ◌∷◌, ◌++◌, length, drop, ◌⊎◌}
use Rattle.tspkt.specs.Framed.{framed_from, is_sync, lost}
use Rattle.tspkt.specs.declared.framer.TheConstants.{KEPT}
use Rattle.tspkt.specs.declared.item.Item.{Item}
use Rattle.tspkt.specs.declared.item.Item.TheVariants.{Bad, Lost}
use Rattle.tspkt.specs.declared.mode.Mode.{Mode}
use Rattle.tspkt.specs.declared.mode.Mode.TheVariants.{Hunting, Synced}

-- nothing can be told of these bytes before more come or the stream ends: in sync, the next packet's last byte
-- isn't there, or its sync byte is bad and the one after it isn't there; hunting, no fifth sync byte is there
abbrev pub IsWaiting : ℕ → Mode → List ℕ → Type 0
IsWaiting stride (Hunting from) kept = length kept ≤ 4 * stride
IsWaiting stride (Synced zero) kept = (length kept < 188) ⊎ ((is_sync kept 0 ≡ false) × (length kept ≤ stride))
IsWaiting stride (Synced (suc skip)) kept = kept ≡ []

-- One step from place `at` of the bytes `window`, the first of which stands at `base` of the stream, to `next`:
-- whatever comes after the window, what is told before and what is left to tell stay the same list.
pub record TellsSame (stride base : ℕ) (window : List ℕ) (out : List Item) (mode : Mode) (at : ℕ) (told : List Item) (after : Mode) (next : ℕ) : Type 0 where
  pub within : next ≤ length window
  pub same : (more : List ℕ) → told ++ framed_from stride after (base + next) (drop next window ++ more) ≡ out ++ framed_from stride mode (base + at) (drop at window ++ more)

-- A step from there found no room for an item: whatever comes after the window, these items come, those told before them
-- among them, and they are more than there are places.
pub record FindsNoRoom (stride base : ℕ) (window : List ℕ) (out : List Item) (mode : Mode) (at places : ℕ) : Type 0 where
  pub decided : List Item
  pub come : (more : List ℕ) → (later : List Item) × (decided ++ later ≡ out ++ framed_from stride mode (base + at) (drop at window ++ more))
  pub full : places < length decided

-- what is told in sync of the last `count` bytes, from `place` on
abbrev pub told_of_last : ℕ → ℕ → List Item
told_of_last place count = if count == 0 then [] else if nat_lt count 188 then Lost count ∷ [] else Bad place ∷ []

-- what is told at the end of the stream, of `count` bytes from `place` on
abbrev pub told_at_end : Mode → ℕ → ℕ → List Item
told_at_end (Hunting from) place count = lost from (place + count)
told_at_end (Synced skip) place count = told_of_last place count

-- the fields of a framer stand for a state in which nothing more can be told
pub record IsFramer (stride limit position : ℕ) (mode : Mode) (kept : List ℕ) : Type 0 where
  pub long : 188 ≤ stride
  pub fits : 4 * stride ≤ KEPT
  pub limit_fits : limit < 2 ^ 64
  pub within : position + length kept ≤ limit
  pub waits : IsWaiting stride mode kept
