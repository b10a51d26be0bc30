-- The rule of a feed's sequence, and what its step tells (profile).
use Rattle.std.specs.Prelude.{ℕ, ◌≡◌, ◌==◌, true, List, [], ◌∷◌, ◌++◌, length, MatchBool}
use Rattle.logbook.specs.Pages.{Cell, Step, View, Named}
use Rattle.marks.specs.declared.entry.Entry.{Entry}
use Rattle.marks.specs.Entries.{IsSealedLast}
use Rattle.marks.specs.Marks.{FeedId}

-- the first word is the number of entries, and nothing follows the seal; the second word isn't used
pub record IsKept (cells : List Cell) (entries : List Entry) : Type 0 where
  pub words : cells ≡ (length entries, true) ∷ (0, true) ∷ []
  pub sealed_last : IsSealedLast entries

-- the first word of the feed's sequence
abbrev pub word_of : FeedId → Named
word_of feed = record { tracked = true; key = 0; book = feed }

-- where the word was as expected, the entry was added to all that had been seen
abbrev pub Adds : Step Entry → View Entry ℕ → ℕ → View Entry ℕ → Type 0
Adds step before found after = MatchBool (found == step.old) (after.0 ≡ before.0 ++ step.ask ∷ []) (Unit {0})
