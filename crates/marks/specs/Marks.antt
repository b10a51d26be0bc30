-- Marks: beginnings of the packets of a feed (profile).
use Rattle.std.specs.Prelude.{◌≡◌, ℕ, ◌+◌, List, [], ◌∷◌, ◌++◌, length, Bool, true, false}
use mathlib.Core.List.{IsPrefix}
use Rattle.logbook.specs.Pages.{Book}
use Rattle.marks.specs.declared.entry.Entry.{Entry}
use Rattle.marks.specs.declared.entry.Entry.TheVariants.{Packet, Seal}
use Rattle.marks.specs.Entries.{packets_of, has_seal}

-- which feed it is
abbrev pub FeedId : Type 0
FeedId = Book

-- of which feed, its packets so far, and whether these are all that it will ever have
pub record MarkValue : Type 0 where
  pub feed : FeedId
  pub packets : List (List ℕ)
  pub is_sealed : Bool

-- the mark of these entries
abbrev pub mark_of : FeedId → List Entry → MarkValue
mark_of feed entries = record { feed = feed; packets = packets_of entries; is_sealed = has_seal entries }

-- the mark of these packets, where more may follow
abbrev pub open_mark : FeedId → List (List ℕ) → MarkValue
open_mark feed packets = record { feed = feed; packets = packets; is_sealed = false }

-- the mark with one packet more
abbrev pub with_packet : MarkValue → List ℕ → MarkValue
with_packet m p = record { feed = m.feed; packets = m.packets ++ p ∷ []; is_sealed = m.is_sealed }

-- the mark of the same packets, where nothing follows
abbrev pub sealed : MarkValue → MarkValue
sealed m = record { feed = m.feed; packets = m.packets; is_sealed = true }

-- the mark with one entry more
abbrev pub with_entry : MarkValue → Entry → MarkValue
with_entry m (Packet p) = with_packet m p
with_entry m Seal = sealed m

-- The later mark is of the same feed and begins with the packets of the earlier one; where that one is sealed, it is that one.
pub record Begins (earlier later : MarkValue) : Type 0 where
  pub feed : later.feed ≡ earlier.feed
  pub packets : IsPrefix earlier.packets later.packets
  pub whole : earlier.is_sealed ≡ true → later ≡ earlier

abbrev pub one_if : Bool → ℕ
one_if true = 1
one_if false = 0

-- how many entries it is the mark of
abbrev pub steps_of : MarkValue → ℕ
steps_of m = length m.packets + one_if m.is_sealed
