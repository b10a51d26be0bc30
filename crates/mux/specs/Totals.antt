-- Numbers of packets and slots, by the history (profile).
use Rattle.std.specs.Prelude.{ℕ, List, [], ◌∷◌, ◌≡◌, ◌+◌, ◌==◌, Bool, true, false, length, filter, sum_by, count_by, min}
use Rattle.mux.specs.declared.content.Content.{Content}
use Rattle.mux.specs.declared.content.Content.TheVariants.{Null, Elementary, Table}
use Rattle.mux.specs.declared.event.Event.{Event}
use Rattle.mux.specs.declared.event.Event.TheVariants.{Slot}
use Rattle.mux.specs.declared.totals.Totals.{Totals}
use Rattle.mux.specs.declared.counts.Counts.{Counts}
use Rattle.schedule.specs.Schedule.{ScheduleValue}
use Rattle.mux.specs.History.{taken, queue, dropped, slots}
use Rattle.schedule.specs.Streams.{all_streams}

-- what the slots carried, newest first
abbrev pub contents : List Event → List Content
contents [] = []
contents (Slot c ∷ before) = c ∷ contents before
contents (e ∷ before) = contents before

abbrev pub is_table : Content → Bool
is_table Null = false
is_table (Table place) = true
is_table (Elementary st) = false

abbrev pub is_elementary : Content → Bool
is_elementary Null = false
is_elementary (Table place) = false
is_elementary (Elementary st) = true

abbrev pub is_null : Content → Bool
is_null Null = true
is_null (Table place) = false
is_null (Elementary st) = false

-- a slot carries a packet of the input
abbrev pub is_of_input : ℕ → Content → Bool
is_of_input i Null = false
is_of_input i (Table place) = false
is_of_input i (Elementary st) = st.input == i

-- how many packets of an input wait in queues, and how many were dropped: those of its streams, of all plans
abbrev pub queued : ScheduleValue → ℕ → List Event → ℕ
queued s i h = sum_by (λ st. length (queue s st h)) (filter (λ st. st.input == i) (all_streams s))

abbrev pub dropped_of : ScheduleValue → ℕ → List Event → ℕ
dropped_of s i h = sum_by (λ st. length (dropped s st h)) (filter (λ st. st.input == i) (all_streams s))

-- a number as it is told: the greatest of 64 bits stands for all above it
abbrev pub told : ℕ → ℕ
told n = min n 18446744073709551615

-- What `totals` answers of an input. Packets of streams that went are taken and dropped as long as they come, in any number.
pub record IsTotals (s : ScheduleValue) (i : ℕ) (h : List Event) (t : Totals) : Type 0 where
  pub whole : length (taken i h) ≡ t.sent + dropped_of s i h + t.queued
  pub taken : t.taken ≡ told (length (taken i h))
  pub sent : t.sent ≡ count_by (is_of_input i) (contents h)
  pub dropped : t.dropped ≡ told (dropped_of s i h)
  pub queued : t.queued ≡ queued s i h

-- what `counts` answers
pub record IsCounts (h : List Event) (c : Counts) : Type 0 where
  pub tables : c.tables ≡ count_by is_table (contents h)
  pub elementary : c.elementary ≡ count_by is_elementary (contents h)
  pub null : c.null ≡ count_by is_null (contents h)
  pub whole : c.tables + c.elementary + c.null ≡ slots h
