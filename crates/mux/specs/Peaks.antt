-- How long the packets of a stream waited at most, and how many of them (profile).
use Rattle.std.specs.Prelude.{ℕ, List, [], ◌∷◌, ◌≡◌, ◌≤◌, ◌-◌, ◌⊎◌, if◌then◌else◌, length, Option, Some, None, All, Contains}
use Rattle.std.specs.List.{slice_get}
use Rattle.tspkt.specs.declared.stamped.Stamped.{Stamped}
use Rattle.request.specs.declared.stream.Stream.{Stream}
use Rattle.schedule.specs.Schedule.{ScheduleValue, slot_time}
use Rattle.mux.specs.declared.event.Event.{Event}
use Rattle.mux.specs.declared.event.Event.TheVariants.{Slot}
use Rattle.mux.specs.declared.peak.Peak.{Peak}
use Rattle.mux.specs.History.{queue, slots, is_of_stream}

-- how many of the stream's packets waited behind each event, newest first
abbrev pub queue_lengths : ScheduleValue → Stream → List Event → List ℕ
queue_lengths s st [] = []
queue_lengths s st (e ∷ before) = length (queue s st (e ∷ before)) ∷ queue_lengths s st before

-- how long after its own time an item goes out in slot m, in ticks of 27 MHz
abbrev pub delay_in : ScheduleValue → ℕ → Option Stamped → ℕ
delay_in s m None = 0
delay_in s m (Some item) = slot_time s.first m - item.stamp

-- the delays of the stream's packets that were sent, newest first: in its slot goes the head of its queue
abbrev pub delays : ScheduleValue → Stream → List Event → List ℕ
delays s st [] = []
delays s st (Slot c ∷ before) =
    if is_of_stream st c then delay_in s (slots before) (slice_get (queue s st before) 0) ∷ delays s st before else delays s st before
delays s st (e ∷ before) = delays s st before

-- none of them is above n, which is one of them; or 0, where there is none
pub record IsLargest (ns : List ℕ) (n : ℕ) : Type 0 where
  pub bound : All (λ x. x ≤ n) ns
  pub attained : Contains ns n ⊎ ((ns ≡ []) × (n ≡ 0))

-- what `peak` answers of a stream
pub record IsPeak (s : ScheduleValue) (h : List Event) (st : Stream) (peak : Peak) : Type 0 where
  pub delay : IsLargest (delays s st h) peak.delay
  pub queued : IsLargest (queue_lengths s st h) peak.queued
