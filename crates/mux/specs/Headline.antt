-- The headline: what each multiplex keeps, phrase by phrase. The history that went out consists of whole packets of 188
-- bytes, null only where no queued packet could go; counters are lawful wherever the input's are; tables match the chosen
-- services and recur within their limits between switches; no transport buffer exceeded 512 bytes; each PCR equals its input's
-- plus its delay; each stream's taken packets are its emitted, then its dropped, then its queued ones. Packets, counters and
-- transport buffers are those of ISO/IEC 13818-1, 2.4.3.2, 2.4.3.3 and 2.4.2; that they are judged packet by packet is profile.
use Rattle.std.specs.Prelude.{ℕ, List, [], ◌∷◌, ◌++◌, ◌≡◌, ◌≤◌, ◌+◌, ◌-◌, ◌%◌, All, Contains, Some, map, option_map, take, drop, length}
use Rattle.std.specs.List.{slice_get}
use Rattle.tspkt.specs.Packet.{IsPacket, null_packet, pid_of, pcr_of, pcr_modulus}
use Rattle.tspkt.specs.Counters.{lawful_of}
use Rattle.tspkt.specs.Rewritten.{rewritten}
use Rattle.tspkt.specs.declared.stamped.Stamped.{Stamped}
use Rattle.request.specs.declared.stream.Stream.{Stream}
use Rattle.schedule.specs.Schedule.{ScheduleValue, slot_time}
use Rattle.schedule.specs.Streams.{all_streams}
use Rattle.emission.specs.Emission.{of_pid}
use Rattle.emission.specs.TableBuffers.{BufferFits}
use Rattle.emission.specs.Spans.{IsEmissionOf, SpansAgree, SpansRecur, SpanBuffersFit}
use Rattle.buffers.specs.Level.{bytes_of_set, IsLevel}
use Rattle.mux.specs.declared.content.Content.{Content}
use Rattle.mux.specs.declared.event.Event.{Event}
use Rattle.mux.specs.declared.event.Event.TheVariants.{Slot}
use Rattle.schedule.specs.Laws.{IsMultiplexSchedule}
use Rattle.mux.specs.History.{History, taken_for, sent, queue, dropped, slots, emitted}
use Rattle.mux.specs.Lawful.{IsLawfulRun, IsEligible}

-- Where a slot went out as a null packet, no queued packet could go in it: when it came, behind the events before it, no
-- head of a queue was due and fitted its transport buffer.
abbrev pub NullsAreNeeded : ScheduleValue → List Event → Type 0
NullsAreNeeded s h =
    (after before : List Event) (c : Content) → h ≡ after ++ Slot c ∷ before
    → slice_get (emitted s h) (slots before) ≡ Some null_packet
    → (st : Stream) (item : Stamped) → IsEligible s before st item → ⊥

-- packet k of the stream's output PID has a lawful counter where item k taken of it has, and nowhere else
abbrev pub CountersAreAsTaken : ScheduleValue → List Event → Stream → Type 0
CountersAreAsTaken s h st =
    lawful_of (of_pid st.output_pid (emitted s h))
    ≡ take (sent st h) (lawful_of (map (λ item. item.packet) (taken_for s st h)))

-- No more than 512 bytes were ever in the stream's transport buffer, at each byte that went out: nothing was on its PID before it
-- came into force, so the windows from there on have the greatest loads.
abbrev pub StreamBufferFits : ScheduleValue → List Event → Stream → Type 0
StreamBufferFits s h st = BufferFits s.first.request.rate st.leak (st.output_pid ∷ []) (emitted s h)

-- The item of a stream that slot m carried, if it carried one of it: as many of the stream's packets went out before the
-- slot as were taken before the item.
abbrev pub IsItemOfSlot : ScheduleValue → List Event → Stream → ℕ → Stamped → Type 0
IsItemOfSlot s h st m item = slice_get (taken_for s st h) (length (of_pid st.output_pid (take m (emitted s h)))) ≡ Some item

-- The packet of slot m has the PCR of an item that was due, later by the time from its stamp to the slot, modulo
-- 2^33 * 300 ticks; it has none where the item has none.
pub record HasPcrOf (s : ScheduleValue) (m : ℕ) (item : Stamped) (q : List ℕ) : Type 0 where
  pub due : item.stamp ≤ slot_time s.first m
  pub pcr : pcr_of q ≡ option_map (λ pcr. (pcr + (slot_time s.first m - item.stamp)) % pcr_modulus) (pcr_of item.packet)

abbrev pub PcrsAreLater : ScheduleValue → List Event → Stream → Type 0
PcrsAreLater s h st =
    (m : ℕ) (q : List ℕ) → slice_get (emitted s h) m ≡ Some q → pid_of q ≡ st.output_pid
    → (item : Stamped) × IsItemOfSlot s h st m item × HasPcrOf s m item q

-- The packets on the stream's output PID are the items that were taken first, in their order: each has all bits of its
-- item's but those of the PID and of the PCR. Of the items that were taken behind them the first ones are dropped, and then come
-- those that are queued; a stream that is in force has no dropped ones, and another no queued ones.
pub record EmittedThenDroppedThenQueued (s : ScheduleValue) (h : List Event) (st : Stream) : Type 0 where
  pub packets : (m : ℕ) (q : List ℕ) → slice_get (emitted s h) m ≡ Some q → pid_of q ≡ st.output_pid
      → (item : Stamped) × IsItemOfSlot s h st m item
      × (q ≡ rewritten item.packet st.output_pid (slot_time s.first m - item.stamp))
  pub rest : dropped s st h ++ queue s st h ≡ drop (length (of_pid st.output_pid (emitted s h))) (taken_for s st h)

abbrev pub OfEachStream : ScheduleValue → List Event → (ScheduleValue → List Event → Stream → Type 0) → Type 0
OfEachStream s h holds = (st : Stream) → Contains (all_streams s) st → holds s h st

-- What each multiplex keeps.
pub record IsSound (h : History) : Type 0 where
  -- its schedule is one, and its history is lawful, within its limit of slots
  pub schedule : IsMultiplexSchedule h.run.schedule
  pub run : IsLawfulRun h.run h.events
  -- whole packets of 188 bytes
  pub packets : All IsPacket (emitted h.run.schedule h.events)
  -- null only where no queued packet could go
  pub nulls : NullsAreNeeded h.run.schedule h.events
  -- counters are lawful wherever the input's are; those of tables always are (`tables`)
  pub counters : OfEachStream h.run.schedule h.events CountersAreAsTaken
  -- each table slot carries its table packet, and each other slot null or a packet of a stream
  pub emission : IsEmissionOf h.run.schedule (emitted h.run.schedule h.events)
  -- the tables, read back, match the chosen services, in each span those of its plan
  pub tables : SpansAgree h.run.schedule (emitted h.run.schedule h.events)
  -- and recur within their limits between switches
  pub recurrence : SpansRecur h.run.schedule (emitted h.run.schedule h.events)
  -- no transport buffer exceeded 512 bytes
  pub stream_buffers : OfEachStream h.run.schedule h.events StreamBufferFits
  pub table_buffers : SpanBuffersFit h.run.schedule (emitted h.run.schedule h.events)
  -- each PCR equals its input's plus its delay
  pub pcrs : OfEachStream h.run.schedule h.events PcrsAreLater
  -- each stream's taken packets are its emitted, then its dropped, then its queued ones
  pub streams : OfEachStream h.run.schedule h.events EmittedThenDroppedThenQueued

-- the level of a stream's transport buffer after the last slot, in bits a second times bytes
abbrev pub IsLevelOf : ScheduleValue → List Event → Stream → ℕ → Type 0
IsLevelOf s h st level = IsLevel st.leak s.first.request.rate (bytes_of_set (st.output_pid ∷ []) (emitted s h)) level
