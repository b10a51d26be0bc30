-- For the code: the buckets that are kept, one a stream, and what a slot does to them. No public clause cites it.
use Rattle.std.specs.Prelude.{ℕ, List, [], ◌∷◌, ◌≡◌, ◌==◌, Bool, false, if◌then◌else◌, length, Option, Some, None}
use Rattle.std.specs.List.{slice_get}
use Rattle.request.specs.declared.stream.Stream.{Stream}
use Rattle.buffers.specs.Level.{bytes_of_set}
use Rattle.buffers.specs.BucketValue.{BucketValue, IsBucket, IsFilledBy, after_packet, after_others}
use Rattle.emission.specs.TableBuffers.{BufferFits}
use Rattle.schedule.specs.Schedule.{ScheduleValue}
use Rattle.schedule.specs.Streams.{all_streams}

-- a stream's bucket before the first slot, at this rate of the multiplex
abbrev pub empty_bucket : ℕ → Stream → BucketValue
empty_bucket rate st = record { leak = st.leak; multiplex_rate = rate; level = 0 }

-- The bucket follows the stream's transport buffer: it has its rates, these packets left it at its level, and none of
-- them overran it.
pub record IsBucketOf (rate : ℕ) (out : List (List ℕ)) (st : Stream) (b : BucketValue) : Type 0 where
  pub bucket : IsBucket b
  pub leak_is : b.leak ≡ st.leak
  pub rate_is : b.multiplex_rate ≡ rate
  pub filled : IsFilledBy b (bytes_of_set (st.output_pid ∷ []) out)
  pub fits : BufferFits b.multiplex_rate b.leak (st.output_pid ∷ []) out

-- there is one a stream of the schedule, by its place
pub record AreBuckets (s : ScheduleValue) (out : List (List ℕ)) (buckets : List BucketValue) : Type 0 where
  pub count : length buckets ≡ length (all_streams s)
  pub each : (k : ℕ) (st : Stream) → slice_get (all_streams s) k ≡ Some st
      → (b : BucketValue) × (slice_get buckets k ≡ Some b) × IsBucketOf s.first.request.rate out st b

-- whether the slot carries the packet of stream k, if it carries one of a stream at all
abbrev pub carries_stream : Option ℕ → ℕ → Bool
carries_stream None k = false
carries_stream (Some index) k = index == k

-- the bucket after a slot, which carries a packet of its stream or not
abbrev pub after_slot : Bool → BucketValue → BucketValue
after_slot is_sent b = if is_sent then after_packet b else after_others b

-- each bucket is one slot on
pub record MovedOn (sent : Option ℕ) (before after : List BucketValue) : Type 0 where
  pub count : length after ≡ length before
  pub each : (k : ℕ) (b : BucketValue) → slice_get before k ≡ Some b → slice_get after k ≡ Some (after_slot (carries_stream sent k) b)
