-- For the code: a transport buffer that is moved on where it is looked at. No public clause cites it.
use Rattle.std.specs.Prelude.{ℕ, List, ◌+◌, ◌-◌}
use Rattle.buffers.specs.BucketValue.{BucketValue, after_packet, after_slots}
use Rattle.mux.specs.declared.kept_bucket.KeptBucket.{KeptBucket}
use Rattle.mux.specs.SlotClock.{ClockValue}
use Rattle.mux.specs.Buckets.{empty_bucket}
use Rattle.request.specs.declared.stream.Stream.{Stream}

-- the clock, and the buffers before the slot that it stands at
pub record ProgressValue : Type 0 where
  pub clock : ClockValue
  pub buckets : List BucketValue

-- the buffer before a slot
abbrev pub bucket_at : ℕ → KeptBucket → BucketValue
bucket_at slot k = after_slots k.bucket (slot - k.slot)

-- the buffer after that slot, which carried a packet of its set
abbrev pub sent_at : ℕ → KeptBucket → KeptBucket
sent_at slot k = record { bucket = after_packet (bucket_at slot k); slot = slot + 1 }

-- an empty buffer of a stream, before slot 0
abbrev pub fresh_bucket : ℕ → Stream → KeptBucket
fresh_bucket rate st = record { bucket = empty_bucket rate st; slot = 0 }
