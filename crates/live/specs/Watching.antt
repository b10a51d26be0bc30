-- Sources and sinks whose use is noted (profile).
use Rattle.std.specs.Prelude.{ℕ, List, Option}
use Rattle.live.specs.declared.watched.Watched.{Watched}
use Rattle.live.specs.declared.watched_sink.WatchedSink.{WatchedSink}

-- what is read
abbrev pub source_of : {R : Type 0} → Watched R → R
source_of watched = watched.source

-- the bytes that a source will give, where they are known
abbrev pub watched_remaining : {R : Type 0} → (R → Option (List ℕ)) → Watched R → Option (List ℕ)
watched_remaining remaining watched = remaining watched.source

-- how often a read failed
abbrev pub watched_failures : {R : Type 0} → (R → ℕ) → Watched R → ℕ
watched_failures failures watched = failures watched.source

-- what is written to
abbrev pub sink_of : {W : Type 0} → WatchedSink W → W
sink_of watched = watched.sink

-- the bytes that a sink holds, where they are known
abbrev pub watched_contents : {W : Type 0} → (W → Option (List ℕ)) → WatchedSink W → Option (List ℕ)
watched_contents contents watched = contents watched.sink

-- how often a write failed
abbrev pub watched_write_failures : {W : Type 0} → (W → ℕ) → WatchedSink W → ℕ
watched_write_failures failures watched = failures watched.sink
