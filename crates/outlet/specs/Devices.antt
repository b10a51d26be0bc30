-- Writers of `std` that count their failures (profile).
use Rattle.std.specs.Prelude.{ℕ, List, Option}
use Rattle.outlet.specs.declared.write_sink.WriteSink.{WriteSink}

-- the bytes that the writer holds, where they are known
abbrev pub sink_contents : {W : Type 0} → (W → Option (List ℕ)) → WriteSink W → Option (List ℕ)
sink_contents contents sink = contents sink.writer

-- how often the writer failed
abbrev pub sink_failures : {W : Type 0} → WriteSink W → ℕ
sink_failures sink = sink.failures
