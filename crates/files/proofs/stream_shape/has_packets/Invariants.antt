use Rattle.std.proofs.Common.{ℕ, ◌≡◌, ◌<◌, drop, true}
use Rattle.tspkt.specs.Framed.{acquires_sync}
use Rattle.files.proofs.stream_shape.has_packets.Given as goal

-- no five packets begin before
abbrev pub invariant-loop-offset : goal.invariant-loop-offset
invariant-loop-offset l = (k : ℕ) → k < l.offset → acquires_sync l.stride (drop k l.bytes) ≡ true → ⊥
