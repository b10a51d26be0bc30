-- What the streams of a multiplex took, what its rate leaves them, and what of an input's rate its packets are (profile). Rates are
-- in bits a second, rounded down.
use Rattle.std.specs.Prelude.{ℕ, ◌+◌, ◌*◌, ◌/◌, ◌-◌, ◌==◌, if◌then◌else◌}
use Rattle.tspkt.specs.declared.packet_size.PacketSize.{PacketSize}
use Rattle.tspkt.specs.PacketSize.{stride_of}
use Rattle.rounds.specs.Rounds.{RoundsValue}

-- so many slots of so many, at a rate
abbrev pub share_of : ℕ → ℕ → ℕ → ℕ
share_of rate part whole = rate * part / whole

-- what the slots with packets of streams took of all slots that went out
abbrev pub taken_rate_of : ℕ → ℕ → ℕ → ℕ
taken_rate_of rate elementary slots = if slots == 0 then 0 else share_of rate elementary slots

-- what is left by the slots of a round that carry no table: a round has the fast packets and one of the slow ones
abbrev pub left_rate_of : RoundsValue → ℕ
left_rate_of r = share_of r.rate (r.period - (r.fast_len + 1)) r.period

-- what the packets of a stream have of its rate, which counts the bytes that follow them too: 188 of so many bytes
abbrev pub packets_rate_of : PacketSize → ℕ → ℕ
packets_rate_of size rate = share_of rate 188 (stride_of size)
