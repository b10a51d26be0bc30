-- The continuity counter that the next table packet of a PID gets: ISO/IEC 13818-1, 2.4.3.3 (it steps with each packet, modulo
-- 16). That the first has 0 is profile.
use Rattle.std.specs.Prelude.{ℕ, ◌+◌, ◌%◌, List, length, map, slice_index, slice_set}
use Rattle.std.specs.List.{range_with_len}
use Rattle.emission.specs.Emission.{of_pid}
use Rattle.tspkt.specs.declared.packet.TheConstants.{PID_COUNT}

-- for each PID how many of these packets it has, modulo 16
abbrev pub counters_of : List (List ℕ) → List ℕ
counters_of packets = map (λ pid. length (of_pid pid packets) % 16) (range_with_len 0 PID_COUNT)

-- one more packet of a PID
abbrev pub counted : List ℕ → ℕ → List ℕ
counted counters pid = slice_set counters pid ((slice_index counters pid + 1) % 16)
