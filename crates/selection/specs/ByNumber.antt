-- Tests of a service's streams by their numbers, as the code goes over them.
use Rattle.std.specs.Prelude.{ℕ, ◌==◌, Bool, false, not, ◌&&◌, List, slice_get}
use Rattle.std.specs.List.{list_any}
use Rattle.std.specs.Option.{option_map_or}
use Rattle.tables.specs.Pmt.{PmtValue}
use Rattle.request.specs.declared.stream.Stream.{Stream}
use Rattle.selection.specs.Chosen.{is_elementary}

-- whether the stream of one of these numbers has the PID
abbrev pub is_named_by : List Stream → List ℕ → ℕ → Bool
is_named_by streams numbers pid = list_any (λ n. option_map_or (λ (s : Stream). s.pid == pid) (slice_get streams n) false) numbers

-- whether the stream of one of these numbers is unknown to the program
abbrev pub has_unknown_by : List Stream → List ℕ → PmtValue → Bool
has_unknown_by streams numbers pmt =
    list_any (λ n. option_map_or (λ (s : Stream). not (is_elementary pmt s.pid) && not (pmt.pcr_pid == s.pid)) (slice_get streams n) false) numbers
