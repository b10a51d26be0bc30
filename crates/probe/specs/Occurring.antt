-- How often something comes in a stream, and where first. Lists of packets are newest first.
use Rattle.std.specs.Prelude.{ℕ, ◌+◌, Bool, List, [], ◌∷◌, Option, Some, None, is_some, unwrap_or, if◌then◌else◌}
use Rattle.std.specs.List.{count_by}
use Rattle.rate_meter.specs.Line.{within_64}
use Rattle.probe.specs.declared.place.Place.{Place}
use Rattle.probe.specs.declared.occurrences.Occurrences.{Occurrences}
use Rattle.probe.specs.declared.sighting.Sighting.{Sighting}

-- where the oldest of the packets stands that pass
abbrev pub first_of : (Sighting → Bool) → List Sighting → Option Place
first_of passes [] = None
first_of passes (s ∷ seen) =
    if is_some (first_of passes seen) then first_of passes seen else if passes s then Some s.place else None

-- how many of the packets pass, and where the first of them stands
abbrev pub occurrences_of : (Sighting → Bool) → List Sighting → Occurrences
occurrences_of passes seen = record { count = within_64 (count_by passes seen); first = first_of passes seen }

-- what never came
abbrev pub never : Occurrences
never = record { count = 0; first = None }

-- one more at this place, behind the others
abbrev pub once_more : Place → Occurrences → Occurrences
once_more place o = record { count = within_64 (o.count + 1); first = Some (unwrap_or o.first place) }
