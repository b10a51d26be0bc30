-- The rows of a plan one by one, as the code goes over them.
use Rattle.std.specs.Prelude.{Bool, List, [], ◌∷◌, ◌++◌, if◌then◌else◌}
use Rattle.std.specs.List.{list_any}
use Rattle.request.specs.declared.service_parts.ServiceParts.{ServiceParts}
use Rattle.request.specs.declared.stream_row.StreamRow.{StreamRow}
use Rattle.request.specs.Request.{row_of, has_same_source}

-- with one more row, unless its input and PID are those of one that was found
abbrev pub with_row : List StreamRow → StreamRow → List StreamRow
with_row found row = if list_any (has_same_source row) found then found else found ++ row ∷ []

unfoldable pub with_rows : List StreamRow → List StreamRow → List StreamRow
with_rows found [] = found
with_rows found (row ∷ rows) = with_rows (with_row found row) rows

-- a row of the service passes the test, or one of the services
abbrev pub has_row_in : (StreamRow → Bool) → ServiceParts → Bool
has_row_in test service = list_any (λ s. test (row_of service.input s)) service.streams.items

abbrev pub has_row : (StreamRow → Bool) → List ServiceParts → Bool
has_row test services = list_any (has_row_in test) services
