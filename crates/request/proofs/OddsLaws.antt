-- The rows of the services that pass a test.
use Rattle.std.proofs.Common.{◌≡◌, ◌||◌, Bool, List, map, refl, ◌∙◌, sym}
use Rattle.std.specs.List.{list_any}
use Rattle.request.specs.declared.service_parts.ServiceParts.{ServiceParts}
use Rattle.request.specs.declared.stream_row.StreamRow.{StreamRow}
use Rattle.request.specs.Parts.{service_parts_value}
use Rattle.request.specs.Request.{row_of, service_rows, rows_of, are_at_odds, names_pid_twice, has_repeat, output_pids, has_pid_twice}
use Rattle.request.specs.Collected.{has_row_in, has_row}
use Rattle.request.proofs.ListLaws.{list_any-map, list_any-flat_map, list_any_agree}

pub has_row_is : (test : StreamRow → Bool) (services : List ServiceParts) → has_row test services ≡ list_any test (rows_of (map service_parts_value services))
has_row_is test services =
    list_any_agree (has_row_in test) (λ s. list_any test (service_rows (service_parts_value s))) (λ s. sym (list_any-map test (row_of s.input) s.streams.items)) services
    ∙ sym (list_any-flat_map test service_rows service_parts_value services)

pub odds_are : (services : List ServiceParts) → has_row (λ a. has_row (are_at_odds a) services) services
    ≡ list_any (λ a. list_any (are_at_odds a) (rows_of (map service_parts_value services))) (rows_of (map service_parts_value services))
odds_are services =
    has_row_is (λ a. has_row (are_at_odds a) services) services
    ∙ list_any_agree (λ a. has_row (are_at_odds a) services) (λ a. list_any (are_at_odds a) (rows_of (map service_parts_value services))) (λ a. has_row_is (are_at_odds a) services) (rows_of (map service_parts_value services))

-- a PID that is used twice, over the services as they lie in memory
pub pid_twice_is : (services : List ServiceParts) → has_pid_twice (map service_parts_value services)
    ≡ ((list_any (λ s. names_pid_twice (service_parts_value s)) services || has_row (λ a. has_row (are_at_odds a) services) services)
    || has_repeat (output_pids (map service_parts_value services)))
unfolding has_pid_twice
pid_twice_is services =
    rw (list_any-map names_pid_twice service_parts_value services, odds_are services) refl
