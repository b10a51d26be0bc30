use Rattle.std.proofs.Common.{◌≡◌, true, false, length}
use Rattle.std.specs.Prelude.{string_bytes}
use Rattle.request.specs.Limits.{MAX_NAME}
use Rattle.request.specs.Ranges.{is_count_between}
use Rattle.request_causes.proofs.RangeLaws.{bad_name_length, name_left}
use Rattle.request_causes.proofs.range_causes.name_cause.Goals as goal

pub returns-else-is_count-clause-some : goal.returns-else-is_count-clause-some
returns-else-is_count-clause-some c =
    let name = string_bytes c.args.parts.now.network_name in
    let count : is_count_between 1 MAX_NAME (length name) ≡ false = cc in
    bad_name_length name count

pub returns-then-is_count-clause-some : goal.returns-then-is_count-clause-some
returns-then-is_count-clause-some c =
    let name = string_bytes c.args.parts.now.network_name in
    let count : is_count_between 1 MAX_NAME (length name) ≡ true = cc in
    name_left name _ count c.letter_cause.ensures.some
