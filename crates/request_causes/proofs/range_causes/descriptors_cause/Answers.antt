use Rattle.std.proofs.Common.{arith, ◌≡◌, ◌<◌, ◌≤◌, true, false, not, length, ap, sym}
use Rattle.tables.specs.Descriptors.{are_whole}
use Rattle.request.specs.Limits.{MAX_DESCRIPTORS}
use Rattle.request_causes.proofs.RangeLaws.{long_descriptors, descriptors_are}
use Rattle.request_causes.proofs.range_causes.descriptors_cause.Goals as goal

pub returns-then-descriptors-gt-MAX_DESCRIPTORS-clause-some : goal.returns-then-descriptors-gt-MAX_DESCRIPTORS-clause-some
returns-then-descriptors-gt-MAX_DESCRIPTORS-clause-some c =
    let bytes = c.args.parts.now.transport_descriptors.items in
    let long : MAX_DESCRIPTORS < length bytes = omega (arith, ap length c.as_slice-descriptors.ensures.value) in
    sym (ap not (long_descriptors bytes long))

pub returns-then-are_whole-clause-some : goal.returns-then-are_whole-clause-some
returns-then-are_whole-clause-some c =
    let bytes = c.args.parts.now.transport_descriptors.items in
    let short : length bytes ≤ MAX_DESCRIPTORS = omega (arith, ap length c.as_slice-descriptors.ensures.value) in
    let whole : are_whole 0 bytes ≡ true = cc in
    sym (ap not (descriptors_are bytes true short whole))

pub returns-else-are_whole-clause-some : goal.returns-else-are_whole-clause-some
returns-else-are_whole-clause-some c =
    let bytes = c.args.parts.now.transport_descriptors.items in
    let short : length bytes ≤ MAX_DESCRIPTORS = omega (arith, ap length c.as_slice-descriptors.ensures.value) in
    let broken : are_whole 0 bytes ≡ false = cc in
    sym (ap not (descriptors_are bytes false short broken))
