use Rattle.std.proofs.Common.{◌<◌, ◌≤◌, ◌∙◌, length, ap, refl, arith, false}
use Rattle.std.proofs.lemmas.Option.{slice_get_read}
use Rattle.std.proofs.lemmas.List.{length-map}
use Rattle.request.specs.Request.{input_value, IsInput}
use Rattle.schedule.specs.Schedule.{SpanValue}
use Rattle.mux.proofs.Plans.{all_at}
use Rattle.reading.specs.InputLimit.{limit_of_input}
use Rattle.tspkt.specs.declared.framer.TheConstants.{MAX_LIMIT}
use Rattle.serial.proofs.OpeningLaws.{input_at, opened_input}
use Rattle.serial.proofs.opening.open_input.Goals as goal

pub new-requires-clause-input : goal.new-requires-clause-input
new-requires-clause-input g c =
    let x = c.index-inputs-number.result in
    let p = c.args.schedule.now in
    let i = c.args.number in
    let xs = c.inputs.result.now in
    let all = c.inputs.ensures ∙ (λ j. (c.plan.ensures j).request.inputs) in
    let within : i < length xs = omega (arith, c.requires.number, ap length all, length-map xs input_value) in
    let at = input_at p xs i x all (slice_get_read xs (length xs) i x refl within c.index-inputs-number.is) in
    let first : SpanValue = record { slot = 0; plan = p.first } in
    let built = c.known.ensures.plans 0 first (omega arith) in
    all_at IsInput p.first.request.inputs i (input_value x) built.request.inputs at

pub returns : goal.returns
returns g c =
    let x = c.index-inputs-number.result in
    let p = c.args.schedule.now in
    let i = c.args.number in
    let xs = c.inputs.result.now in
    let all = c.inputs.ensures ∙ (λ j. (c.plan.ensures j).request.inputs) in
    let within : i < length xs = omega (arith, c.requires.number, ap length all, length-map xs input_value) in
    let at = input_at p xs i x all (slice_get_read xs (length xs) i x refl within c.index-inputs-number.is) in
    let first : SpanValue = record { slot = 0; plan = p.first } in
    let built = c.known.ensures.plans 0 first (omega arith) in
    let size = c.new.ensures.limit ∙ c.bytes-most.ensures.value in
    let few = c.bytes-most.ensures.within c.requires.limit in
    let most : limit_of_input c.args.limit x.size ≤ MAX_LIMIT = omega (arith, few, c.bytes-most.ensures.value) in
    opened_input g.R.Source.remaining g.R.Source.failures c.args.limit p i (input_value x) c.args.source (record { inlet = c.new.result; is_closed = false }) at
    (all_at IsInput p.first.request.inputs i (input_value x) built.request.inputs at)
    c.new.ensures.origin most size c.new.ensures.source c.new.ensures.report refl (c.new.ensures.read p) c.new.ensures.failures
