use Rattle.std.proofs.Common.{◌≡◌, ◌<◌, ℕ, [], length, ap, refl, sym, ◌∙◌, arith}
use Rattle.std.proofs.lemmas.Option.{slice_get_read, same_Some}
use Rattle.std.proofs.lemmas.List.{length-map}
use Rattle.request.specs.Request.{InputValue, input_value, IsInput}
use Rattle.schedule.specs.Schedule.{SpanValue}
use Rattle.reading.specs.InputLimit.{limit_of_input}
use Rattle.reading.specs.Takeable.{origin_of}
use Rattle.reading.specs.declared.report.Report.{Report}
use Rattle.worker.specs.declared.sender.Sender.{Sender}
use Rattle.worker.proofs.PlanLaws.{all_at, input_at}
use Rattle.worker.proofs.WorkingLaws.{IsOwnStop, empty_of, fresh_sent, worked, told_failed, told_unfailed, told_gate, told_left, told_unmarked}
use Rattle.worker.proofs.SendingLaws.{fresh_unheld}
use Rattle.worker.proofs.worker.Worker.run.Goals as goal

pub new-reader-requires-clause-input : goal.new-reader-requires-clause-input
new-reader-requires-clause-input g c =
    let x = c.index-inputs-number.result in
    let p = c.args.self.schedule in
    let i = c.args.self.number in
    let xs = c.inputs.result.now in
    let all = c.inputs.ensures ∙ (λ j. (c.plan.ensures j).request.inputs) in
    let within : i < length xs = omega (arith, c.args.self.known, ap length all, length-map xs input_value) in
    let at = input_at p xs i x all (slice_get_read xs (length xs) i x refl within c.index-inputs-number.is) in
    let first : SpanValue = record { slot = 0; plan = p.first } in
    let built = c.known.ensures.plans 0 first (omega arith) in
    all_at IsInput p.first.request.inputs i (input_value x) built.request.inputs at

pub returns-clause-sent : goal.returns-clause-sent
returns-clause-sent g c input at =
    let x = c.index-inputs-number.result in
    let p = c.args.self.schedule in
    let i = c.args.self.number in
    let xs = c.inputs.result.now in
    let all = c.inputs.ensures ∙ (λ j. (c.plan.ensures j).request.inputs) in
    let within : i < length xs = omega (arith, c.args.self.known, ap length all, length-map xs input_value) in
    let is_at = input_at p xs i x all (slice_get_read xs (length xs) i x refl within c.index-inputs-number.is) in
    let same : input_value x ≡ input = same_Some (input_value x) input (sym is_at ∙ at) in
    let unsent : c.args.self.port.sent ≡ [] = empty_of c.args.self.port.sent c.args.self.unsent in
    let a : Sender _ _ = record { schedule = p; reader = c.new-reader.result; gate = c.args.self.gate; port = c.args.self.port; wait = c.args.self.wait } in
    let own : IsOwnStop c.send-stop.result c.send-stop.new.self.reader.report.stopped c.finish.result.1.is_ended = record {
      own = c.send-stop.ensures.causes;
      refused = λ e. ap (λ (v : Sender _ _). v.reader.report.stopped) (c.send-stop.ensures.refused e) ∙ ap (λ (v : Report). v.stopped) c.new-reader.ensures.report;
      unfailed = λ e. c.send-stop.ensures.unfailed e (g.R.Source.remaining c.args.self.source) (fresh_sent g.R.Source.remaining a c.args.self.source c.new-reader.ensures.source (c.new-reader.ensures.read p) unsent);
      unmarked = λ e. (c.finish.ensures.stopped e).1;
    } in
    let most : ℕ = limit_of_input c.args.self.limit input.size in
    let size = c.new-reader.ensures.limit ∙ c.bytes-most.ensures.value ∙ ap (λ (v : InputValue). limit_of_input c.args.self.limit v.size) same in
    worked g.R.Source.remaining g.R.Source.failures most a c.send-stop.new.self p (origin_of i input) c.args.self.source c.finish.result.2 c.send-stop.result c.finish.result.0 c.finish.result.1
    refl (c.new-reader.ensures.origin ∙ ap (origin_of i) same) c.new-reader.ensures.source size (c.new-reader.ensures.read p) unsent
    c.send-stop.ensures.sent c.finish.ensures.source c.send-stop.ensures.over own c.finish.ensures.counts c.finish.ensures.cause c.finish.ensures.port

pub send-stop-requires : goal.send-stop-requires
send-stop-requires g c = fresh_unheld g.R.Source.remaining c.args.self.schedule c.new-reader.result (c.new-reader.ensures.read c.args.self.schedule) c.new-reader.ensures.report

pub returns-clause-unfailed : goal.returns-clause-unfailed
returns-clause-unfailed g c other =
    let a : Sender _ _ = record { schedule = c.args.self.schedule; reader = c.new-reader.result; gate = c.args.self.gate; port = c.args.self.port; wait = c.args.self.wait } in
    told_unfailed g.R.Source.remaining g.R.Source.failures a c.send-stop.new.self c.args.self.source c.finish.result.2 c.send-stop.result c.finish.result.1.is_ended c.finish.result.0.stopped
    c.new-reader.ensures.failures c.send-stop.ensures.sent c.finish.ensures.source c.finish.ensures.cause other

pub returns-clause-left : goal.returns-clause-left
returns-clause-left g c e =
    let old = c.new-reader.ensures.report in
    told_left c.send-stop.result c.send-stop.new.self.reader.report.stopped c.finish.result.0.stopped c.finish.result.1.is_ended c.finish.ensures.cause
    (λ left. let bad = sym (ap (λ (v : Report). v.stopped) old) ∙ c.send-stop.ensures.sent.unleft left in cc) (λ s. (c.finish.ensures.stopped s).1) e

pub returns-clause-failed : goal.returns-clause-failed
returns-clause-failed g c e =
    let a : Sender _ _ = record { schedule = c.args.self.schedule; reader = c.new-reader.result; gate = c.args.self.gate; port = c.args.self.port; wait = c.args.self.wait } in
    told_failed g.R.Source.remaining g.R.Source.failures a c.send-stop.new.self c.args.self.source c.finish.result.2 c.send-stop.result c.finish.result.1.is_ended c.finish.result.0.stopped
    c.new-reader.ensures.source c.new-reader.ensures.failures c.send-stop.ensures.sent c.finish.ensures.source c.send-stop.ensures.causes c.finish.ensures.cause e

pub returns-clause-gate : goal.returns-clause-gate
returns-clause-gate g c e =
    let old = c.new-reader.ensures.report in
    told_gate c.send-stop.result c.send-stop.new.self.reader.report.stopped c.finish.result.0.stopped c.finish.result.1.is_ended
    (g.G.Gate.stops c.args.self.gate) (g.G.Gate.stops c.send-stop.new.self.gate) (g.G.Gate.stops c.finish.result.3)
    c.finish.ensures.cause c.send-stop.ensures.causes (λ left. let bad = sym (ap (λ (v : Report). v.stopped) old) ∙ c.send-stop.ensures.sent.unleft left in cc)
    c.send-stop.ensures.stopped (λ s. (c.finish.ensures.stopped s).0) c.send-stop.ensures.gate c.finish.ensures.gate e

pub returns-clause-marked : goal.returns-clause-marked
returns-clause-marked g c e =
    told_unmarked c.send-stop.result c.finish.result.1.is_ended
    (g.G.Gate.stops c.args.self.gate) (g.G.Gate.stops c.send-stop.new.self.gate) (g.G.Gate.stops c.finish.result.3)
    c.send-stop.ensures.causes c.send-stop.ensures.stopped (λ s. (c.finish.ensures.stopped s).0) c.send-stop.ensures.gate c.finish.ensures.gate e
