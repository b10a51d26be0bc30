use Rattle.std.proofs.Common.{subst}
use Rattle.schedule.specs.Laws.{IsMultiplexSchedule}
use Rattle.schedule.specs.Schedule.{ScheduleValue}
use Rattle.reading.specs.PacketReading.{ReadsOn}
use Rattle.outlet.proofs.SendingLaws.{on_err_always}
use Rattle.serial.proofs.TurnLaws.{IsLed, pulled_behind, found_or_spent, halted_on, led_nowhere}
use Rattle.serial.proofs.FeedingLaws.{waited_for}
use Rattle.serial.proofs.feeding.read_on.Goals as goal

pub take-requires-clause-open : goal.take-requires-clause-open
take-requires-clause-open g c = (waited_for c.args.mux.now.run.schedule c.args.number c.args.mux.now.events c.requires.unready.unready).open_

pub returns-clause-feeds : goal.returns-clause-feeds
returns-clause-feeds g c =
    let h = c.args.mux.now in
    let x = c.args.input.now in
    let read = c.find.new.self in
    let S : ScheduleValue → Type 0 = λ v. ReadsOn g.R.Source.remaining v x.inlet read in
    let led : IsLed g.R.Source.remaining g.R.Source.failures h.run.schedule x.inlet read = record { reads = subst S c.schedule-2.ensures c.find.ensures.read; goes = c.find.ensures.goes; stays = c.find.ensures.stays } in
    let found = found_or_spent read c.find.result c.in_ok-find.field-0 c.in_ok-find.was c.find.ensures.found c.find.ensures.done in
    (pulled_behind g.R.Source.remaining g.R.Source.failures h c.take.new.mux c.args.number x c.take.new.entry read c.take.result (subst IsMultiplexSchedule c.schedule.ensures c.known.ensures) c.requires.unready.unready c.requires.feeds led
    c.in_ok-find.ensures.unrefused found c.take.ensures.turns).feeds

pub returns-clause-fewer : goal.returns-clause-fewer
returns-clause-fewer g c =
    let h = c.args.mux.now in
    let x = c.args.input.now in
    let read = c.find.new.self in
    let S : ScheduleValue → Type 0 = λ v. ReadsOn g.R.Source.remaining v x.inlet read in
    let led : IsLed g.R.Source.remaining g.R.Source.failures h.run.schedule x.inlet read = record { reads = subst S c.schedule-2.ensures c.find.ensures.read; goes = c.find.ensures.goes; stays = c.find.ensures.stays } in
    let found = found_or_spent read c.find.result c.in_ok-find.field-0 c.in_ok-find.was c.find.ensures.found c.find.ensures.done in
    (pulled_behind g.R.Source.remaining g.R.Source.failures h c.take.new.mux c.args.number x c.take.new.entry read c.take.result (subst IsMultiplexSchedule c.schedule.ensures c.known.ensures) c.requires.unready.unready c.requires.feeds led
    c.in_ok-find.ensures.unrefused found c.take.ensures.turns).fewer

pub returns-in_err-flush-clause-given : goal.returns-in_err-flush-clause-given
returns-in_err-flush-clause-given g c =
    let h = c.args.mux.now in
    let x = c.args.input.now in
    on_err_always c.from_residual.result (halted_on g.R.Source.remaining g.R.Source.failures h c.args.number x x.inlet c.requires.unready.unready (led_nowhere g.R.Source.remaining g.R.Source.failures h.run.schedule x.inlet))

pub returns-in_err-find-clause-given : goal.returns-in_err-find-clause-given
returns-in_err-find-clause-given g c =
    let h = c.args.mux.now in
    let x = c.args.input.now in
    let read = c.find.new.self in
    let S : ScheduleValue → Type 0 = λ v. ReadsOn g.R.Source.remaining v x.inlet read in
    let led : IsLed g.R.Source.remaining g.R.Source.failures h.run.schedule x.inlet read = record { reads = subst S c.schedule-2.ensures c.find.ensures.read; goes = c.find.ensures.goes; stays = c.find.ensures.stays } in
    on_err_always c.from_residual-in_err-find.result (halted_on g.R.Source.remaining g.R.Source.failures h c.args.number x read c.requires.unready.unready led)
