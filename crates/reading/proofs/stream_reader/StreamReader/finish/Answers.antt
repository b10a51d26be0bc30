use Rattle.std.proofs.Common.{◌≢◌}
use Rattle.reading.specs.declared.stop.Stop.TheVariants.{Memory, ReadFailed, TooMuch}
use Rattle.std.proofs.Common.{◌++◌}
use Rattle.reading.proofs.StreamLaws.{left_now, not_much, finished_passed}
use Rattle.reading.proofs.stream_reader.StreamReader.finish.Goals as goal

other : Memory ≢ TooMuch
other e = cc

unfailed : Memory ≢ ReadFailed
unfailed e = cc

pub returns-in-Ok-clause-read : goal.returns-in-Ok-clause-read
returns-in-Ok-clause-read g c = λ stride bytes stopped passed there h.
    finished_passed stride c.args.self.now.items c.finish.new.self passed bytes _ stopped c.requires.ahead c.requires.open c.in-Ok.ensures.ok there h

pub returns-in-Err-clause-read : goal.returns-in-Err-clause-read
returns-in-Err-clause-read g c = λ stride bytes stopped passed there h.
    let items = c.args.self.now.items in
    left_now stride items c.finish.new.self passed bytes _ stopped Memory c.in-Err.ensures.err other
    (not_much stride items.limit items.framer (passed ++ items.ahead) bytes _ stopped c.requires.open h) (λ e. absurd (unfailed e)) h
