use Rattle.std.proofs.Common.{◌≢◌, ◌++◌, ◌∙◌, ap, sym, refl, Err}
use Rattle.reading.specs.declared.stop.Stop.TheVariants.{Memory, ReadFailed, TooMuch}
use Rattle.reading.proofs.StreamLaws.{left_over, full_bytes, fits_bytes, fed_passed}
use Rattle.reading.proofs.stream_reader.StreamReader.feed.Goals as goal

other : Memory ≢ TooMuch
other e = cc

unfailed : Memory ≢ ReadFailed
unfailed e = cc

unfailed_long : TooMuch ≢ ReadFailed
unfailed_long e = cc

pub returns-in-Ok-clause-read : goal.returns-in-Ok-clause-read
returns-in-Ok-clause-read g c = λ stride bytes stopped passed h.
    let s = c.args.self.now in
    fed_passed stride s.items c.feed.new.self passed bytes c.args.piece.now _ _ stopped c.requires.ahead c.requires.open c.in-Ok.ensures.ok h

pub returns-in-Err-TooMuch-clause-read : goal.returns-in-Err-TooMuch-clause-read
returns-in-Err-TooMuch-clause-read g c = λ stride bytes stopped passed h.
    let items = c.args.self.now.items in
    let full = c.in-Err-TooMuch.ensures.too_much (ap Err c.in-Err-TooMuch.field-0-is) in
    left_over stride items c.feed.new.self passed bytes c.args.piece.now _ _ stopped TooMuch c.in-Err-TooMuch.ensures.err
    (λ e. full_bytes stride items.limit items.framer (passed ++ items.ahead) bytes c.args.piece.now _ stopped h full) (λ f. absurd (f refl)) unfailed_long c.requires.open h

pub returns-in-Err-Memory-clause-read : goal.returns-in-Err-Memory-clause-read
returns-in-Err-Memory-clause-read g c = λ stride bytes stopped passed h.
    let items = c.args.self.now.items in
    left_over stride items c.feed.new.self passed bytes c.args.piece.now _ _ stopped Memory c.in-Err-Memory.ensures.err (λ e. absurd (other e))
    (λ f. fits_bytes stride items.limit items.framer (passed ++ items.ahead) bytes c.args.piece.now _ stopped c.requires.open h
    (λ full. let bad = sym (ap Err c.in-Err-Memory.field-0-is) ∙ c.in-Err-Memory.ensures.full full in cc))
    unfailed c.requires.open h
