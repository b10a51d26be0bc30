-- What the bytes that were taken do to a step, by the laws of many bytes.
use Rattle.std.proofs.Common.{◌≡◌, ◌+◌, ◌<◌, ◌≤◌, take, length, [], ◌∷◌, arith, get_or}
use Rattle.std.proofs.lemmas.Grind.{common_steps}
use Rattle.rate_meter.proofs.StepLaws.{passes, gathers, heads, no_bytes, pushes}
use Rattle.rate_meter.proofs.stepper.Stepper.step.Goals as goal

pub returns-then-self-gt0-clause-shown : goal.returns-then-self-gt0-clause-shown
returns-then-self-gt0-clause-shown c = λ seen.
    let bytes = take c.pass.result c.args.piece.now in
    let count : length (take c.pass.result c.args.piece.now) ≡ c.pass.result = grind (arith, common_steps) in
    let room : length (take c.pass.result c.args.piece.now) ≤ c.args.self.now.skip = omega arith in
    rw (passes (take c.pass.result c.args.piece.now) c.args.self.now seen room, count) (cc)

pub returns-then-gathered-gt0-clause-shown : goal.returns-then-gathered-gt0-clause-shown
returns-then-gathered-gt0-clause-shown c = λ seen.
    let count : length (take c.gather-gathered.result c.args.piece.now) ≡ c.gather-gathered.result = grind (arith, common_steps) in
    let skip : c.args.self.now.skip ≡ 0 = grind arith in
    let begun : 0 < length c.args.self.now.head = c.gather-gathered.ensures.begun c.if-gathered-gt0.true in
    let room : length c.args.self.now.head + length (take c.gather-gathered.result c.args.piece.now) ≤ 11 =
    rw count (c.gather-gathered.ensures.room c.if-gathered-gt0.true) in
    rw (gathers (take c.gather-gathered.result c.args.piece.now) c.args.self.now seen skip begun room) (cc)

pub returns-clause-shown : goal.returns-clause-shown
returns-clause-shown c = λ seen.
    let none : c.gather-gathered.result ≡ 0 = omega arith in
    let same : c.gather-gathered.new.self ≡ c.args.self.now = c.gather-gathered.ensures.none none in
    let skip : c.args.self.now.skip ≡ 0 = grind arith in
    let one : take 1 c.args.piece.now ≡ get_or c.args.piece.now 0 0 ∷ [] = grind (arith, common_steps) in
    rw (one, pushes c.args.self.now seen (get_or c.args.piece.now 0 0) skip) (cc)

pub returns-then-piece-eq71-clause-shown : goal.returns-then-piece-eq71-clause-shown
returns-then-piece-eq71-clause-shown c = λ seen.
    let skip : c.args.self.now.skip ≡ 0 = grind arith in
    let empty : c.args.self.now.head ≡ [] = no_bytes c.args.self.now.head (grind arith) in
    let count : length (take 12 c.args.piece.now) ≡ 12 = grind (arith, common_steps) in
    let first : get_or (take 12 c.args.piece.now) 0 0 ≡ 0x47 = grind (arith, common_steps) in
    rw (heads (take 12 c.args.piece.now) c.args.self.now seen skip empty count first) (cc)
