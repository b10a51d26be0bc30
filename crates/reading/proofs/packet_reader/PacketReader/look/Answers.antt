use Rattle.std.proofs.Common.{◌≡◌, ℕ, subst}
use Rattle.std.specs.Prelude.{IfSome}
use Rattle.reading.specs.Takeable.{stream_number}
use Rattle.reading.proofs.packet_reader.PacketReader.look.Goals as goal

pub returns-in-Some-clause-number : goal.returns-in-Some-clause-number
returns-in-Some-clause-number g c = λ number e.
    let same : c.in-Some.number ≡ number = cc in
    let P : ℕ → Type 0 = λ n. IfSome c.args.self.now.held (λ item. n ≡ stream_number c.args.schedule.now c.args.self.now.origin item) in
    subst P same (c.held_number.ensures.number c.in-Some.number c.in-Some.is)
