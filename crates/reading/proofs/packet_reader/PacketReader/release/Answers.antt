use Rattle.std.proofs.Common.{rules, ◌≡◌, ◌++◌, Option, None, ap, sym, subst, ◌∙◌}
use Rattle.std.specs.Prelude.{IsSome}
use Rattle.std.specs.Option.{option_to_list}
use Rattle.reading.specs.Holding.{PacketReader, held_of, stream_behind}
use Rattle.reading.specs.PacketReading.{HasRead}
use Rattle.reading.proofs.HoldingLaws.{passed_held}
use Rattle.reading.proofs.PacketLaws.{released}
use Rattle.reading.proofs.packet_reader.PacketReader.release.Goals as goal

pub returns-then-is_some-clause-stays : goal.returns-then-is_some-clause-stays
returns-then-is_some-clause-stays g c =
    let s = c.self.inside in
    let view = c.self.view_is in
    let none : c.take.new.self ≡ None = search rules in
    let some : IsSome s.found = search rules in
    let stream = ap (λ f. stream_behind f c.pass.new.self) none ∙ (passed_held s.found s.stream c.pass.new.self some c.pass.ensures.items ∙ ap (λ (v : PacketReader _). v.stream) view) in
    let held = ap (λ f. held_of f c.pass.new.self.items.ahead) none in
    λ i. record { origin = ap (λ (v : PacketReader _). v.origin) view i; stream = stream i; held = held i; report = ap (λ (v : PacketReader _). v.report) view i }

pub returns-else-is_some-clause-stays : goal.returns-else-is_some-clause-stays
returns-else-is_some-clause-stays g c =
    let s = c.self.inside in
    let view = c.self.view_is in
    let none : c.take.new.self ≡ None = search rules in
    let was : s.found ≡ None = search rules in
    let stream = ap (λ f. stream_behind f s.stream) (none ∙ sym was) ∙ ap (λ (v : PacketReader _). v.stream) view in
    let held = ap (λ f. held_of f s.stream.items.ahead) none in
    λ i. record { origin = ap (λ (v : PacketReader _). v.origin) view i; stream = stream i; held = held i; report = ap (λ (v : PacketReader _). v.report) view i }

pub returns-then-is_some-clause-read : goal.returns-then-is_some-clause-read
returns-then-is_some-clause-read g c = λ schedule bytes given h.
    let M = g.R.Source.remaining in
    let a = c.args.self.now in
    subst (λ (v : PacketReader _). HasRead M schedule v bytes (given ++ option_to_list a.held)) (sym (returns-then-is_some-clause-stays g c))
    (h.0, released M schedule a.origin a.stream a.held a.report bytes given h.0 h.1)

pub returns-else-is_some-clause-read : goal.returns-else-is_some-clause-read
returns-else-is_some-clause-read g c = λ schedule bytes given h.
    let M = g.R.Source.remaining in
    let a = c.args.self.now in
    subst (λ (v : PacketReader _). HasRead M schedule v bytes (given ++ option_to_list a.held)) (sym (returns-else-is_some-clause-stays g c))
    (h.0, released M schedule a.origin a.stream a.held a.report bytes given h.0 h.1)
