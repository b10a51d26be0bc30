use Rattle.std.proofs.Common.{rules, ◌≡◌, ◌<◌, ◌≤◌, ◌++◌, ◌∷◌, [], length, get_or, ap, ◌∙◌, sym, arith}
use Rattle.rtrb.specs.Ring.{received}
use Rattle.port.specs.Arrivals.{End, marks_of}
use Rattle.port.specs.Chunks.{ReaderValue}
use Rattle.port.proofs.ChunkLaws.{hands_one, hands_first, all_handed}
use Rattle.port.proofs.RingLaws.{same_id}
use Rattle.port.proofs.ring_reader.RingReader.advance.Goals as goal

pub invariant_of-self : goal.invariant_of-self
invariant_of-self c =
    let s = c.self.inside in
    let size : length s.chunk ≡ 16 = search rules in
    let on = hands_one (received s.consumer) s.chunk s.count s.passed c.if-self.true (omega (arith, c.self.invariant.1, size)) c.self.invariant.2 in
    (omega (arith, c.if-self.true), c.self.invariant.1, on.waiting, on.last)

pub returns-then-self : goal.returns-then-self
returns-then-self c =
    let s = c.self.inside in
    let size : length s.chunk ≡ 16 = search rules in
    let on = hands_one (received s.consumer) s.chunk s.count s.passed c.if-self.true (omega (arith, c.self.invariant.1, size)) c.self.invariant.2 in
    let ring = ap (λ (r : ReaderValue). r.ring) c.self.view_is in
    let handed = ap (λ (r : ReaderValue). r.handed) c.self.view_is in (
      get_or s.chunk s.passed End,
      (λ i. record { ring = ring i; handed = (on.handed ∙ ap (λ v. v ++ get_or s.chunk s.passed End ∷ []) handed) i }),
      ap marks_of (sym handed) ∙ on.unmarked,
    )

pub invariant_of-self-2 : goal.invariant_of-self-2
invariant_of-self-2 c =
    let pop = c.pop_partial_slice-count in
    let chunk = pop.new.slice in
    let old : length c.self.inside.chunk ≡ 16 = search rules in
    let size : length chunk ≡ 16 = search rules in
    let some : 0 < pop.result = search rules in
    let most : pop.result ≤ 16 = omega (arith, pop.ensures.received.0, old) in
    let on = hands_first (received c.self.inside.consumer) (received pop.new.self) chunk pop.result pop.ensures.received.1 some (omega (arith, most, size)) pop.ensures.allowed in
    (omega (arith, some), most, on.waiting, on.last)

pub returns : goal.returns
returns c =
    let s = c.self.inside in
    let pop = c.pop_partial_slice-count in
    let chunk = pop.new.slice in
    let old : length s.chunk ≡ 16 = search rules in
    let size : length chunk ≡ 16 = search rules in
    let some : 0 < pop.result = search rules in
    let most : pop.result ≤ 16 = omega (arith, pop.ensures.received.0, old) in
    let on = hands_first (received s.consumer) (received pop.new.self) chunk pop.result pop.ensures.received.1 some (omega (arith, most, size)) pop.ensures.allowed in
    let all = all_handed (received s.consumer) s.chunk s.count s.passed (omega (arith, c.if-self.false)) (omega (arith, c.self.invariant.1, old)) in
    let ring = same_id s.consumer.end pop.new.self.end s.input pop.ensures.ring.0 ∙ ap (λ (r : ReaderValue). r.ring) c.self.view_is in
    let handed : received s.consumer ≡ c.args.self.now.handed = sym all ∙ ap (λ (r : ReaderValue). r.handed) c.self.view_is in (
      get_or chunk 0 End,
      (λ i. record { ring = ring i; handed = (on.handed ∙ ap (λ v. v ++ get_or chunk 0 End ∷ []) handed) i }),
      ap marks_of (sym handed) ∙ on.unmarked,
    )
