use Rattle.std.proofs.Common.{◌≡◌, ◌+◌, ◌++◌, ◌∷◌, [], length, false, arith, ap, sym, ◌∙◌}
use Rattle.marks.specs.declared.entry.Entry.TheVariants.{Packet, Seal}
use Rattle.marks.specs.Entries.{packets_of, has_seal}
use Rattle.marks.specs.Marks.{MarkValue, mark_of, one_if, with_entry}
use Rattle.marks.proofs.MarkLaws.{entry_count, count_with_packet, packets_with_seal, seal_behind_packet, seal_added, sealed_last_add, mark_with_entry}
use Rattle.marks.proofs.AddingLaws.{adds_moves, entry_added}
use Rattle.marks.proofs.mark.Mark.followed_by.Goals as goal

pub compare_exchange-found-requires : goal.compare_exchange-found-requires
compare_exchange-found-requires c =
    let word = c.requires.word in
    let offer = c.plain-offer.ensures in
    let pen = c.no_pen-pen.ensures in
    let log = c.self.inside.seen.log in
    let again = c.again-seen.ensures in
    let loose : has_seal log ≡ false = ap (λ (z : MarkValue). z.is_sealed) c.self.view_is ∙ c.requires.open in
    let len : length log ≡ c.self.inside.count = entry_count log c.self.invariant.2 ∙ (ap (λ b. length (packets_of log) + one_if b) loose ∙ omega (arith, c.self.invariant.0)) in
    let feed : c.again-seen.result.book ≡ c.args.word.now.book = ap (λ s. s.book) again ∙ (ap (λ (z : MarkValue). z.feed) c.self.view_is ∙ sym (ap (λ w. w.book) word)) in (
      ap (λ w. w.tracked) word,
      feed,
      pen.0 ∙ feed,
      offer.0,
      rw (ap (λ w. w.key) word, pen.1, offer.1, offer.3, c.in_ok-more.ensures.1, ap (λ s. s.log) again) (adds_moves log c.args.entry c.self.inside.count len loose),
    )

pub invariant_of-result : goal.invariant_of-result
invariant_of-result c =
    let log = c.self.inside.seen.log in
    let loose : has_seal log ≡ false = ap (λ (z : MarkValue). z.is_sealed) c.self.view_is ∙ c.requires.open in
    let ask : c.plain-offer.result.ask ≡ Packet c.in-Packet.field-0 = c.plain-offer.ensures.1 ∙ c.in-Packet.is in
    let now : c.compare_exchange-found.new.seen.log ≡ log ++ Packet c.in-Packet.field-0 ∷ [] =
    entry_added _ _ _ _ _ c.compare_exchange-found.ensures.7 c.if-found-count.false ∙ (λ i. (c.again-seen.ensures i).log ++ ask i ∷ []) in
    rw now (c.in_ok-more.ensures.1 ∙ sym (count_with_packet log c.in-Packet.field-0 c.self.inside.count c.self.invariant.0), sym (seal_behind_packet log c.in-Packet.field-0 ∙ loose), sealed_last_add log (Packet c.in-Packet.field-0) c.self.invariant.2 loose)

pub invariant_of-result-in-Seal : goal.invariant_of-result-in-Seal
invariant_of-result-in-Seal c =
    let log = c.self.inside.seen.log in
    let loose : has_seal log ≡ false = ap (λ (z : MarkValue). z.is_sealed) c.self.view_is ∙ c.requires.open in
    let ask : c.plain-offer.result.ask ≡ Seal = c.plain-offer.ensures.1 ∙ c.in-Seal.is in
    let now : c.compare_exchange-found.new.seen.log ≡ log ++ Seal ∷ [] =
    entry_added _ _ _ _ _ c.compare_exchange-found.ensures.7 c.if-found-count.false ∙ (λ i. (c.again-seen.ensures i).log ++ ask i ∷ []) in
    rw now (c.self.invariant.0 ∙ ap length (sym (packets_with_seal log)), sym (seal_added log), sealed_last_add log Seal c.self.invariant.2 loose)

pub returns : goal.returns
returns c =
    let log = c.self.inside.seen.log in
    let loose : has_seal log ≡ false = ap (λ (z : MarkValue). z.is_sealed) c.self.view_is ∙ c.requires.open in
    let now : c.compare_exchange-found.new.seen.log ≡ log ++ c.args.entry ∷ [] =
    entry_added _ _ _ _ _ c.compare_exchange-found.ensures.7 c.if-found-count.false ∙ (λ i. (c.again-seen.ensures i).log ++ c.plain-offer.ensures.1 i ∷ []) in
    let feed : c.compare_exchange-found.new.seen.book ≡ c.self.inside.seen.book = c.compare_exchange-found.ensures.0 ∙ ap (λ s. s.book) c.again-seen.ensures in
    (λ i. mark_of (feed i) (now i)) ∙ (mark_with_entry _ log c.args.entry loose ∙ ap (λ (z : MarkValue). with_entry z c.args.entry) c.self.view_is)

pub returns-in-Packet : goal.returns-in-Packet
returns-in-Packet c =
    let log = c.self.inside.seen.log in
    let loose : has_seal log ≡ false = ap (λ (z : MarkValue). z.is_sealed) c.self.view_is ∙ c.requires.open in
    let now : c.compare_exchange-found.new.seen.log ≡ log ++ c.args.entry ∷ [] =
    entry_added _ _ _ _ _ c.compare_exchange-found.ensures.7 c.if-found-count.false ∙ (λ i. (c.again-seen.ensures i).log ++ c.plain-offer.ensures.1 i ∷ []) in
    let feed : c.compare_exchange-found.new.seen.book ≡ c.self.inside.seen.book = c.compare_exchange-found.ensures.0 ∙ ap (λ s. s.book) c.again-seen.ensures in
    (λ i. mark_of (feed i) (now i)) ∙ (mark_with_entry _ log c.args.entry loose ∙ ap (λ (z : MarkValue). with_entry z c.args.entry) c.self.view_is)
