use Rattle.std.proofs.Common.{length, sym, ◌∙◌, ap, arith}
use Rattle.analyse.specs.UnreadSections.{UnreadState}
use Rattle.analyse.proofs.UnreadLaws.{copied, grown, not_next, ended}
use Rattle.analyse.proofs.unread_section.UnreadSection.push.Goals as goal

pub returns-then-is_repeated_by-clause-on : goal.returns-then-is_repeated_by-clause-on
returns-then-is_repeated_by-clause-on c t s i =
    let lacks = ap (λ (u : UnreadState). u.lacks) c.self.view_is in
    let skipped = sym c.is_repeated_by.ensures ∙ c.if-is_repeated_by.true in
    rw lacks (copied c.args.self.now s c.args.packet.now i c.requires skipped).0

pub returns-then-is_repeated_by-clause-no_pmt : goal.returns-then-is_repeated_by-clause-no_pmt
returns-then-is_repeated_by-clause-no_pmt c t s i =
    (copied c.args.self.now s c.args.packet.now i c.requires (sym c.is_repeated_by.ensures ∙ c.if-is_repeated_by.true)).1

pub returns-then-not-is_followed_by-clause-anew : goal.returns-then-not-is_followed_by-clause-anew
returns-then-not-is_followed_by-clause-anew c t s i =
    not_next c.args.self.now s c.args.packet.now i c.requires
    (sym c.is_repeated_by.ensures ∙ c.if-is_repeated_by.false)
    (sym c.is_followed_by.ensures ∙ c.if-not-is_followed_by.true)

pub returns-then-self-count-clause-anew : goal.returns-then-self-count-clause-anew
returns-then-self-count-clause-anew c t s i =
    let lacks = ap (λ (u : UnreadState). u.lacks) c.self.view_is in
    let size = ap length c.payload-count.ensures.value in
    ended c.args.self.now s c.args.packet.now i c.requires
    (sym c.is_repeated_by.ensures ∙ c.if-is_repeated_by.false)
    (sym c.is_followed_by.ensures ∙ c.if-not-is_followed_by.false)
    (omega (arith, lacks, size, c.if-self-count.true))

pub returns-clause-on : goal.returns-clause-on
returns-clause-on c t s i =
    let lacks = ap (λ (u : UnreadState). u.lacks) c.self.view_is in
    let size = ap length c.payload-count.ensures.value in
    let more =
    grown c.args.self.now s c.args.packet.now i c.requires
    (sym c.is_repeated_by.ensures ∙ c.if-is_repeated_by.false)
    (sym c.is_followed_by.ensures ∙ c.if-not-is_followed_by.false)
    (omega (arith, lacks, size, c.if-self-count.false)) in
    rw (lacks, size) more.0

pub returns-clause-no_pmt : goal.returns-clause-no_pmt
returns-clause-no_pmt c t s i =
    let lacks = ap (λ (u : UnreadState). u.lacks) c.self.view_is in
    let size = ap length c.payload-count.ensures.value in
    let more =
    grown c.args.self.now s c.args.packet.now i c.requires
    (sym c.is_repeated_by.ensures ∙ c.if-is_repeated_by.false)
    (sym c.is_followed_by.ensures ∙ c.if-not-is_followed_by.false)
    (omega (arith, lacks, size, c.if-self-count.false)) in
    more.1
