use Rattle.std.proofs.Common.{arith, ◌≡◌, ap, ◌∙◌}
use Rattle.tables.specs.Header.{section_bytes}
use Rattle.tables.specs.Pmt.{PmtValue, pmt_body_bytes}
use Rattle.tables.proofs.PmtLaws.{IsPmt, is_pmt, pmt_back, pmt_reserved}
use Rattle.tables.proofs.pmt.Pmt.write.Goals.{After-drop-body-2}
use Rattle.tables.proofs.pmt.Pmt.write.Goals as goal

table : (c : After-drop-body-2) → IsPmt c.args.self.now
table c = is_pmt _ c.args.self.now c.self.view_is c.self.invariant (omega (arith, c.in-Some.ensures.value, c.in-Some.ensures.fits))

bytes : (c : After-drop-body-2) → c.in_ok-section.section.items ≡ section_bytes 2 0 c.args.self.now.header (pmt_body_bytes c.args.self.now)
bytes c =
    c.in_ok-section.ensures.bytes
    ∙ ap (λ (v : PmtValue). section_bytes 2 0 v.header c.deref.result.now) c.self.view_is
    ∙ ap (section_bytes 2 0 c.args.self.now.header) (c.deref.ensures.value ∙ c.in_ok-body.ensures.bytes)

pub returns-clause-written : goal.returns-clause-written
returns-clause-written c = pmt_back c.args.self.now (table c) c.in_ok-section.section.items (bytes c)

pub returns-clause-reserved : goal.returns-clause-reserved
returns-clause-reserved c = pmt_reserved c.args.self.now (table c) c.in_ok-section.section.items (bytes c)
