use Rattle.std.proofs.Common.{arith, ◌≡◌, ap, ◌∙◌}
use Rattle.tables.specs.Header.{section_bytes}
use Rattle.tables.specs.Nit.{NitValue, nit_body_bytes}
use Rattle.tables.proofs.NitLaws.{IsNit, is_nit, nit_back, nit_reserved}
use Rattle.tables.proofs.nit.Nit.write.Goals.{After-drop-body-2}
use Rattle.tables.proofs.nit.Nit.write.Goals as goal

table : (c : After-drop-body-2) → IsNit c.args.self.now
table c = is_nit _ c.args.self.now c.self.view_is c.self.invariant (omega (arith, c.in-Some.ensures.value, c.in-Some.ensures.fits))

bytes : (c : After-drop-body-2) → c.in_ok-section.section.items ≡ section_bytes 0x40 1 c.args.self.now.header (nit_body_bytes c.args.self.now)
bytes c =
    c.in_ok-section.ensures.bytes
    ∙ ap (λ (v : NitValue). section_bytes 0x40 1 v.header c.deref.result.now) c.self.view_is
    ∙ ap (section_bytes 0x40 1 c.args.self.now.header) (c.deref.ensures.value ∙ c.in_ok-body.ensures.bytes)

pub returns-clause-written : goal.returns-clause-written
returns-clause-written c = nit_back c.args.self.now (table c) c.in_ok-section.section.items (bytes c)

pub returns-clause-reserved : goal.returns-clause-reserved
returns-clause-reserved c = nit_reserved c.args.self.now (table c) c.in_ok-section.section.items (bytes c)
