use Rattle.std.proofs.Common.{arith, ◌≡◌, ◌+◌, length, ap, ◌∙◌, Ok}
use Rattle.std.proofs.lemmas.Result.{err_from_is_err_and}
use Rattle.tables.specs.Header.{section_bytes}
use Rattle.tables.specs.Sdt.{SdtValue}
use Rattle.tables.proofs.SdtLaws.{IsWritable, writable, section_fits, body_written, section_length_back, sdt_body_bytes, sdt_back, sdt_reserved}
use Rattle.tables.specs.contracts.sdt.Sdt.{the_view}
use Rattle.tables.proofs.sdt.Sdt.write.Goals as goal

pub write_section-requires-clause-short : goal.write_section-requires-clause-short
write_section-requires-clause-short c =
    let v : SdtValue = the_view c.self.inside in
    let w = writable v c.deref.result.now c.in-Some.length c.self.invariant.0 c.self.invariant.1 c.self.invariant.2 c.deref.ensures.value c.in-Some.ensures.value c.in-Some.ensures.fits in
    let body = body_written v c.deref-2.result.now c.deref-3.result.now c.in_ok-body.body.items c.deref-2.ensures.value c.in_ok-body.ensures c.deref-3.ensures.value in
    let fits = section_fits v c.args.self.now w c.self.view_is in
    let count = section_length_back v c.args.self.now c.deref-3.result.now body c.self.view_is in
    omega arith

pub returns-in_err-section-clause-too_large : goal.returns-in_err-section-clause-too_large
returns-in_err-section-clause-too_large c =
    let v : SdtValue = the_view c.self.inside in
    let w = writable v c.deref.result.now c.in-Some.length c.self.invariant.0 c.self.invariant.1 c.self.invariant.2 c.deref.ensures.value c.in-Some.ensures.value c.in-Some.ensures.fits in
    let fits = section_fits v c.args.self.now w c.self.view_is in
    let p = err_from_is_err_and c.from_residual-in_err-section.result c.from_residual-in_err-section.ensures.1 in
    rw (p.1, p.2) (λ e. cc, λ l. absurd (omega arith))

pub returns-clause-too_large : goal.returns-clause-too_large
returns-clause-too_large c =
    let v : SdtValue = the_view c.self.inside in
    let w = writable v c.deref.result.now c.in-Some.length c.self.invariant.0 c.self.invariant.1 c.self.invariant.2 c.deref.ensures.value c.in-Some.ensures.value c.in-Some.ensures.fits in
    let fits = section_fits v c.args.self.now w c.self.view_is in
    (λ e. cc, λ l. absurd (omega arith))

-- what is written, in one equation
bytes : (c : goal.After-drop-body-2) → c.in_ok-section.section.items ≡ section_bytes 0x42 1 c.self.inside.header (sdt_body_bytes (the_view c.self.inside))
bytes c =
    let body = body_written (the_view c.self.inside) c.deref-2.result.now c.deref-3.result.now c.in_ok-body.body.items c.deref-2.ensures.value c.in_ok-body.ensures c.deref-3.ensures.value in
    c.in_ok-section.ensures.bytes ∙ ap (section_bytes 0x42 1 c.self.inside.header) body

can : (c : goal.After-drop-body-2) → IsWritable (the_view c.self.inside)
can c = writable (the_view c.self.inside) c.deref.result.now c.in-Some.length c.self.invariant.0 c.self.invariant.1 c.self.invariant.2 c.deref.ensures.value c.in-Some.ensures.value c.in-Some.ensures.fits

pub returns-clause-written : goal.returns-clause-written
returns-clause-written c = sdt_back (the_view c.self.inside) (can c) c.in_ok-section.section.items (bytes c) ∙ ap Ok c.self.view_is

pub returns-clause-reserved : goal.returns-clause-reserved
returns-clause-reserved c = sdt_reserved (the_view c.self.inside) (can c) c.in_ok-section.section.items (bytes c)

pub returns-clause-length : goal.returns-clause-length
returns-clause-length c =
    let v : SdtValue = the_view c.self.inside in
    let body = body_written v c.deref-2.result.now c.deref-3.result.now c.in_ok-body.body.items c.deref-2.ensures.value c.in_ok-body.ensures c.deref-3.ensures.value in
    let count = section_length_back v c.args.self.now c.deref-3.result.now body c.self.view_is in
    let all : length c.in_ok-section.section.items ≡ length c.deref-3.result.now + 12 = c.in_ok-section.ensures.length in
    omega arith
