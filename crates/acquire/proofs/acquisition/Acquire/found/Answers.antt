use Rattle.std.proofs.Common.{◌≡◌, List, Option, option_map, map, ap, ◌∙◌}
use Rattle.std.specs.List.{flat_map}
use Rattle.tables.specs.Pmt.{PmtValue}
use Rattle.tables.specs.Sdt.{SdtValue}
use Rattle.tables.specs.declared.sdt_row.SdtRow.{SdtRow}
use Rattle.acquire.specs.Findings.{Findings, sdt_found, pmt_found}
use Rattle.acquire.specs.Seen.{AcquireState}
use Rattle.acquire.proofs.SeenLaws.{sdt_is_found, mapped_twice}
use Rattle.acquire.proofs.acquisition.Acquire.found.Goals as goal

pub returns-clause-found : goal.returns-clause-found
returns-clause-found c programs packets seen =
    let pmts : c.into_found.result.items ≡ map (λ program. pmt_found program packets) programs =
    c.into_found.ensures ∙ ap (λ (a : AcquireState). a.programs.found.items) c.self.view_is ∙ seen.programs.found in
    let sdt : option_map (λ sdts. flat_map (λ (s : SdtValue). s.rows) sdts.items) c.into_found-2.result ≡ sdt_found packets =
    mapped_twice (λ sdts. sdts.items) (flat_map (λ (s : SdtValue). s.rows)) c.into_found-2.result
    ∙ ap (option_map (flat_map (λ (s : SdtValue). s.rows))) (c.into_found-2.ensures ∙ ap (λ (a : AcquireState). a.sdt.table.found) c.self.view_is)
    ∙ sdt_is_found c.args.self.sdt.table packets seen.sdt.taken in
    let whole : List (Option PmtValue) → Option (List SdtRow) → Findings = λ p s. record { pmts = p; sdt = s } in
    ap (λ p. whole p (option_map (λ sdts. flat_map (λ (s : SdtValue). s.rows) sdts.items) c.into_found-2.result)) pmts
    ∙ ap (whole (map (λ program. pmt_found program packets) programs)) sdt
