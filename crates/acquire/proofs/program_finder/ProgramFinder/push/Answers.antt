use Rattle.std.proofs.Common.{◌≡◌, ◌++◌, ◌∷◌, [], Some, option_map, sym, ap, ◌∙◌, is_some, map, true, false}
use Rattle.std.specs.List.{flat_map}
use Rattle.std.proofs.lemmas.List.{with_items_is}
use Rattle.tables.specs.OnPid.{pat_section_of}
use Rattle.tables.specs.Pat.{PatValue}
use Rattle.acquire.specs.Findings.{pat_found}
use Rattle.acquire.specs.Seen.{pmt_finder_begun, pmt_finder_behind, pmt_finder_of, places_behind}
use Rattle.acquire.proofs.TakenLaws.{some_mapped}
use Rattle.acquire.proofs.ReadingLaws.{sought_stays}
use Rattle.acquire.proofs.ProgramLaws.{rows_found, begun_more, begun_now, places_more, places_wait}
use Rattle.acquire.proofs.program_finder.ProgramFinder.push.Goals as goal

pub returns-then-is_found : goal.returns-then-is_found
returns-then-is_found c programs packets sought =
    let there : is_some c.args.self.now.pat.table.found ≡ true = sym c.if-is_found.ensures in
    let complete : is_some (pat_found packets) ≡ true =
    ap is_some (rows_found c.args.self.now.pat.table packets sought.sought.taken) ∙ some_mapped (flat_map (λ (p : PatValue). p.rows)) c.args.self.now.pat.table.found ∙ there in
    record {
      sought = sought_stays 0 pat_section_of c.args.self.now.pat.reader c.args.self.now.pat.table packets c.args.packet.now there sought.sought;
      finders = with_items_is c.args.self.now.finders c.push_pmts.new.finders (c.push_pmts.auto.finders ∙ c.deref_mut.ensures.len)
          ∙ c.in_ok-push_pmts.ensures.finders ∙ ap (map (pmt_finder_behind c.args.packet.now)) (c.deref_mut.ensures.value ∙ sought.finders)
          ∙ begun_more packets c.args.packet.now programs complete;
      found = with_items_is c.args.self.now.found c.push_pmts.new.found (c.push_pmts.auto.found ∙ c.deref_mut-then-is_found.ensures.len)
          ∙ c.in_ok-push_pmts.ensures.found
          ∙ ap (λ fs. places_behind c.args.packet.now fs c.deref_mut-then-is_found.result.now) (c.deref_mut.ensures.value ∙ sought.finders)
          ∙ ap (places_behind c.args.packet.now (map (pmt_finder_of packets) programs)) (c.deref_mut-then-is_found.ensures.value ∙ sought.found)
          ∙ places_more packets c.args.packet.now programs complete;
    }

pub returns-in-Some : goal.returns-in-Some
returns-in-Some c programs packets sought =
    let rows = flat_map (λ (p : PatValue). p.rows) c.as_slice.result.now in
    let missing : is_some (pat_found packets) ≡ false =
    ap is_some (rows_found c.args.self.now.pat.table packets sought.sought.taken) ∙ some_mapped (flat_map (λ (p : PatValue). p.rows)) c.args.self.now.pat.table.found ∙ sym c.if-is_found.ensures in
    let now = c.in_ok-push.ensures 0 packets sought.sought in
    let found : pat_found (packets ++ c.args.packet.now ∷ []) ≡ Some rows =
    rows_found c.push.new.self.table (packets ++ c.args.packet.now ∷ []) now.taken
    ∙ ap (option_map (flat_map (λ (p : PatValue). p.rows))) (sym c.in-Some.ensures)
    ∙ ap (λ l. Some (flat_map (λ (p : PatValue). p.rows) l)) (sym c.as_slice.ensures.value) in
    record {
      sought = now;
      finders = c.begin_pmts.ensures ∙ ap (map (pmt_finder_begun rows)) sought.finders ∙ begun_now packets c.args.packet.now programs rows missing found;
      found = sought.found ∙ places_wait packets c.args.packet.now programs missing;
    }
