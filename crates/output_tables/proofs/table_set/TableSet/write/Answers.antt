use Rattle.std.proofs.Common.{ℕ, List, ◌+◌, ◌*◌, [], ◌∷◌, ◌++◌, map, length, sym, ap, ◌∙◌, subst}
use Rattle.std.specs.List.{flat_map}
use Rattle.output_tables.specs.OnPid.{SectionOnPid, packets_on_pid}
use Rattle.std.proofs.lemmas.List.{length-map}
use Rattle.std.proofs.lemmas.List.Elements.{All-same}
use Rattle.tspkt.specs.Packet.{IsPacket}
use Rattle.selection.specs.ChosenView.{chosen_value}
use Rattle.output_tables.specs.Output.{output_pat}
use Rattle.output_tables.specs.TableSet.{TableSetValue, IsSectionFor, IsPatSection, fast_packets, slow_packets}
use Rattle.output_tables.proofs.CountLaws.{fast_counted, slow_counted}
use Rattle.output_tables.proofs.table_set.TableSet.write.Goals as goal

pub returns-clause-tables : goal.returns-clause-tables
returns-clause-tables c =
    let r = c.args.request.now in
    let chosen = map chosen_value c.args.chosen.now in
    let t : TableSetValue = record { pat = c.in_ok-pat.pat; pmts = c.in_ok-pmts.pmts.items; sdt = c.in_ok-sdt.sdt.items; nit = c.in_ok-nit.nit } in
    let P : ℕ → Type 0 = λ n. IsSectionFor IsPatSection 0 (9 + 4 * (1 + n)) (output_pat r chosen) c.in_ok-pat.pat in
    let pat : P (length chosen) = subst P (sym (length-map c.args.chosen.now chosen_value)) c.in_ok-pat.ensures.section in
    record {
      pat = pat;
      pmts = c.in_ok-pmts.ensures.sections;
      sdt = c.in_ok-sdt.ensures.sections;
      nit = c.in_ok-nit.ensures.section;
      fast_count = fast_counted r chosen t pat.whole c.in_ok-pmts.ensures.sections;
      slow_count = slow_counted r chosen t c.in_ok-sdt.ensures.sections c.in_ok-nit.ensures.section.whole;
      fast_whole = All-same IsPacket (fast_packets t) c.in_ok-fast.fast.items
          (sym {A = List (List ℕ)} (c.in_ok-fast.ensures.value ∙ ap (λ (l : List SectionOnPid). flat_map packets_on_pid (c.in_ok-pat.pat ∷ l)) c.deref.ensures.value)) c.in_ok-fast.ensures.whole;
      slow_whole = All-same IsPacket (slow_packets t) c.in_ok-slow.slow.items
          (sym {A = List (List ℕ)} (c.in_ok-slow.ensures.value ∙ ap (λ (l : List SectionOnPid). flat_map packets_on_pid (l ++ c.in_ok-nit.nit ∷ [])) c.deref-2.ensures.value)) c.in_ok-slow.ensures.whole;
    }
