-- The PMTs of a PID, behind one more slot.
use Rattle.std.proofs.Common.{◌≡◌, ℕ, ◌+◌, Bool, List, [], ◌∷◌, ◌++◌, length, refl, sym, ◌∙◌, ap, true}
use Rattle.std.specs.Prelude.{cond, filter_map}
use Rattle.std.specs.List.{list_any}
use Rattle.std.proofs.lemmas.List.Elements.{filter_map-append}
use Rattle.section.specs.Assembled.{Step, passed, packet_told}
use Rattle.section.specs.declared.told.Told.{Told}
use Rattle.tables.specs.Pmt.{PmtValue, pmt_of}
use Rattle.tables.specs.OnPid.{section_in, value_of, sections_on, pmts_on}
use Rattle.tables.specs.SectionReading.{is_on, ReaderState, reader_on, reader_step}
use Rattle.analyse.specs.Slots.{is_packet, packets_in}
use Rattle.analyse.specs.Faults.{completes, pmts_of}
use Rattle.analyse.specs.ToldPmts.{is_pmt_in, pmts_in}
use Rattle.analyse.specs.PmtWatching.{assembler_behind}
use Rattle.analyse.proofs.SectionLaws.{packet_seen, sections_told}
use Rattle.analyse.proofs.PatWatchLaws.{any_read, completes_last}

-- a packet of the PID that isn't scrambled
module _ (pid : ℕ) (slots : List (List ℕ)) (x : List ℕ) (h : is_packet x ≡ true) (on : is_on pid x ≡ true) where
  step : reader_step (reader_on pid (packets_in slots)) x ≡ packet_told (assembler_behind pid slots) x
  step = ap (λ (b : Bool). cond b (packet_told (assembler_behind pid slots) x) (passed (assembler_behind pid slots))) on

  pub assembler_more : assembler_behind pid (slots ++ x ∷ []) ≡ (packet_told (assembler_behind pid slots) x).state
  assembler_more =
      ap (λ (r : ReaderState). r.assembler) (sym (packet_seen (reader_on pid (packets_in slots)) slots x pid refl h))
      ∙ ap (λ (y : Step). y.state) step

  pub pmts_more : (told : List Told) → pmts_in told ≡ pmts_in (packet_told (assembler_behind pid slots) x).told → pmts_on pid (packets_in (slots ++ x ∷ [])) ≡ pmts_on pid (packets_in slots) ++ pmts_in told
  pmts_more told e =
      let all = (packet_told (assembler_behind pid slots) x).told in
      ap (filter_map (λ b. value_of (pmt_of b))) (sections_told (reader_on pid (packets_in slots)) slots x pid refl h)
      ∙ ap (λ (y : Step). filter_map (λ b. value_of (pmt_of b)) (sections_on pid (packets_in slots) ++ filter_map section_in y.told)) step
      ∙ filter_map-append (λ b. value_of (pmt_of b)) (sections_on pid (packets_in slots)) (filter_map section_in all)
      ∙ ap (λ (l : List PmtValue). pmts_on pid (packets_in slots) ++ l) (sym e)

pub came_last : (pid : ℕ) (slots : List (List ℕ)) (x : List ℕ) (told : List Told) → pmts_on pid (packets_in (slots ++ x ∷ [])) ≡ pmts_on pid (packets_in slots) ++ pmts_in told → list_any is_pmt_in told ≡ completes (pmts_of pid) (slots ++ x ∷ []) (length slots + 1)
came_last pid slots x told e =
    any_read (λ b. value_of (pmt_of b)) told
    ∙ sym (completes_last (pmts_of pid) slots x (pmts_in told) e)
