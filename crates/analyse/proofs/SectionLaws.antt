-- The sections of a PID, behind one more slot.
use Rattle.std.proofs.Common.{◌≡◌, ℕ, List, [], ◌∷◌, ◌++◌, sym, ◌∙◌, ap, true, false}
use Rattle.std.specs.Prelude.{filter_map}
use Rattle.std.proofs.lemmas.List.{append-nil}
use Rattle.section.specs.declared.told.Told.{Told}
use Rattle.tables.specs.OnPid.{section_in, sections_on}
use Rattle.tables.specs.SectionReading.{ReaderState, reader_on, reader_step, reader_behind}
use Rattle.tables.proofs.SectionReadingLaws.{reader_more, sections_more}
use Rattle.analyse.specs.Slots.{is_packet, packets_in}
use Rattle.analyse.proofs.SlotLaws.{packets_more, packets_same}

module _ (r : ReaderState) (slots : List (List ℕ)) (x : List ℕ) (pid : ℕ) (s : r ≡ reader_on pid (packets_in slots)) where
  -- a slot that is a packet
  pub packet_seen : is_packet x ≡ true → reader_behind r x ≡ reader_on pid (packets_in (slots ++ x ∷ []))
  packet_seen h = ap (λ (q : ReaderState). reader_behind q x) s ∙ reader_more pid (packets_in slots) x ∙ sym (ap (reader_on pid) (packets_more slots x h))

  pub sections_told : is_packet x ≡ true → sections_on pid (packets_in (slots ++ x ∷ [])) ≡ sections_on pid (packets_in slots) ++ filter_map section_in (reader_step r x).told
  sections_told h =
      ap (sections_on pid) (packets_more slots x h)
      ∙ sections_more pid (packets_in slots) x
      ∙ ap (λ (q : ReaderState). sections_on pid (packets_in slots) ++ filter_map section_in (reader_step q x).told) (sym s)

  -- one that is none
  pub none_seen : is_packet x ≡ false → r ≡ reader_on pid (packets_in (slots ++ x ∷ []))
  none_seen h = s ∙ sym (ap (reader_on pid) (packets_same slots x h))

pub none_told : (slots : List (List ℕ)) (x : List ℕ) (pid : ℕ) → is_packet x ≡ false → sections_on pid (packets_in (slots ++ x ∷ [])) ≡ sections_on pid (packets_in slots) ++ []
none_told slots x pid h = ap (sections_on pid) (packets_same slots x h) ∙ sym (append-nil (sections_on pid (packets_in slots)))
