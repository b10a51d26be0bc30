-- Reading the sections of a PID packet by packet tells what its packets tell.
use Rattle.std.proofs.Common.{◌≡◌, ℕ, Bool, true, false, cond, List, [], ◌∷◌, ◌++◌, filter_map, refl, sym, ◌∙◌, ap}
use Rattle.std.proofs.lemmas.List.{append-nil}
use Rattle.std.proofs.lemmas.List.Elements.{filter-append, filter_map-append}
use Rattle.section.specs.Assembled.{AssemblerState, fresh, passed, packet_told, state_behind, assembled_from}
use Rattle.section.proofs.AssembledLaws.{assembled_more, state_more}
use Rattle.tables.specs.OnPid.{packets_on, section_in, sections_in, sections_on}
use Rattle.tables.specs.SectionReading.{is_on, ReaderState, reader_on, reader_step, reader_behind}

state_at : (packets : List (List ℕ)) (p : List ℕ) (b : Bool)
    → (cond b (packet_told (state_behind fresh packets) p) (passed (state_behind fresh packets))).state ≡ state_behind fresh (packets ++ cond b (p ∷ []) [])
state_at packets p true = sym (state_more fresh packets (p ∷ []))
state_at packets p false = ap (state_behind fresh) (sym (append-nil packets))

told_at : (packets : List (List ℕ)) (p : List ℕ) (b : Bool)
    → assembled_from fresh (packets ++ cond b (p ∷ []) []) ≡ assembled_from fresh packets ++ (cond b (packet_told (state_behind fresh packets) p) (passed (state_behind fresh packets))).told
told_at packets p true = assembled_more fresh packets p
told_at packets p false = ap (assembled_from fresh) (append-nil packets) ∙ sym (append-nil (assembled_from fresh packets))

on_more : (pid : ℕ) (packets : List (List ℕ)) (p : List ℕ) → packets_on pid (packets ++ p ∷ []) ≡ packets_on pid packets ++ cond (is_on pid p) (p ∷ []) []
on_more pid packets p = filter-append (is_on pid) packets (p ∷ [])

pub reader_more : (pid : ℕ) (packets : List (List ℕ)) (p : List ℕ) → reader_behind (reader_on pid packets) p ≡ reader_on pid (packets ++ p ∷ [])
reader_more pid packets p =
    ap (λ (s : AssemblerState). let r : ReaderState = record { pid = pid; assembler = s } in r)
    (state_at (packets_on pid packets) p (is_on pid p) ∙ ap (state_behind fresh) (sym (on_more pid packets p)))

pub sections_more : (pid : ℕ) (packets : List (List ℕ)) (p : List ℕ)
    → sections_on pid (packets ++ p ∷ []) ≡ sections_on pid packets ++ sections_in (reader_step (reader_on pid packets) p).told
sections_more pid packets p =
    ap (λ l. filter_map section_in (assembled_from fresh l)) (on_more pid packets p)
    ∙ ap (filter_map section_in) (told_at (packets_on pid packets) p (is_on pid p))
    ∙ filter_map-append section_in (assembled_from fresh (packets_on pid packets)) (reader_step (reader_on pid packets) p).told
