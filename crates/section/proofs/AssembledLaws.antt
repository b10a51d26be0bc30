-- What packets tell an assembler, in parts.
use Rattle.std.proofs.Common.{◌≡◌, ℕ, List, [], ◌∷◌, ◌++◌, refl, sym, ◌∙◌, ap, append_assoc}
use Rattle.std.proofs.lemmas.List.{append-nil}
use Rattle.section.specs.Assembled.{AssemblerState, packet_told, state_behind, assembled_from}
use Rattle.section.specs.declared.told.Told.{Told}

-- one packet more
pub assembled_more : (s : AssemblerState) (packets : List (List ℕ)) (p : List ℕ) → assembled_from s (packets ++ p ∷ []) ≡ assembled_from s packets ++ (packet_told (state_behind s packets) p).told
assembled_more s [] p = append-nil (packet_told s p).told
assembled_more s (q ∷ packets) p =
    ap (λ (l : List Told). (packet_told s q).told ++ l) (assembled_more (packet_told s q).state packets p)
    ∙ sym (append_assoc (packet_told s q).told (assembled_from (packet_told s q).state packets) (packet_told (state_behind (packet_told s q).state packets) p).told)

-- some packets more
pub state_more : (s : AssemblerState) (packets more : List (List ℕ)) → state_behind s (packets ++ more) ≡ state_behind (state_behind s packets) more
state_more s [] more = refl
state_more s (q ∷ packets) more = state_more (packet_told s q).state packets more
