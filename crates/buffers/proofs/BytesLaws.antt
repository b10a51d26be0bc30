-- The bytes of a buffer's set among the packets that went out.
use Rattle.std.proofs.Common.{ℕ, ◌≡◌, List, [], ◌∷◌, ◌++◌, ap, flat_map}
use Rattle.std.proofs.lemmas.List.{reverse-append}
use Rattle.buffers.specs.Level.{packet_bytes, is_on_pids, bytes_of_set}

-- one packet more puts its 188 bytes in front
pub bytes_of_set-push : (pids : List ℕ) (packets : List (List ℕ)) (packet : List ℕ)
    → bytes_of_set pids (packets ++ packet ∷ []) ≡ packet_bytes (is_on_pids pids packet) ++ bytes_of_set pids packets
bytes_of_set-push pids packets packet = ap (flat_map (λ p. packet_bytes (is_on_pids pids p))) (reverse-append packets (packet ∷ []))
