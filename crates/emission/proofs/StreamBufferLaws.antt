-- A transport buffer after one more packet, by the packets that went out: what keeps the level, and when there is room.
use Rattle.std.proofs.Common.{ℕ, ◌+◌, ◌-◌, ◌*◌, ◌≡◌, ◌↔◌, List, [], ◌∷◌, ◌++◌, length, true, false, replicate, arith, subst, sym, ap, refl, ◌∙◌}
use Rattle.std.proofs.lemmas.Bool.{leb-true}
use Rattle.std.proofs.lemmas.List.{length-append, length-replicate}
use Rattle.buffers.specs.Level.{packet_bytes, is_on_pids, bytes_of_set}
use Rattle.buffers.specs.BucketValue.{BucketValue, IsBucket, IsFilledBy, NewestFit, AllFit, HasRoom, level_after_packet, after_packet, after_others}
use Rattle.buffers.proofs.BytesLaws.{bytes_of_set-push}
use Rattle.buffers.proofs.BucketLaws.{filled-packet, filled-others, room-decides, AllFit-packet, AllFit-others}
use Rattle.emission.specs.TableBuffers.{BufferFits}

-- the bytes with one packet more, of the set or not
bytes-sent : (pids : List ℕ) (out : List (List ℕ)) (q : List ℕ) → is_on_pids pids q ≡ true
    → bytes_of_set pids (out ++ q ∷ []) ≡ packet_bytes true ++ bytes_of_set pids out
bytes-sent pids out q e = bytes_of_set-push pids out q ∙ ap (λ b. packet_bytes b ++ bytes_of_set pids out) e

bytes-idle : (pids : List ℕ) (out : List (List ℕ)) (q : List ℕ) → is_on_pids pids q ≡ false
    → bytes_of_set pids (out ++ q ∷ []) ≡ packet_bytes false ++ bytes_of_set pids out
bytes-idle pids out q e = bytes_of_set-push pids out q ∙ ap (λ b. packet_bytes b ++ bytes_of_set pids out) e

-- before the first packet
pub stream_level_none : (b : BucketValue) (pids : List ℕ) → b.level ≡ 0 → IsFilledBy b (bytes_of_set pids [])
stream_level_none b pids e = record { within = λ k l. absurd (omega arith); least = λ m w. omega arith }

pub stream_fits_none : (rate leak : ℕ) (pids : List ℕ) → BufferFits rate leak pids []
stream_fits_none rate leak pids j l = absurd (omega arith)

-- after a packet of the set
pub stream_level_sent : (b : BucketValue) (pids : List ℕ) (out : List (List ℕ)) (q : List ℕ)
    → IsFilledBy b (bytes_of_set pids out) → is_on_pids pids q ≡ true → IsFilledBy (after_packet b) (bytes_of_set pids (out ++ q ∷ []))
stream_level_sent b pids out q filled e =
    subst (IsFilledBy (after_packet b)) (sym (bytes-sent pids out q e)) (filled-packet b b (level_after_packet b) (bytes_of_set pids out) refl refl filled)

-- after another packet
pub stream_level_idle : (b : BucketValue) (pids : List ℕ) (out : List (List ℕ)) (q : List ℕ)
    → IsFilledBy b (bytes_of_set pids out) → is_on_pids pids q ≡ false → IsFilledBy (after_others b) (bytes_of_set pids (out ++ q ∷ []))
stream_level_idle b pids out q filled e =
    subst (IsFilledBy (after_others b)) (sym (bytes-idle pids out q e)) (filled-others b b (b.level - 188 * b.leak) (bytes_of_set pids out) refl refl filled)

-- it fits on with a packet of the set that has room
pub stream_fits_sent : (b : BucketValue) (pids : List ℕ) (out : List (List ℕ)) (q : List ℕ) → IsBucket b
    → IsFilledBy b (bytes_of_set pids out) → BufferFits b.multiplex_rate b.leak pids out → is_on_pids pids q ≡ true → HasRoom b
    → BufferFits b.multiplex_rate b.leak pids (out ++ q ∷ [])
stream_fits_sent b pids out q ok filled fit e room =
    subst (AllFit b) (sym (bytes-sent pids out q e)) (AllFit-packet b b (bytes_of_set pids out) refl ok.level_to filled room fit)

-- and with another packet
pub stream_fits_idle : (b : BucketValue) (pids : List ℕ) (out : List (List ℕ)) (q : List ℕ) → IsBucket b
    → IsFilledBy b (bytes_of_set pids out) → BufferFits b.multiplex_rate b.leak pids out → is_on_pids pids q ≡ false
    → BufferFits b.multiplex_rate b.leak pids (out ++ q ∷ [])
stream_fits_idle b pids out q ok filled fit e =
    subst (AllFit b) (sym (bytes-idle pids out q e)) (AllFit-others b b (bytes_of_set pids out) refl ok.level_to filled fit)

-- where it fits with a packet of the set there was room for that
stream_room : (b : BucketValue) (bytes : List ℕ) → IsBucket b → IsFilledBy b bytes → AllFit b (packet_bytes true ++ bytes) → HasRoom b
unfolding packet_bytes
stream_room b bytes ok filled fit =
    let whole : length (replicate 188 1 ++ bytes) ≡ 188 + length bytes =
    length-append (replicate 188 1) bytes ∙ ap (λ n. n + length bytes) (length-replicate {A = ℕ} 188 1) in
    let newest : NewestFit b 188 (packet_bytes true ++ bytes) = λ j l. fit j (omega arith) in
    let decides = room-decides b b (level_after_packet b) bytes refl refl ok.level_to filled in
    leb-true (level_after_packet b) (512 * b.multiplex_rate) (decides.1 newest)

-- there is room for a packet of the set where the buffer fits with it, and nowhere else
pub has_room-fits : (b : BucketValue) (pids : List ℕ) (out : List (List ℕ)) (q : List ℕ) → IsBucket b
    → IsFilledBy b (bytes_of_set pids out) → BufferFits b.multiplex_rate b.leak pids out → is_on_pids pids q ≡ true
    → HasRoom b ↔ BufferFits b.multiplex_rate b.leak pids (out ++ q ∷ [])
has_room-fits b pids out q ok filled fit e = (
  λ room. stream_fits_sent b pids out q ok filled fit e room,
  λ fits. stream_room b (bytes_of_set pids out) ok filled (subst (AllFit b) (bytes-sent pids out q e) fits),
)
