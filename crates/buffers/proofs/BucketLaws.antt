-- A transport buffer after a packet, by the bytes of the multiplex. The code has the buffer's fields, here as b, and its
-- clauses speak of its value v, which is the same.
use Rattle.std.proofs.Common.{ℕ, ◌-◌, ◌*◌, ◌≤◌, ◌≡◌, ◌↔◌, IsTrue, List, ◌++◌, true, false, length, replicate, arith, subst, sym}
use Rattle.std.proofs.lemmas.Bool.{leb-true, le-leb}
use Rattle.std.proofs.lemmas.List.{length-replicate}
use Rattle.std.proofs.Math.Dec.{leb}
use Rattle.buffers.specs.Level.{IsLevel, packet_bytes}
use Rattle.buffers.specs.BucketValue.{BucketValue, IsFilledBy, NewestFit, AllFit, HasRoom, level_after_packet}
use Rattle.buffers.proofs.LevelLaws.{level-raised, level-others, newest-raised, raised-of_newest, newest-others, within-joined}

-- the level after a packet of the set
pub filled-packet : (b v : BucketValue) (level : ℕ) (bytes : List ℕ) → b ≡ v → level ≡ level_after_packet v → IsFilledBy v bytes
    → IsLevel b.leak b.multiplex_rate (packet_bytes true ++ bytes) level
unfolding packet_bytes
filled-packet b v level bytes same e filled =
    let P : BucketValue → Type 0 = λ w. IsLevel w.leak w.multiplex_rate (packet_bytes true ++ bytes) level in
    let Q : ℕ → Type 0 = IsLevel v.leak v.multiplex_rate (packet_bytes true ++ bytes) in
    subst P (sym same) (subst Q (sym e) (level-raised v.leak v.multiplex_rate v.level 187 bytes filled))

-- the level after another packet
pub filled-others : (b v : BucketValue) (level : ℕ) (bytes : List ℕ) → b ≡ v → level ≡ b.level - 188 * b.leak → IsFilledBy v bytes
    → IsLevel b.leak b.multiplex_rate (packet_bytes false ++ bytes) level
unfolding packet_bytes
filled-others b v level bytes same e filled =
    let P : BucketValue → Type 0 = λ w. IsFilledBy w bytes in
    let Q : ℕ → Type 0 = IsLevel b.leak b.multiplex_rate (packet_bytes false ++ bytes) in
    subst Q (sym e) (level-others b.leak b.multiplex_rate b.level 188 bytes (subst P (sym same) filled))

-- there is room for a packet where its windows fit
windows-room : (v : BucketValue) (bytes : List ℕ) → v.level ≤ 512 * v.multiplex_rate → IsFilledBy v bytes → HasRoom v → NewestFit v 188 (packet_bytes true ++ bytes)
unfolding packet_bytes
windows-room v bytes low filled room =
    newest-raised v.leak v.multiplex_rate v.level 187 (512 * v.multiplex_rate) bytes filled low (omega arith) room

-- and nowhere else
room-windows : (v : BucketValue) (bytes : List ℕ) → IsFilledBy v bytes → NewestFit v 188 (packet_bytes true ++ bytes) → HasRoom v
unfolding packet_bytes
room-windows v bytes filled newest = raised-of_newest v.leak v.multiplex_rate v.level 187 (512 * v.multiplex_rate) bytes filled newest

-- the test by the level after the packet is the one of all its windows
pub room-decides : (b v : BucketValue) (level : ℕ) (bytes : List ℕ) → b ≡ v → level ≡ level_after_packet v → b.level ≤ 512 * b.multiplex_rate → IsFilledBy v bytes
    → IsTrue (leb level (512 * b.multiplex_rate)) ↔ NewestFit v 188 (packet_bytes true ++ bytes)
room-decides b v level bytes same e low filled =
    let P : BucketValue → Type 0 = λ w. IsTrue (leb level (512 * w.multiplex_rate)) ↔ NewestFit v 188 (packet_bytes true ++ bytes) in
    let Q : BucketValue → Type 0 = λ w. w.level ≤ 512 * w.multiplex_rate in
    let low' : v.level ≤ 512 * v.multiplex_rate = subst Q same low in
    subst P (sym same) (
      (λ yes. let l = leb-true level (512 * v.multiplex_rate) yes in windows-room v bytes low' filled (omega arith)),
      (λ newest. let room = room-windows v bytes filled newest in le-leb level (512 * v.multiplex_rate) (omega arith)),
    )

-- what never passed 512 bytes goes on so with a packet that has room
pub AllFit-packet : (b v : BucketValue) (bytes : List ℕ) → b ≡ v → b.level ≤ 512 * b.multiplex_rate → IsFilledBy v bytes → HasRoom v → AllFit v bytes
    → AllFit b (packet_bytes true ++ bytes)
unfolding packet_bytes
AllFit-packet b v bytes same low filled room fit =
    let P : BucketValue → Type 0 = λ w. AllFit w (packet_bytes true ++ bytes) in
    let Q : BucketValue → Type 0 = λ w. w.level ≤ 512 * w.multiplex_rate in
    let all : length {A = ℕ} (replicate 188 1) ≡ 188 = length-replicate {A = ℕ} 188 1 in
    subst P (sym same) (within-joined v.leak v.multiplex_rate (512 * v.multiplex_rate) (replicate 188 1) bytes
    (λ j l. windows-room v bytes (subst Q same low) filled room j (omega arith)) fit)

-- and with another packet
pub AllFit-others : (b v : BucketValue) (bytes : List ℕ) → b ≡ v → b.level ≤ 512 * b.multiplex_rate → IsFilledBy v bytes → AllFit v bytes
    → AllFit b (packet_bytes false ++ bytes)
unfolding packet_bytes
AllFit-others b v bytes same low filled fit =
    let P : BucketValue → Type 0 = λ w. AllFit w (packet_bytes false ++ bytes) in
    let Q : BucketValue → Type 0 = λ w. w.level ≤ 512 * w.multiplex_rate in
    let all : length {A = ℕ} (replicate 188 0) ≡ 188 = length-replicate {A = ℕ} 188 0 in
    subst P (sym same) (within-joined v.leak v.multiplex_rate (512 * v.multiplex_rate) (replicate 188 0) bytes
    (λ j l. newest-others v.leak v.multiplex_rate v.level 188 (512 * v.multiplex_rate) bytes filled (subst Q same low) j (omega arith)) fit)
