-- The level of a transport buffer: ISO/IEC 13818-1, 2.4.2 (the buffer TBn of 512 bytes, which leaks at the rate Rxn).
-- Rates are in bits a second, loads and levels in bits a second times bytes: 512 bytes are the load 512 * rate.
-- Bytes are listed newest first, one for each byte of the multiplex: 1 where its packet is of the buffer's set, else 0.
use Rattle.std.specs.Prelude.{ℕ, suc, ◌-◌, ◌*◌, ◌≤◌, ◌<◌, ◌==◌, if◌then◌else◌, Bool, List, length, take, drop, reverse, replicate, sum, flat_map}
use Rattle.std.specs.List.{list_any}
use Rattle.tspkt.specs.Packet.{pid_of}

-- the load of the newest k + 1 bytes: what came in of them, less what leaked from the first of them to the last; 0 where
-- that is below 0, since no level is
abbrev pub load : ℕ → ℕ → List ℕ → ℕ → ℕ
load leak rate bytes k = rate * sum (take (suc k) bytes) - leak * k

-- each window that ends at the newest byte has a load of at most n
abbrev pub LoadsAreWithin : ℕ → ℕ → ℕ → List ℕ → Type 0
LoadsAreWithin leak rate n bytes = (k : ℕ) → k < length bytes → load leak rate bytes k ≤ n

-- the level after these bytes: the least number that no window's load is above
pub record IsLevel (leak rate : ℕ) (bytes : List ℕ) (n : ℕ) : Type 0 where
  pub within : LoadsAreWithin leak rate n bytes
  pub least : (m : ℕ) → LoadsAreWithin leak rate m bytes → n ≤ m

-- at each of the newest bytes, so many of them
abbrev pub NewestAreWithin : ℕ → ℕ → ℕ → ℕ → List ℕ → Type 0
NewestAreWithin leak rate n count bytes = (j : ℕ) → j < count → LoadsAreWithin leak rate n (drop j bytes)

-- at each byte so far
abbrev pub IsWithinAtEachByte : ℕ → ℕ → ℕ → List ℕ → Type 0
IsWithinAtEachByte leak rate n bytes = NewestAreWithin leak rate n (length bytes) bytes

-- the 188 bytes of a packet, which is of the set or not
unfoldable pub packet_bytes : Bool → List ℕ
packet_bytes is_of_set = replicate 188 (if is_of_set then 1 else 0)

-- whether a packet is on one of these PIDs
abbrev pub is_on_pids : List ℕ → List ℕ → Bool
is_on_pids pids packet = list_any (λ pid. pid == pid_of packet) pids

-- the bytes of the packets that went out, which are listed oldest first, for the set of packets on these PIDs
abbrev pub bytes_of_set : List ℕ → List (List ℕ) → List ℕ
bytes_of_set pids packets = flat_map (λ packet. packet_bytes (is_on_pids pids packet)) (reverse packets)
