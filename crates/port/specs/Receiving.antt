-- What a look into a ring tells (profile).
use Rattle.std.specs.Prelude.{◌≡◌, ℕ, List, [], ◌∷◌, ◌++◌, length, true, false, Option, Some, None}
use Rattle.tspkt.specs.declared.stamped.Stamped.{Stamped}
use Rattle.port.specs.declared.arrival.Arrival.{Arrival}
use Rattle.port.specs.declared.arrival.Arrival.TheVariants.{Packet, End}
use Rattle.port.specs.Rings.{RingEndValue, FinishedValue}

-- A packet came out behind the others, or the end mark came, neither behind an end mark; or nothing did. No packet is shown then.
abbrev pub IsReceived : RingEndValue → Option Arrival → RingEndValue → Type 0
IsReceived old (Some (Packet item)) new =
    (old.is_ended ≡ false) × (new ≡ record old { received = old.received ++ item ∷ []; head = None })
IsReceived old (Some End) new = (old.is_ended ≡ false) × (new ≡ record old { head = None; is_ended = true })
IsReceived old None new = new ≡ record old { head = None }

-- The finished port of the end's ring sent what came out of it, and then so many packets that are still in it: none where the end
-- mark came out of it, which the port then sent.
pub record IsLeft (end : RingEndValue) (finished : FinishedValue) (count : ℕ) : Type 0 where
  pub rest : List Stamped
  pub port : finished.port ≡ record { ring = end.ring; sent = end.received ++ rest }
  pub count_is : length rest ≡ count
  pub marked : end.is_ended ≡ true → (finished.is_ended ≡ true) × (rest ≡ [])
