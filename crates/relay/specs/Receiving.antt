-- What a look into a relay tells (profile).
use Rattle.std.specs.Prelude.{◌≡◌, ℕ, List, [], ◌∷◌, ◌++◌, length, true, false, Option, Some, None}
use Rattle.relay.specs.declared.message.Message.{Message}
use Rattle.relay.specs.declared.message.Message.TheVariants.{Block, End}
use Rattle.relay.specs.Relays.{ReceiverValue, FinishedValue}

-- A block came out behind the others, or the end mark came, neither behind an end mark; or nothing did.
abbrev pub IsReceived : ReceiverValue → Option Message → ReceiverValue → Type 0
IsReceived old (Some (Block block)) new =
    (old.is_ended ≡ false) × (new ≡ record old { received = old.received ++ block.items ∷ [] })
IsReceived old (Some End) new = (old.is_ended ≡ false) × (new ≡ record old { is_ended = true })
IsReceived old None new = new ≡ old

-- The finished sender of the receiver's relay sent what came out of it, and then so many blocks that are still in it: none where
-- the end mark came out of it, which the sender then sent.
pub record IsLeft (receiver : ReceiverValue) (finished : FinishedValue) (count : ℕ) : Type 0 where
  pub rest : List (List (List ℕ))
  pub sender : finished.sender ≡ record { relay = receiver.relay; sent = receiver.received ++ rest }
  pub count_is : length rest ≡ count
  pub marked : receiver.is_ended ≡ true → (finished.is_ended ≡ true) × (rest ≡ [])
