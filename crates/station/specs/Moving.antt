-- How the packets of a ring come into the multiplex (profile).
use Rattle.std.specs.Prelude.{◌≡◌, ◌≢◌, ◌≤◌, ◌⊎◌, ℕ, List, [], ◌∷◌, ◌++◌, length, Bool, true, false, Some, None}
use Rattle.std.specs.Option.{option_to_list}
use Rattle.tspkt.specs.declared.stamped.Stamped.{Stamped}
use Rattle.mux.specs.declared.event.Event.TheVariants.{Took, Close}
use Rattle.mux.specs.History.{History, with_event}
use Rattle.station.specs.Stations.{Input}
use Rattle.inlets.specs.Turns.{IsRefusedForGood, IsPutOff}

-- these packets of the input were taken, one behind the other
abbrev pub with_taken : ℕ → List Stamped → History → History
with_taken i [] h = h
with_taken i (item ∷ items) h = with_taken i items (with_event h (Took i item))

-- Packets of an open input were taken: first the one that was shown, then those that came out of the ring, in order. What came out
-- and wasn't taken is shown.
pub record TakesSome (i : ℕ) (old : History) (x : Input) (new : History) (y : Input) : Type 0 where
  pub items : List Stamped
  pub came : List Stamped
  pub history : new ≡ with_taken i items old
  pub inlet : y.inlet ≡ record x.inlet { received = x.inlet.received ++ came; head = y.inlet.head }
  pub in_order : option_to_list x.inlet.head ++ came ≡ items ++ option_to_list y.inlet.head
  pub open_ : y.is_closed ≡ false

-- the next packet was taken: the one that was shown, or one that came out of the ring
pub record TakesNext (i : ℕ) (old : History) (x : Input) (new : History) (y : Input) : Type 0 where
  pub item : Stamped
  pub came : List Stamped
  pub history : new ≡ with_event old (Took i item)
  pub next : option_to_list x.inlet.head ++ came ≡ item ∷ []
  pub entry : y ≡ record { inlet = record x.inlet { received = x.inlet.received ++ came; head = None }; is_closed = false }

-- The packet that came next isn't taken: the queue of its stream is full, or it belongs to a later plan, which is noted, or it can never
-- be taken, and the input is closed. It is shown still.
abbrev pub IsHeldBack : ℕ → History → Stamped → History → Bool → Type 0
IsHeldBack i old item new false = IsPutOff i old item new
IsHeldBack i old item new true = IsRefusedForGood old i item × (new ≡ with_event old (Close i))

-- Nothing more was taken: nothing was seen in the ring, or the end mark came and the input was closed, or the packet that came
-- next is held back.
pub data Ending : Type 0 where
  Nothing : Ending
  Mark : Ending
  HeldBack : Stamped → List Stamped → Ending

abbrev pub EndsBy : ℕ → History → Input → History → Input → Ending → Type 0
EndsBy i old x new y Nothing = (x.inlet.head ≡ None) × (new ≡ old) × (y ≡ x)
EndsBy i old x new y Mark =
    (x.inlet.head ≡ None) × (new ≡ with_event old (Close i))
    × (y ≡ record { inlet = record x.inlet { is_ended = true }; is_closed = true })
EndsBy i old x new y (HeldBack item came) =
    (option_to_list x.inlet.head ++ came ≡ item ∷ []) × IsHeldBack i old item new y.is_closed
    × (y ≡ record { inlet = record x.inlet { received = x.inlet.received ++ came; head = Some item }; is_closed = y.is_closed })

abbrev pub EndsTaking : ℕ → History → Input → History → Input → Type 0
EndsTaking i old x new y = (ending : Ending) × EndsBy i old x new y ending

-- the end mark came, or the packet that is next isn't taken
abbrev pub ComesUntaken : ℕ → History → Input → History → Input → Type 0
ComesUntaken i old x new y = (ending : Ending) × (ending ≢ Nothing) × EndsBy i old x new y ending

-- What the ring showed was moved into the multiplex, up to a number of packets: some were taken, no more than that, and then the
-- number was reached or nothing more was taken.
pub record MovesIn (i most : ℕ) (old : History) (x : Input) (new : History) (y : Input) : Type 0 where
  pub between : History
  pub last : Input
  pub takes : TakesSome i old x between last
  pub within : length takes.items ≤ most
  pub ends : EndsTaking i between last new y ⊎ ((length takes.items ≡ most) × (new ≡ between) × (y ≡ last))
