-- What the inputs of a run give, whatever stops them, and that it is taken in order (profile).
use Rattle.std.specs.Prelude.{◌≡◌, ℕ, List, [], Option, Some, None, IsSome}
use Rattle.std.specs.List.{slice_get}
use Rattle.std.specs.Io.KnownBytes.{Consumes}
use Rattle.tspkt.specs.declared.stamped.Stamped.{Stamped}
use Rattle.request.specs.Request.{InputValue}
use Rattle.schedule.specs.Schedule.{ScheduleValue}
use Rattle.mux.specs.declared.event.Event.{Event}
use Rattle.mux.specs.Faithful.{PacketLists, IsFaithful, IsPrefix}
use Rattle.reading.specs.Takeable.{framed_at, takeable, origin_of}
use Rattle.reading.specs.declared.stop.Stop.{Stop}
use Rattle.reading.specs.declared.stop.Stop.TheVariants.{ReadFailed, TooMuch, Memory}

-- the packets that an input gives, as far as the bytes of its source are known
abbrev pub packet_list : ScheduleValue → ℕ → Option InputValue → Option (Option (List ℕ)) → List Stamped
packet_list schedule i (Some input) (Some (Some all)) = takeable schedule (origin_of i input) (framed_at (origin_of i input) all)
packet_list schedule i (Some input) (Some None) = []
packet_list schedule i (Some input) None = []
packet_list schedule i None start = []

abbrev pub packet_lists : ScheduleValue → List (Option (List ℕ)) → PacketLists
packet_lists schedule starts i = packet_list schedule i (slice_get schedule.first.request.inputs i) (slice_get starts i)

-- the bytes of all sources are known
abbrev pub AreKnown : List (Option (List ℕ)) → Type 0
AreKnown starts = (i : ℕ) (start : Option (List ℕ)) → slice_get starts i ≡ Some start → IsSome start

-- Input i gives these packets: all that can be taken of its bytes; where a read failed, those of the bytes that were read; where
-- it is too long, some of the first.
pub record Gives (schedule : ScheduleValue) (starts lefts : List (Option (List ℕ))) (stops : List (Option Stop)) (i : ℕ) (packets : List Stamped) : Type 0 where
  pub whole : (slice_get stops i ≡ Some (Some ReadFailed) → ⊥) → (slice_get stops i ≡ Some (Some TooMuch) → ⊥) → packets ≡ packet_lists schedule starts i
  pub failed : slice_get stops i ≡ Some (Some ReadFailed) → (input : InputValue) (start left : Option (List ℕ)) (bytes : List ℕ)
      → slice_get schedule.first.request.inputs i ≡ Some input → slice_get starts i ≡ Some start → slice_get lefts i ≡ Some left → Consumes start left bytes
      → packets ≡ takeable schedule (origin_of i input) (framed_at (origin_of i input) bytes)
  pub begins : IsPrefix packets (packet_lists schedule starts i)

-- The history takes what the inputs give, each input's packets in their order. These bytes were to be read of them, these were
-- left, and this stopped them, if anything.
abbrev pub TakesWhatIsGiven : ScheduleValue → List (Option (List ℕ)) → List (Option (List ℕ)) → List (Option Stop) → List Event → Type 0
TakesWhatIsGiven schedule starts lefts stops h =
    (lists : PacketLists) × ((i : ℕ) → Gives schedule starts lefts stops i (lists i)) × IsFaithful schedule lists h

-- Input i gives these packets: where it wanted memory some of the first that can be taken of it, and else what it gives
-- to a run that ends.
pub record GivesSome (schedule : ScheduleValue) (starts lefts : List (Option (List ℕ))) (stops : List (Option Stop)) (i : ℕ) (packets : List Stamped) : Type 0 where
  pub given : (slice_get stops i ≡ Some (Some Memory) → ⊥) → Gives schedule starts lefts stops i packets
  pub begins : IsPrefix packets (packet_lists schedule starts i)

-- The same where an input may have wanted memory.
abbrev pub TakesWhatCame : ScheduleValue → List (Option (List ℕ)) → List (Option (List ℕ)) → List (Option Stop) → List Event → Type 0
TakesWhatCame schedule starts lefts stops h =
    (lists : PacketLists) × ((i : ℕ) → GivesSome schedule starts lefts stops i (lists i)) × IsFaithful schedule lists h
