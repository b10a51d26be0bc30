-- What a run writes follows from its schedule and the bytes of its inputs, not from how these are read in turn, nor from how many
-- threads it has (profile).
use Rattle.std.specs.Prelude.{◌≡◌, ◌⊎◌, ℕ, List, ◌++◌, Option, Some, None}
use Rattle.std.specs.List.{slice_get}
use Rattle.std.specs.Io.KnownBytes.{Appends}
use Rattle.schedule.specs.Schedule.{ScheduleValue}
use Rattle.mux.specs.declared.event.Event.{Event}
use Rattle.mux.specs.History.{History, emitted}
use Rattle.mux.specs.Headline.{IsSound}
use Rattle.mux.specs.Faithful.{IsRunOf, IsFinished, IsFaithful}
use Rattle.reading.specs.declared.input_limit.InputLimit.{InputLimit}
use Rattle.reading.specs.declared.stop.Stop.{Stop}
use Rattle.reading.specs.declared.stop.Stop.TheVariants.{Gate}
use Rattle.outlet.specs.Written.{SendsBeginning}
use Rattle.outlet.specs.Sending.{bytes_of}
use Rattle.outcome.specs.Giving.{AreKnown, packet_lists, TakesWhatCame}
use Rattle.outcome.specs.Outcome.{HasRun, AreUnfailed}
use Rattle.outcome.specs.declared.summary.Summary.{Summary}

-- A run of sources whose bytes are known ended by itself, and nothing but its end stopped an input.
pub record HasRunUnfailed (h : History) (starts : List (Option (List ℕ))) (before after : Option (List ℕ)) (s : Summary) : Type 0 where
  pub limit : InputLimit
  pub lefts : List (Option (List ℕ))
  pub runs : HasRun h limit starts lefts before after s
  pub known : AreKnown starts
  pub unfailed : AreUnfailed s.inputs.items

-- two writers got the same bytes
abbrev pub GotTheSame : Option (List ℕ) → Option (List ℕ) → Option (List ℕ) → Option (List ℕ) → Type 0
GotTheSame before after old new = (bytes : List ℕ) × Appends before after bytes × Appends old new bytes

-- Equal inputs give equal bytes: two such runs of one schedule, for as many slots, over the same bytes send the same packets, and
-- their writers get the same bytes, however many threads each has, and however these ran.
abbrev pub EqualInputsGiveEqualBytes : Type 0
EqualInputsGiveEqualBytes =
    (h g : History) (starts : List (Option (List ℕ))) (before after old new : Option (List ℕ)) (s t : Summary)
    → h.run ≡ g.run → HasRunUnfailed h starts before after s → HasRunUnfailed g starts old new t
    → (emitted h.run.schedule h.events ≡ emitted g.run.schedule g.events) × GotTheSame before after old new

-- What such a run writes are the packets of every lawful history over its schedule that takes the inputs' packets in their order
-- and is finished at the run's slots.
abbrev pub BytesAreOfEveryHistory : Type 0
BytesAreOfEveryHistory =
    (h : History) (starts : List (Option (List ℕ))) (before after : Option (List ℕ)) (s : Summary) (other : List Event)
    → HasRunUnfailed h starts before after s
    → IsRunOf h.run.schedule (packet_lists h.run.schedule starts) other → IsFinished h.run.schedule h.run.limit other
    → Appends before after (bytes_of (emitted h.run.schedule other))

-- Where nothing but the run's end stopped an input, what the inputs give is all that can be taken of them.
abbrev pub UnfailedInputsGiveAll : Type 0
UnfailedInputsGiveAll =
    (schedule : ScheduleValue) (starts lefts : List (Option (List ℕ))) (stops : List (Option Stop)) (h : List Event)
    → TakesWhatCame schedule starts lefts stops h
    → ((i : ℕ) (stopped : Option Stop) → slice_get stops i ≡ Some stopped → (stopped ≡ None) ⊎ (stopped ≡ Some Gate))
    → IsFaithful schedule (packet_lists schedule starts) h

-- A run that failed began to write the packets of a sound history that takes all that the inputs give, each input's packets in their
-- order.
pub record HasBegunUnfailed (h : History) (starts : List (Option (List ℕ))) (before after : Option (List ℕ)) : Type 0 where
  pub sound : IsSound h
  pub faithful : IsFaithful h.run.schedule (packet_lists h.run.schedule starts) h.events
  pub written : SendsBeginning before after (bytes_of (emitted h.run.schedule h.events))

-- What such a run wrote begins what each run of the same schedule, for as many slots, over the same bytes writes that ends by itself,
-- where nothing but its end stopped an input, however many threads each has.
abbrev pub BegunBytesBeginTheOutput : Type 0
BegunBytesBeginTheOutput =
    (h g : History) (starts : List (Option (List ℕ))) (before after old new : Option (List ℕ)) (s : Summary)
    → h.run ≡ g.run → HasBegunUnfailed h starts before after → HasRunUnfailed g starts old new s
    → (bytes later : List ℕ) × Appends before after bytes × Appends old new (bytes ++ later)

-- It begins the packets of every lawful history over its schedule that takes the inputs' packets in their order and is finished at the
-- run's slots.
abbrev pub BegunBytesBeginEveryHistory : Type 0
BegunBytesBeginEveryHistory =
    (h : History) (starts : List (Option (List ℕ))) (before after : Option (List ℕ)) (other : List Event)
    → HasBegunUnfailed h starts before after
    → IsRunOf h.run.schedule (packet_lists h.run.schedule starts) other → IsFinished h.run.schedule h.run.limit other
    → SendsBeginning before after (bytes_of (emitted h.run.schedule other))
