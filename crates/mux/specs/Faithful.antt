-- The output doesn't depend on how the inputs' packets come in turn (profile). A history is faithful to lists of
-- packets, one an input, where it takes them in order; of two such histories over one schedule, lawful both, one's
-- emitted packets begin the other's.
use Rattle.std.specs.Prelude.{ℕ, List, [], ◌∷◌, ◌++◌, ◌≡◌, ◌⊎◌, ◌<◌, ◌+◌, true, Some}
use Rattle.std.specs.List.{slice_get}
use Rattle.tspkt.specs.declared.stamped.Stamped.{Stamped}
use Rattle.mux.specs.declared.event.Event.{Event}
use Rattle.mux.specs.declared.event.Event.TheVariants.{Took, Full, Early, Close, Slot, Switch}
use Rattle.schedule.specs.Schedule.{ScheduleValue}
use Rattle.schedule.specs.Laws.{IsMultiplexSchedule}
use Rattle.mux.specs.History.{History, Run, with_event, all_events, Open, Then, is_mapped_to, taken, emitted, slots}
use Rattle.mux.specs.Lawful.{is_early, IsLawful, IsDone}

-- the packets that the inputs give, by input
abbrev pub PacketLists : Type 0
PacketLists = ℕ → List Stamped

-- the item of an input's list after those taken before
abbrev pub IsNext : PacketLists → ℕ → List Event → Stamped → Type 0
IsNext lists i before item = (rest : List Stamped) × (lists i ≡ taken i before ++ item ∷ rest)

-- Each packet taken is the next of its input's list, a full queue is that of the next packet's stream, where an early packet is
-- noted the next one belongs to a later plan, and an input is closed once all of its list is taken.
abbrev pub IsFaithful : ScheduleValue → PacketLists → List Event → Type 0
IsFaithful s lists [] = Unit {0}
IsFaithful s lists (Took i item ∷ before) = IsFaithful s lists before × IsNext lists i before item
IsFaithful s lists (Full i st ∷ before) =
    IsFaithful s lists before × ((item : Stamped) × IsNext lists i before item × (is_mapped_to s st i item ≡ true))
IsFaithful s lists (Early i ∷ before) =
    IsFaithful s lists before × ((item : Stamped) × IsNext lists i before item × (is_early s before item ≡ true))
IsFaithful s lists (Close i ∷ before) = IsFaithful s lists before × (lists i ≡ taken i before)
IsFaithful s lists (Slot c ∷ before) = IsFaithful s lists before
IsFaithful s lists (Switch number ∷ before) = IsFaithful s lists before

-- lawful, and faithful to the lists
pub record IsRunOf (s : ScheduleValue) (lists : PacketLists) (h : List Event) : Type 0 where
  pub lawful : IsLawful s h
  pub faithful : IsFaithful s lists h

-- xs is a beginning of ys
abbrev pub IsPrefix : {X : Type 0} → List X → List X → Type 0
IsPrefix {X} xs ys = (rest : List X) × (ys ≡ xs ++ rest)

-- Of two lawful histories over one schedule, faithful to the same lists, one's emitted packets begin the other's.
abbrev pub OutputsAgree : Type 0
OutputsAgree =
    (s : ScheduleValue) (lists : PacketLists) (a b : List Event) → IsMultiplexSchedule s → IsRunOf s lists a → IsRunOf s lists b
    → IsPrefix (emitted s a) (emitted s b) ⊎ IsPrefix (emitted s b) (emitted s a)

-- It has n slots, or with fewer all is done.
abbrev pub IsFinished : ScheduleValue → ℕ → List Event → Type 0
IsFinished s n h = (slots h ≡ n) ⊎ ((slots h < n) × IsDone s h)

-- And if both are finished at the same number of slots they have the same packets.
abbrev pub OutputIsUnique : Type 0
OutputIsUnique =
    (s : ScheduleValue) (lists : PacketLists) (n : ℕ) (a b : List Event) → IsMultiplexSchedule s
    → IsRunOf s lists a → IsFinished s n a → IsRunOf s lists b → IsFinished s n b
    → emitted s a ≡ emitted s b

-- A history is opened first, and once.
abbrev pub OpensOnce : Type 0
OpensOnce =
    (h : History) → (slice_get (all_events h) 0 ≡ Some (Open h.run))
    × ((k : ℕ) (r : Run) → slice_get (all_events h) (k + 1) ≡ Some (Open r) → ⊥)

-- One more event stands behind all others.
abbrev pub EventsAreAppended : Type 0
EventsAreAppended = (h : History) (e : Event) → all_events (with_event h e) ≡ all_events h ++ Then e ∷ []
