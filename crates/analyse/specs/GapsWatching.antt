-- What the gap watches of all PIDs know of the numbers of slots so far (see Gaps).
use Rattle.std.specs.Prelude.{◌≡◌, ◌≢◌, ℕ, ◌+◌, ◌-◌, ◌<◌, ◌≤◌, ◌==◌, Bool, true, false, ◌&&◌, ◌||◌, not, List, [], Option, Some, None, slice_index_or}
use Rattle.std.specs.List.{flat_map, range_with_len}
use Rattle.tspkt.specs.Packet.{pid_of}
use Rattle.tspkt.specs.declared.packet.TheConstants.{PID_COUNT}
use Rattle.analyse.specs.Gaps.{is_gap_at}
use Rattle.analyse.specs.Faults.{told_if, told_of_pids}
use Rattle.analyse.specs.GapWatching.{IsSince, since_behind, is_long}
use Rattle.analyse.specs.declared.fault_kind.FaultKind.{FaultKind}
use Rattle.analyse.specs.declared.fault.Fault.{Fault}

-- which PIDs are watched, and of each the number of slots at the mark whose gap is open
pub record GapsState : Type 0 where
  pub limit : ℕ
  pub watched : List Bool
  pub since : List (Option ℕ)
  pub due : ℕ

abbrev pub is_watched : GapsState → ℕ → Bool
is_watched w pid = slice_index_or w.watched pid false

abbrev pub since_of : GapsState → ℕ → Option ℕ
since_of w pid = slice_index_or w.since pid None

-- a mark of the packet's PID, and of no other
abbrev pub is_of_packet : Option (List ℕ) → ℕ → Bool
is_of_packet None pid = false
is_of_packet (Some packet) pid = pid_of packet == pid

-- no open gap falls due from slot `first` on and below slot `due`
abbrev pub IsDue : GapsState → ℕ → ℕ → Type 0
IsDue w first due = (pid since : ℕ) → pid < PID_COUNT → since_of w pid ≡ Some since → first ≤ since + w.limit → due ≤ since + w.limit

-- of each PID they have seen the numbers below `count`; no gap is open where nothing is watched; the slots at which one
-- can fall due are known from the last slot below `count` on
pub record HaveSeenNumbers (w : GapsState) (watched mark : ℕ → ℕ → Bool) (count : ℕ) : Type 0 where
  pub since : (pid : ℕ) → pid < PID_COUNT → IsSince (watched pid) (mark pid) count (since_of w pid)
  pub closed : (pid : ℕ) → pid < PID_COUNT → is_watched w pid ≡ false → since_of w pid ≡ None
  pub due : IsDue w (count - 1) w.due

-- the slot from which on a gap can fall due is lowered to that of a mark at number `count`
pub record IsLowered (w new : GapsState) (count : ℕ) : Type 0 where
  pub limit : new.limit ≡ w.limit
  pub watched : new.watched ≡ w.watched
  pub since : new.since ≡ w.since
  pub due : new.due ≤ w.due
  pub due_mark : new.due ≤ count + w.limit

-- at number `count` the same PIDs are watched, and the packet's PID alone has a mark
pub record OnlyMarked (w : GapsState) (watched mark : ℕ → ℕ → Bool) (count : ℕ) (packet : Option (List ℕ)) : Type 0 where
  pub same : (pid : ℕ) → pid < PID_COUNT → watched pid count ≡ is_watched w pid
  pub only : (pid : ℕ) → pid < PID_COUNT → mark pid count ≡ is_of_packet packet pid

-- the packet's PID, and one that wasn't watched before and is now
abbrev pub has_mark : GapsState → List Bool → Option (List ℕ) → ℕ → Bool
has_mark w set packet pid = is_of_packet packet pid || (slice_index_or set pid false && not (is_watched w pid))

-- what is kept of a PID behind number `count`
abbrev pub changed : GapsState → List Bool → Option (List ℕ) → ℕ → ℕ → Option ℕ
changed w set packet count pid = since_behind (since_of w pid) count (slice_index_or set pid false) (has_mark w set packet pid)

-- at number `count` the PIDs of `set` are watched, and the packet's PID and those that weren't watched before have a mark
pub record ChangesTo (w : GapsState) (set : List Bool) (watched mark : ℕ → ℕ → Bool) (count : ℕ) (packet : Option (List ℕ)) : Type 0 where
  pub now : (pid : ℕ) → pid < PID_COUNT → watched pid count ≡ slice_index_or set pid false
  pub marks : (pid : ℕ) → pid < PID_COUNT → mark pid count ≡ has_mark w set packet pid

-- at number `count` the PIDs are watched that pass the test, by a set that has them
pub record HasChanged (w new : GapsState) (test : ℕ → Bool) (count : ℕ) (packet : Option (List ℕ)) : Type 0 where
  pub set : List Bool
  pub has : (pid : ℕ) → pid < PID_COUNT → slice_index_or set pid false ≡ test pid
  pub seen : (watched mark : ℕ → ℕ → Bool) → HaveSeenNumbers w watched mark count → ChangesTo w set watched mark count packet
      → HaveSeenNumbers new watched mark (count + 1)
  pub watched : (pid : ℕ) → pid < PID_COUNT → is_watched new pid ≡ slice_index_or set pid false
  pub limit : new.limit ≡ w.limit

-- one PID is as it is to be, and the others as they were
pub record IsChangedAt (w new : GapsState) (count pid : ℕ) (now marked : Bool) : Type 0 where
  pub limit : new.limit ≡ w.limit
  pub due : new.due ≡ w.due
  pub since : since_of new pid ≡ since_behind (since_of w pid) count now (marked || (now && not (is_watched w pid)))
  pub watched : is_watched new pid ≡ now
  pub other_since : (other : ℕ) → other ≢ pid → since_of new other ≡ since_of w other
  pub other_watched : (other : ℕ) → other ≢ pid → is_watched new other ≡ is_watched w other

-- the PIDs below `end` are as they are to be, and the others as they were
pub record IsChangedBelow (w new : GapsState) (set : List Bool) (packet : Option (List ℕ)) (count end : ℕ) : Type 0 where
  pub limit : new.limit ≡ w.limit
  pub due : new.due ≡ w.due
  pub since : (pid : ℕ) → pid < end → since_of new pid ≡ changed w set packet count pid
  pub watched : (pid : ℕ) → pid < end → is_watched new pid ≡ slice_index_or set pid false
  pub other_since : (pid : ℕ) → end ≤ pid → since_of new pid ≡ since_of w pid
  pub other_watched : (pid : ℕ) → end ≤ pid → is_watched new pid ≡ is_watched w pid

-- one PID more that is told
abbrev pub is_also : Option ℕ → ℕ → Bool
is_also None pid = false
is_also (Some other) pid = other == pid

abbrev pub told_also : Option ℕ → FaultKind → ℕ → List Fault
told_also None kind count = []
told_also (Some pid) kind count = told_if true kind count (Some pid)

-- the gaps that are told at slot `count`, and one PID more, in the order of PIDs
unfoldable pub gaps_at : ℕ → (ℕ → ℕ → Bool) → (ℕ → ℕ → Bool) → Option ℕ → FaultKind → ℕ → List Fault
gaps_at limit watched mark also kind count =
    told_of_pids (λ pid. is_gap_at limit (watched pid) (mark pid) count || is_also also pid) kind count

-- those of the open gaps of the PIDs below `end` that are as long as the limit, and one PID more
unfoldable pub long_gaps : GapsState → Option ℕ → FaultKind → ℕ → ℕ → List Fault
long_gaps w also kind count end =
    flat_map (λ pid. told_if (is_long w.limit count (since_of w pid) || is_also also pid) kind count (Some pid)) (range_with_len 0 end)
