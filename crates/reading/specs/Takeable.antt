-- The packets of an input that a run may take, and what is counted of the others (profile; framing is by
-- ISO/IEC 13818-1, 2.4.3.2, and ETSI TR 101 290, 5.2.1).
use Rattle.std.specs.Prelude.{◌≡◌, ◌⊎◌, ℕ, ◌+◌, List, [], ◌∷◌, ◌++◌, Bool, Option, Some, None, IsSome, if◌then◌else◌, is_some, is_none, unwrap_or, length, sum_by}
use Rattle.std.specs.List.{filter_map}
use Rattle.tspkt.specs.Framed.{framed}
use Rattle.tspkt.specs.Packet.{fault_of, pid_of}
use Rattle.tspkt.specs.Stamps.{time_of}
use Rattle.tspkt.specs.PacketSize.{stride_of}
use Rattle.tspkt.specs.declared.packet_size.PacketSize.{PacketSize}
use Rattle.tspkt.specs.declared.stamped.Stamped.{Stamped}
use Rattle.tspkt.specs.declared.item.Item.{Item}
use Rattle.tspkt.specs.declared.item.Item.TheVariants.{Packet, Bad, SyncLoss, Lost}
use Rattle.request.specs.Request.{InputValue}
use Rattle.schedule.specs.Schedule.{ScheduleValue}
use Rattle.schedule.specs.Streams.{all_streams, scheduled_place}
use Rattle.reading.specs.declared.report.Report.{Report}

-- an input by its number in the schedule, how its packets follow one another, its rate in bits a second and the time of its first byte
pub record OriginValue : Type 0 where
  pub number : ℕ
  pub size : PacketSize
  pub rate : ℕ
  pub offset : ℕ

abbrev pub origin_of : ℕ → InputValue → OriginValue
origin_of number input = record { number = number; size = input.size; rate = input.rate; offset = input.offset }

-- from the first byte of a packet of the input to that of the next
abbrev pub stride_at : OriginValue → ℕ
stride_at origin = stride_of origin.size

-- the items of an input with these bytes
abbrev pub framed_at : OriginValue → List ℕ → List Item
framed_at origin bytes = framed (stride_at origin) bytes

-- the packet's bytes have the standard's layout
abbrev pub is_well_formed : List ℕ → Bool
is_well_formed packet = is_none (fault_of packet)

-- when a packet that begins at this position of the input comes: with its byte 10, the last of a PCR's base
abbrev pub stamp_at : OriginValue → ℕ → ℕ
stamp_at origin position = origin.offset + time_of (position + 10) origin.rate

-- The place, among all streams of the schedule, of the stream that a packet of this input with this time is of: the plan that it belongs
-- to names its PID; or none.
abbrev pub place_of_item : ScheduleValue → OriginValue → Stamped → Option ℕ
place_of_item schedule origin item = scheduled_place schedule origin.number (pid_of item.packet) item.stamp

-- the same; where there is none, how many streams the schedule has, which is no stream's place
abbrev pub stream_number : ScheduleValue → OriginValue → Stamped → ℕ
stream_number schedule origin item = unwrap_or (place_of_item schedule origin item) (length (all_streams schedule))

-- a packet of the input at a position, with its time
abbrev pub item_at : OriginValue → ℕ → List ℕ → Stamped
item_at origin position packet = record { packet = packet; stamp = stamp_at origin position }

-- the plan that it belongs to names its PID of this input
abbrev pub is_named : ScheduleValue → OriginValue → ℕ → List ℕ → Bool
is_named schedule origin position packet = is_some (place_of_item schedule origin (item_at origin position packet))

-- the packet that a run takes of an item: one that is well formed and that its plan names, with its time
abbrev pub taken_of : ScheduleValue → OriginValue → Item → Option Stamped
taken_of schedule origin (Packet position bytes) =
    if is_well_formed bytes then (if is_named schedule origin position bytes then Some (item_at origin position bytes) else None)
    else None
taken_of schedule origin (Bad position) = None
taken_of schedule origin (SyncLoss position) = None
taken_of schedule origin (Lost count) = None

-- An item is a packet that a run takes, of the stream at this place, and comes at this time.
abbrev pub IsTakenAt : ScheduleValue → OriginValue → Item → ℕ → ℕ → Type 0
IsTakenAt schedule origin (Packet position bytes) place stamp =
    (fault_of bytes ≡ None) × (stamp ≡ stamp_at origin position) × (place_of_item schedule origin (item_at origin position bytes) ≡ Some place)
IsTakenAt schedule origin (Bad position) place stamp = ⊥
IsTakenAt schedule origin (SyncLoss position) place stamp = ⊥
IsTakenAt schedule origin (Lost count) place stamp = ⊥

-- the packets that a run takes of what framing tells, in order
abbrev pub takeable : ScheduleValue → OriginValue → List Item → List Stamped
takeable schedule origin items = filter_map (taken_of schedule origin) items

-- the last of these items, if there is one, is a packet that a run takes
abbrev pub EndsAtTaken : ScheduleValue → OriginValue → List Item → Type 0
EndsAtTaken schedule origin items =
    (items ≡ []) ⊎ ((before : List Item) × (last : Item) × (items ≡ before ++ last ∷ []) × IsSome (taken_of schedule origin last))

-- What an item counts as: a packet is framed, and may be malformed, or else unmapped, where the schedule doesn't name it;
-- a packet with a bad sync byte is bad; a loss of sync is one; bytes in no packet are lost.
abbrev pub counted_of : ScheduleValue → OriginValue → Item → Report
counted_of schedule origin (Packet position bytes) = record {
  framed = 1;
  malformed = if is_well_formed bytes then 0 else 1;
  unmapped = if is_well_formed bytes then (if is_named schedule origin position bytes then 0 else 1) else 0;
  bad = 0;
  losses = 0;
  lost = 0;
  stopped = None;
}
counted_of schedule origin (Bad position) = record { framed = 0; malformed = 0; unmapped = 0; bad = 1; losses = 0; lost = 0; stopped = None }
counted_of schedule origin (SyncLoss position) = record { framed = 0; malformed = 0; unmapped = 0; bad = 0; losses = 1; lost = 0; stopped = None }
counted_of schedule origin (Lost count) = record { framed = 0; malformed = 0; unmapped = 0; bad = 0; losses = 0; lost = count; stopped = None }

-- the report has the counts of these items
pub record CountsItems (schedule : ScheduleValue) (origin : OriginValue) (items : List Item) (report : Report) : Type 0 where
  pub framed : report.framed ≡ sum_by (λ item. (counted_of schedule origin item).framed) items
  pub malformed : report.malformed ≡ sum_by (λ item. (counted_of schedule origin item).malformed) items
  pub unmapped : report.unmapped ≡ sum_by (λ item. (counted_of schedule origin item).unmapped) items
  pub bad : report.bad ≡ sum_by (λ item. (counted_of schedule origin item).bad) items
  pub losses : report.losses ≡ sum_by (λ item. (counted_of schedule origin item).losses) items
  pub lost : report.lost ≡ sum_by (λ item. (counted_of schedule origin item).lost) items
