-- A multiplex of which nothing was taken or sent is sound.
use Rattle.std.proofs.Common.{ℕ, ◌≤◌, [], map, refl}
use Rattle.std.specs.List.{range_with_len}
use Rattle.std.proofs.lemmas.List.Elements.{All-nil}
use Rattle.tspkt.specs.Packet.{IsPacket}
use Rattle.schedule.specs.Schedule.{ScheduleValue}
use Rattle.schedule.specs.Laws.{IsMultiplexSchedule}
use Rattle.mux.specs.History.{Run}
use Rattle.mux.specs.SlotClock.{clock_at}
use Rattle.mux.specs.Buckets.{empty_bucket}
use Rattle.mux.specs.Keeping.{new_state, empty_queue}
use Rattle.mux.specs.Lawful.{input_count}
use Rattle.rounds.specs.Turn.{TurnValue}
use Rattle.schedule.specs.Streams.{all_streams}
use Rattle.mux.specs.Headline.{IsSound}
use Rattle.mux.proofs.Steps.{opening}
use Rattle.mux.proofs.Sound.{is_sound}

pub sound_nothing : (p : ScheduleValue) (limit : ℕ) → IsMultiplexSchedule p → limit ≤ 1099511627776 → IsSound (record { run = record { schedule = p; limit = limit }; events = [] })
sound_nothing p limit schedule few =
    let run : Run = record { schedule = p; limit = limit } in
    let r = p.first.request in
    let turn : TurnValue = record { rounds = p.first.rounds; slot = 0 } in
    is_sound
    (opening run [] (map new_state (range_with_len 0 (input_count p))) (map (empty_queue r.queue) (all_streams p)) (map (empty_bucket r.rate) (all_streams p)) (clock_at r.rate 0) turn []
    schedule few refl refl refl refl refl refl refl)
    (All-nil IsPacket)
