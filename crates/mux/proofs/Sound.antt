-- What each multiplex keeps, from what is kept beside its history.
use Rattle.std.proofs.Common.{ℕ, List, All}
use Rattle.tspkt.specs.Packet.{IsPacket}
use Rattle.rounds.specs.Turn.{TurnValue}
use Rattle.buffers.specs.QueueValue.{QueueValue}
use Rattle.buffers.specs.BucketValue.{BucketValue}
use Rattle.emission.proofs.ScheduleLaws.{spans_agree, spans_recur}
use Rattle.emission.proofs.SpanBufferLaws.{buffers_fit}
use Rattle.mux.specs.declared.counts.Counts.{Counts}
use Rattle.mux.specs.declared.event.Event.{Event}
use Rattle.mux.specs.declared.input_state.InputState.{InputState}
use Rattle.mux.specs.SlotClock.{ClockValue}
use Rattle.mux.specs.History.{Run, emitted}
use Rattle.mux.specs.Keeping.{IsKept}
use Rattle.mux.specs.Headline.{IsSound}
use Rattle.mux.proofs.Plans.{has_of, known_of}
use Rattle.mux.proofs.BucketSteps.{stream_fits}
use Rattle.mux.proofs.Outputs.{emits, counters_are_as_taken}
use Rattle.mux.proofs.Carried.{pcrs_are_later, emitted_then_dropped_then_queued}
use Rattle.mux.proofs.Nulls.{nulls_are_needed}

pub is_sound : {r : Run} {h : List Event} {states : List InputState} {queues : List QueueValue} {buckets : List BucketValue} {clock : ClockValue} {turn : TurnValue} {packets : List (List ℕ)} {counts : Counts}
    → IsKept r h states queues buckets clock turn packets counts → All IsPacket (emitted r.schedule h) → IsSound (record { run = r; events = h })
is_sound {r} {h} {states} {queues} {buckets} kept whole =
    let k = kept.agrees in
    let s = r.schedule in
    let ok = k.schedule in
    let known = known_of s ok in
    let law = k.lawful in
    let emission = emits s h ok law in
    record {
      schedule = ok;
      run = record { lawful = law; within = k.within };
      packets = whole;
      nulls = nulls_are_needed s h ok law;
      counters = λ st c. counters_are_as_taken s h st ok law (has_of s st c);
      emission = emission;
      tables = spans_agree s known (emitted s h) emission;
      recurrence = spans_recur s known (emitted s h) emission;
      stream_buffers = λ st c. let has = has_of s st c in stream_fits s (emitted s h) buckets has.0 st kept.buckets_are has.1;
      table_buffers = buffers_fit s known (emitted s h) emission;
      pcrs = λ st c. pcrs_are_later s h st ok law (has_of s st c);
      streams = λ st c. emitted_then_dropped_then_queued s h st ok law (has_of s st c);
    }
