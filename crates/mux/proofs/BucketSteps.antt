-- The buckets of the streams, before the first slot and from slot to slot, and what they say of the streams' transport buffers.
use Rattle.std.proofs.Common.{ℕ, ◌-◌, ◌≡◌, ◌↔◌, nat_eq, Bool, true, false, List, [], ◌∷◌, ◌++◌, length, map, Option, Some, None, refl, ap, ◌∙◌, sym, subst, arith, inl, inr, eq-eqb}
use Rattle.std.specs.List.{slice_get}
use Rattle.std.specs.Option.{option_map}
use Rattle.std.proofs.Math.Bool.{or-false}
use Rattle.std.proofs.lemmas.Bool.{cases_eq, ne_eqb, eqb-true}
use Rattle.std.proofs.lemmas.List.{length-map}
use Rattle.std.proofs.lemmas.Option.{same_Some, slice_get-map}
use Rattle.tspkt.specs.Packet.{pid_of, null_packet}
use Rattle.tspkt.specs.declared.stamped.Stamped.{Stamped}
use Rattle.tspkt.proofs.RewrittenLaws.{pid_of-rewritten}
use Rattle.request.specs.declared.stream.Stream.{Stream}
use Rattle.rounds.specs.declared.table_place.TablePlace.{TablePlace}
use Rattle.schedule.specs.Schedule.{ScheduleValue, slot_time}
use Rattle.buffers.specs.Level.{is_on_pids, bytes_of_set, IsLevel}
use Rattle.buffers.specs.BucketValue.{BucketValue, HasRoom}
use Rattle.emission.specs.TableBuffers.{BufferFits}
use Rattle.emission.proofs.StreamBufferLaws.{stream_level_none, stream_fits_none, stream_level_sent, stream_level_idle, stream_fits_sent, stream_fits_idle, has_room-fits}
use Rattle.mux.specs.declared.content.Content.TheVariants.{Elementary, Table}
use Rattle.mux.specs.declared.event.Event.{Event}
use Rattle.schedule.specs.Laws.{IsMultiplexSchedule}
use Rattle.mux.specs.History.{queue, slots, emitted, packet_behind, sent_packet}
use Rattle.mux.specs.Lawful.{IsLawful, IsContent, Fits}
use Rattle.mux.specs.Headline.{IsLevelOf}
use Rattle.mux.specs.Buckets.{empty_bucket, IsBucketOf, AreBuckets, carries_stream, after_slot, MovedOn}
use Rattle.mux.proofs.Contents.{stream_choice}
use Rattle.mux.proofs.Plans.{IsAt, first_request, stream_in, same_place, one_out}
use Rattle.mux.proofs.StreamPackets.{head_is_item, out_below, moved_to, null_apart, table_apart}
use Rattle.schedule.specs.Streams.{all_streams}

-- before the first slot
bucket_none : (s : ScheduleValue) (k : ℕ) (st : Stream) → IsMultiplexSchedule s → IsAt s k st → IsBucketOf s.first.request.rate [] st (empty_bucket s.first.request.rate st)
bucket_none s k st plan at =
    let leak = (stream_in s k st plan at).leak in
    let rate = (first_request s plan).rate in
    let b = empty_bucket s.first.request.rate st in
    record {
      bucket = record { leak_from = omega arith; leak_to = omega arith; rate_from = omega arith; rate_to = omega arith; level_to = omega arith };
      leak_is = refl;
      rate_is = refl;
      filled = stream_level_none b (st.output_pid ∷ []) refl;
      fits = stream_fits_none s.first.request.rate st.leak (st.output_pid ∷ []);
    }

pub buckets_none : (s : ScheduleValue) (buckets : List BucketValue) → IsMultiplexSchedule s → buckets ≡ map (empty_bucket s.first.request.rate) (all_streams s) → AreBuckets s [] buckets
buckets_none s buckets plan e =
    let empty = empty_bucket s.first.request.rate in
    record {
      count = ap length e ∙ length-map (all_streams s) empty;
      each = λ k st at. (empty st, ap (λ xs. slice_get xs k) e ∙ slice_get-map empty (all_streams s) k ∙ ap (option_map empty) at, bucket_none s k st plan at);
    }

-- one packet more, of the stream or not
bucket_moved : (rate : ℕ) (out : List (List ℕ)) (st : Stream) (b : BucketValue) (q : List ℕ) (is_sent : Bool) → IsBucketOf rate out st b → is_on_pids (st.output_pid ∷ []) q ≡ is_sent → (is_sent ≡ true → HasRoom b)
    → IsBucketOf rate (out ++ q ∷ []) st (after_slot is_sent b)
bucket_moved rate out st b q true is on room =
    let old = is.bucket in
    record {
      bucket = record { leak_from = old.leak_from; leak_to = old.leak_to; rate_from = old.rate_from; rate_to = old.rate_to; level_to = room refl };
      leak_is = is.leak_is;
      rate_is = is.rate_is;
      filled = stream_level_sent b (st.output_pid ∷ []) out q is.filled on;
      fits = stream_fits_sent b (st.output_pid ∷ []) out q old is.filled is.fits on (room refl);
    }
bucket_moved rate out st b q false is on room =
    let old = is.bucket in
    let low = old.level_to in
    record {
      bucket = record { leak_from = old.leak_from; leak_to = old.leak_to; rate_from = old.rate_from; rate_to = old.rate_to; level_to = omega arith };
      leak_is = is.leak_is;
      rate_is = is.rate_is;
      filled = stream_level_idle b (st.output_pid ∷ []) out q is.filled on;
      fits = stream_fits_idle b (st.output_pid ∷ []) out q old is.filled is.fits on;
    }

-- the packet is of the stream of this index, or of none
abbrev pub IsOfIndex : ScheduleValue → List ℕ → Option ℕ → Type 0
IsOfIndex s q sent = (k : ℕ) (st : Stream) → IsAt s k st → is_on_pids (st.output_pid ∷ []) q ≡ carries_stream sent k

-- the buckets have room for it
abbrev pub HaveRoom : Option ℕ → List BucketValue → Type 0
HaveRoom sent buckets = (k : ℕ) (b : BucketValue) → carries_stream sent k ≡ true → slice_get buckets k ≡ Some b → HasRoom b

pub buckets_moved : (s : ScheduleValue) (out : List (List ℕ)) (q : List ℕ) (sent : Option ℕ) (buckets now : List BucketValue) → AreBuckets s out buckets → MovedOn sent buckets now → IsOfIndex s q sent → HaveRoom sent buckets
    → AreBuckets s (out ++ q ∷ []) now
buckets_moved s out q sent buckets now are moved of room = record {
  count = moved.count ∙ are.count;
  each = λ k st at.
      let old = are.each k st at in
      (after_slot (carries_stream sent k) old.0, moved.each k old.0 old.1, bucket_moved s.first.request.rate out st old.0 q (carries_stream sent k) old.2 (of k st at) (λ e. room k old.0 e old.1));
}

-- Which packets are whose.

on_pid : (pid : ℕ) (q : List ℕ) → is_on_pids (pid ∷ []) q ≡ nat_eq pid (pid_of q)
on_pid pid q = or-false (nat_eq pid (pid_of q))

pub null_of_none : (s : ScheduleValue) → IsMultiplexSchedule s → IsOfIndex s null_packet None
null_of_none s plan k st at = on_pid st.output_pid null_packet ∙ ne_eqb st.output_pid (pid_of null_packet) (λ e. null_apart s k st plan at (sym e))

pub table_of_none : (s : ScheduleValue) (h : List Event) (place : TablePlace) → IsMultiplexSchedule s → IsLawful s h → IsContent s h (Table place) → IsOfIndex s (packet_behind s h (emitted s h) (Table place)) None
table_of_none s h place plan law content k st at =
    let q = packet_behind s h (emitted s h) (Table place) in
    on_pid st.output_pid q ∙ ne_eqb st.output_pid (pid_of q) (λ e. table_apart s h place k st plan law content at (sym e))

pub stream_of_index : (s : ScheduleValue) (h : List Event) (place : ℕ) (su : Stream) → IsMultiplexSchedule s → IsLawful s h → IsAt s place su → IsContent s h (Elementary su)
    → IsOfIndex s (packet_behind s h (emitted s h) (Elementary su)) (Some place)
stream_of_index s h place su plan law there content k st at =
    let q = packet_behind s h (emitted s h) (Elementary su) in
    let chosen = stream_choice s h su content in
    let moved = moved_to s h su chosen.0 plan law (place, there) chosen.1.head in
    elim (cases_eq place k) [
      | inl e ↦
          (let same : su ≡ st = same_place s place k su st e there at in
          on_pid st.output_pid q ∙ eq-eqb st.output_pid (pid_of q) (sym (moved.pid ∙ ap (λ (x : Stream). x.output_pid) same)) ∙ sym (eq-eqb place k e))
      | inr ne ↦
          on_pid st.output_pid q ∙ ne_eqb st.output_pid (pid_of q) (λ e. ne (one_out s place k su st plan there at (sym moved.pid ∙ sym e))) ∙ sym (ne_eqb place k ne)
    ]

-- What the buckets say.

-- there is room for the packet of a queue's head where it fits
pub room_fits : (s : ScheduleValue) (h : List Event) (k : ℕ) (st : Stream) (item : Stamped) (b : BucketValue) → IsMultiplexSchedule s → IsLawful s h → IsAt s k st → slice_get (queue s st h) 0 ≡ Some item
    → IsBucketOf s.first.request.rate (emitted s h) st b → HasRoom b ↔ Fits s h st item
room_fits s h k st item b plan law at head is =
    let q = sent_packet s (slots h) st (Some item) in
    let below = out_below s k st plan at in
    let its = head_is_item s st h item law head in
    let pid : pid_of q ≡ st.output_pid = pid_of-rewritten item.packet st.output_pid (slot_time s.first (slots h) - item.stamp) (omega arith) its.0 in
    let on : is_on_pids (st.output_pid ∷ []) q ≡ true = on_pid st.output_pid q ∙ eq-eqb st.output_pid (pid_of q) (sym pid) in
    let P : ℕ → Type 0 = λ rate. HasRoom b ↔ BufferFits rate b.leak (st.output_pid ∷ []) (emitted s h ++ q ∷ []) in
    let Q : ℕ → Type 0 = λ leak. HasRoom b ↔ BufferFits s.first.request.rate leak (st.output_pid ∷ []) (emitted s h ++ q ∷ []) in
    subst Q is.leak_is (subst P is.rate_is (has_room-fits b (st.output_pid ∷ []) (emitted s h) q is.bucket is.filled is.fits on))

-- the bucket of the stream that the next slot carries has room
pub chosen_has_room : (s : ScheduleValue) (h : List Event) (buckets : List BucketValue) (place : ℕ) (st : Stream) → IsMultiplexSchedule s → IsLawful s h → AreBuckets s (emitted s h) buckets → IsAt s place st → IsContent s h (Elementary st)
    → HaveRoom (Some place) buckets
chosen_has_room s h buckets place st plan law are at content k b here there =
    let chosen = stream_choice s h st content in
    let own = are.each place st at in
    let same : own.0 ≡ b = same_Some own.0 b (sym own.1 ∙ ap (slice_get buckets) (eqb-true place k here) ∙ there) in
    subst HasRoom same ((room_fits s h place st chosen.0 own.0 plan law at chosen.1.head own.2).1 chosen.1.fits)

-- a stream's transport buffer was never overrun
pub stream_fits : (s : ScheduleValue) (out : List (List ℕ)) (buckets : List BucketValue) (k : ℕ) (st : Stream) → AreBuckets s out buckets → IsAt s k st → BufferFits s.first.request.rate st.leak (st.output_pid ∷ []) out
stream_fits s out buckets k st are at =
    let own = are.each k st at in
    let P : ℕ → Type 0 = λ rate. BufferFits rate own.0.leak (st.output_pid ∷ []) out in
    let Q : ℕ → Type 0 = λ leak. BufferFits s.first.request.rate leak (st.output_pid ∷ []) out in
    subst Q own.2.leak_is (subst P own.2.rate_is own.2.fits)

-- and its level is the bucket's
pub level_is : (s : ScheduleValue) (h : List Event) (buckets : List BucketValue) (k : ℕ) (st : Stream) (b : BucketValue) → AreBuckets s (emitted s h) buckets → IsAt s k st → slice_get buckets k ≡ Some b → IsLevelOf s h st b.level
level_is s h buckets k st b are at read =
    let own = are.each k st at in
    let same : own.0 ≡ b = same_Some own.0 b (sym own.1 ∙ read) in
    let of : List ℕ = bytes_of_set (st.output_pid ∷ []) (emitted s h) in
    let P : ℕ → Type 0 = λ rate. IsLevel own.0.leak rate of own.0.level in
    let Q : ℕ → Type 0 = λ leak. IsLevel leak s.first.request.rate of own.0.level in
    let R : BucketValue → Type 0 = λ x. IsLevel st.leak s.first.request.rate of x.level in
    subst R same (subst Q own.2.leak_is (subst P own.2.rate_is own.2.filled))
