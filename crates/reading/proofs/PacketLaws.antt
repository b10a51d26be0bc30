-- What an input keeps while it is read.
use Rattle.std.proofs.Common.{◌≡◌, ℕ, zero, suc, ◌+◌, ◌<◌, ◌≤◌, List, [], ◌∷◌, ◌++◌, length, drop, refl, sym, ◌∙◌, ap, subst, arith, append_assoc, inr}
use Rattle.std.proofs.lemmas.Option.{none-some}
use Rattle.std.specs.Prelude.{Option, Some, None, IsSome, OnErr, Result, Ok, Err, if◌then◌else◌, Bool, true, false}
use Rattle.std.specs.Option.{option_to_list}
use Rattle.std.specs.List.{cons_option, slice_get, sum_by, filter_map}
use Rattle.std.specs.Io.KnownBytes.{Consumes, IsAtEnd}
use Rattle.std.proofs.lemmas.List.{append-nil}
use Rattle.std.proofs.lemmas.List.Elements.{filter_map-append}
use Rattle.std.proofs.lemmas.List.Sums.{sum_by-cons, sum_by-append, sum_by-le-sum_by}
use Rattle.tspkt.specs.Framed.{framed, packets_of}
use Rattle.tspkt.specs.declared.framer.TheConstants.{MAX_LIMIT}
use Rattle.tspkt.specs.declared.item.Item.{Item}
use Rattle.tspkt.specs.declared.item.Item.TheVariants.{Packet, Bad, SyncLoss, Lost}
use Rattle.tspkt.specs.declared.stamped.Stamped.{Stamped}
use Rattle.schedule.specs.Schedule.{ScheduleValue}
use Rattle.reading.specs.declared.report.Report.{Report}
use Rattle.reading.specs.declared.stop.Stop.{Stop}
use Rattle.reading.specs.declared.stop.Stop.TheVariants.{ReadFailed, TooMuch}
use Rattle.reading.specs.declared.stream_reader.StreamReader.{StreamReader}
use Rattle.reading.specs.Holding.{PacketReader}
use Rattle.reading.specs.Counting.{sum_within, with_counts, nothing_counted}
use Rattle.reading.specs.Takeable.{OriginValue, stride_at, is_well_formed, is_named, taken_of, takeable, counted_of, CountsItems}
use Rattle.reading.specs.Items.{ItemsValue, given_up}
use Rattle.reading.specs.StreamReading.{HasPassed, BeginsPackets, BeginsFramed, AreAllDecided, ReadsMore, stopped_by}
use Rattle.reading.specs.PacketReading.{HasLooked, HasRead, ReadsOn, BeginsTakeable, IsSpent, IsWhole, CountsTold}
use Rattle.reading.proofs.KnownLaws.{consumes_on, consumes_nothing}
use Rattle.reading.proofs.ItemLaws.{weight, weight-framed}
use Rattle.reading.proofs.StreamLaws.{told_packets, told_inside, front_packets, told_framed, front_framed, next_item, told_whole, told_failed, told_too_much, told_within, goes_on}

pub takeable-append : (schedule : ScheduleValue) (o : OriginValue) (xs ys : List Item) → takeable schedule o (xs ++ ys) ≡ takeable schedule o xs ++ takeable schedule o ys
takeable-append schedule o xs ys = filter_map-append (taken_of schedule o) xs ys

-- What can be taken of items is what can be taken of their packets.

abbrev taken_at : ScheduleValue → OriginValue → (ℕ × List ℕ) → Option Stamped
taken_at schedule o packet = taken_of schedule o (Packet packet.0 packet.1)

takeable-packets_of : (schedule : ScheduleValue) (o : OriginValue) (items : List Item) → takeable schedule o items ≡ filter_map (taken_at schedule o) (packets_of items)
takeable-packets_of schedule o [] = refl
takeable-packets_of schedule o (Packet place bytes ∷ items) = ap (cons_option (taken_of schedule o (Packet place bytes))) (takeable-packets_of schedule o items)
takeable-packets_of schedule o (Bad place ∷ items) = takeable-packets_of schedule o items
takeable-packets_of schedule o (SyncLoss place ∷ items) = takeable-packets_of schedule o items
takeable-packets_of schedule o (Lost count ∷ items) = takeable-packets_of schedule o items

pub takeable_same : (schedule : ScheduleValue) (o : OriginValue) (xs ys : List Item) → packets_of xs ≡ packets_of ys → takeable schedule o xs ≡ takeable schedule o ys
takeable_same schedule o xs ys e = takeable-packets_of schedule o xs ∙ ap (filter_map (taken_at schedule o)) e ∙ sym (takeable-packets_of schedule o ys)

takeable_begins : (schedule : ScheduleValue) (o : OriginValue) (bytes : List ℕ) (items : List Item) → BeginsPackets (stride_at o) bytes items → BeginsTakeable schedule o bytes (takeable schedule o items)
takeable_begins schedule o bytes items h = λ more.
    let b = h more in (
      filter_map (taken_at schedule o) b.0,
      ap (λ v. v ++ filter_map (taken_at schedule o) b.0) (takeable-packets_of schedule o items)
          ∙ sym (filter_map-append (taken_at schedule o) (packets_of items) b.0)
          ∙ ap (filter_map (taken_at schedule o)) b.1
          ∙ sym (takeable-packets_of schedule o (framed (stride_at o) (bytes ++ more))),
    )

-- a beginning of a beginning
front_begins : (schedule : ScheduleValue) (o : OriginValue) (bytes : List ℕ) (xs ys : List Stamped) → BeginsTakeable schedule o bytes (xs ++ ys) → BeginsTakeable schedule o bytes xs
front_begins schedule o bytes xs ys h = λ more. let b = h more in (ys ++ b.0, sym (append_assoc xs ys b.0) ∙ b.1)

-- what was looked at begins what can be taken
looked_begins : {R : Type 0} (remaining : R → Option (List ℕ)) (schedule : ScheduleValue) (o : OriginValue) (stream : StreamReader R) (held : Option Stamped) (report : Report) (bytes : List ℕ) (given : List Stamped) (looked : List Item)
    → HasLooked remaining schedule o stream held report bytes given looked → BeginsTakeable schedule o bytes (given ++ option_to_list held)
looked_begins remaining schedule o stream held report bytes given looked h =
    let items = stream.items in
    let packets = front_packets (stride_at o) bytes looked items.ahead (told_packets (stride_at o) items.limit items.framer (looked ++ items.ahead) bytes (remaining stream.source) report.stopped h.passed) in
    subst (BeginsTakeable schedule o bytes) h.given_is (takeable_begins schedule o bytes looked packets)

-- what was given, with what is held, begins what can be taken
pub held_begins : {R : Type 0} (remaining : R → Option (List ℕ)) (schedule : ScheduleValue) (x : PacketReader R) (bytes : List ℕ) (given : List Stamped) → HasRead remaining schedule x bytes given → BeginsTakeable schedule x.origin bytes (given ++ option_to_list x.held)
held_begins remaining schedule x bytes given h = looked_begins remaining schedule x.origin x.stream x.held x.report bytes given h.0 h.1

-- what was given begins what can be taken
pub given_begins : {R : Type 0} (remaining : R → Option (List ℕ)) (schedule : ScheduleValue) (x : PacketReader R) (bytes : List ℕ) (given : List Stamped) → HasRead remaining schedule x bytes given → BeginsTakeable schedule x.origin bytes given
given_begins remaining schedule x bytes given h = front_begins schedule x.origin bytes given (option_to_list x.held) (held_begins remaining schedule x bytes given h)

-- what was looked at begins the framing of the bytes
pub looked_framed : {R : Type 0} (remaining : R → Option (List ℕ)) (schedule : ScheduleValue) (x : PacketReader R) (bytes : List ℕ) (given : List Stamped) (h : HasRead remaining schedule x bytes given) → BeginsFramed (stride_at x.origin) bytes (IsAtEnd (remaining x.stream.source)) h.0
looked_framed remaining schedule x bytes given h =
    let items = x.stream.items in
    front_framed (stride_at x.origin) bytes (IsAtEnd (remaining x.stream.source)) h.0 items.ahead (told_framed (stride_at x.origin) items.limit items.framer (h.0 ++ items.ahead) bytes (remaining x.stream.source) x.report.stopped h.1.passed)

-- what was given begins what can be taken of bytes that aren't too many
pub given_inside : {R : Type 0} (remaining : R → Option (List ℕ)) (schedule : ScheduleValue) (x : PacketReader R) (bytes : List ℕ) (given : List Stamped) → HasRead remaining schedule x bytes given
    → (inside : List ℕ) × (later : List Stamped) × (length inside ≤ x.stream.items.limit) × ((given ++ option_to_list x.held) ++ later ≡ takeable schedule x.origin (framed (stride_at x.origin) inside))
given_inside remaining schedule x bytes given h =
    let items = x.stream.items in
    let o = x.origin in
    let told = told_inside (stride_at o) items.limit items.framer (h.0 ++ items.ahead) bytes (remaining x.stream.source) x.report.stopped h.1.passed in
    let rest = takeable schedule o items.ahead ++ takeable schedule o told.1 in (
      told.0,
      rest,
      told.2,
      ap (λ xs. xs ++ rest) (sym h.1.given_is)
          ∙ sym (append_assoc (takeable schedule o h.0) (takeable schedule o items.ahead) (takeable schedule o told.1))
          ∙ ap (λ xs. xs ++ takeable schedule o told.1) (sym (takeable-append schedule o h.0 items.ahead))
          ∙ sym (takeable-append schedule o (h.0 ++ items.ahead) told.1)
          ∙ ap (takeable schedule o) told.3,
    )

-- an input is told as too long only where it is
pub too_much : {R : Type 0} (remaining : R → Option (List ℕ)) (schedule : ScheduleValue) (x : PacketReader R) (bytes : List ℕ) (given : List Stamped) → HasRead remaining schedule x bytes given → x.report.stopped ≡ Some TooMuch → x.stream.items.limit < length bytes
too_much remaining schedule x bytes given h e =
    let items = x.stream.items in
    told_too_much (stride_at x.origin) items.limit items.framer (h.0 ++ items.ahead) bytes (remaining x.stream.source) x.report.stopped h.1.passed e

-- one that isn't told as too long isn't
pub within_read : {R : Type 0} (remaining : R → Option (List ℕ)) (schedule : ScheduleValue) (x : PacketReader R) (bytes : List ℕ) (given : List Stamped) → HasRead remaining schedule x bytes given → (x.report.stopped ≡ Some TooMuch → ⊥) → length bytes ≤ x.stream.items.limit
within_read remaining schedule x bytes given h other =
    let items = x.stream.items in
    told_within (stride_at x.origin) items.limit items.framer (h.0 ++ items.ahead) bytes (remaining x.stream.source) x.report.stopped h.1.passed other

-- one that is still read wasn't stopped
pub unstopped_reading : {R : Type 0} (remaining : R → Option (List ℕ)) (schedule : ScheduleValue) (x : PacketReader R) (bytes : List ℕ) (given : List Stamped) → HasRead remaining schedule x bytes given → IsSome x.stream.items.framer → x.report.stopped ≡ None
unstopped_reading remaining schedule x bytes given h going =
    let items = x.stream.items in
    goes_on (stride_at x.origin) items.limit items.framer (h.0 ++ items.ahead) bytes (remaining x.stream.source) x.report.stopped going h.1.passed

-- of an input with nothing left all items that were told were looked at
all_looked : {R : Type 0} (x : PacketReader R) (looked : List Item) → IsSpent x → looked ++ x.stream.items.ahead ≡ looked
all_looked x looked spent = ap (λ v. looked ++ v) spent.ahead ∙ append-nil looked

all_given : {R : Type 0} (remaining : R → Option (List ℕ)) (schedule : ScheduleValue) (x : PacketReader R) (bytes : List ℕ) (given : List Stamped) (h : HasRead remaining schedule x bytes given) → IsSpent x → given ≡ takeable schedule x.origin h.0
all_given remaining schedule x bytes given h spent = sym (append-nil given) ∙ ap (λ v. given ++ option_to_list v) (sym spent.held) ∙ sym h.1.given_is

-- an input that ended by itself is whole
pub whole_read : {R : Type 0} (remaining : R → Option (List ℕ)) (schedule : ScheduleValue) (x : PacketReader R) (bytes : List ℕ) (given : List Stamped) → HasRead remaining schedule x bytes given → IsSpent x → x.report.stopped ≡ None → IsWhole remaining schedule x bytes given
whole_read remaining schedule x bytes given h spent goes =
    let items = x.stream.items in
    let told = told_whole (stride_at x.origin) items.limit items.framer (h.0 ++ items.ahead) bytes (remaining x.stream.source) x.report.stopped spent.framer goes h.1.passed in
    let all : h.0 ≡ framed (stride_at x.origin) bytes = sym (all_looked x h.0 spent) ∙ told.0 in
    record {
      given_is = all_given remaining schedule x bytes given h spent ∙ ap (takeable schedule x.origin) all;
      counts = (let P : List Item → Type 0 = λ v. CountsItems schedule x.origin v x.report in subst P all h.1.counts);
      at_end = told.1;
    }

-- of an input with a failed read all was given that can be taken of the bytes before it
pub failed_read : {R : Type 0} (remaining : R → Option (List ℕ)) (schedule : ScheduleValue) (x : PacketReader R) (bytes : List ℕ) (given : List Stamped) → HasRead remaining schedule x bytes given → IsSpent x → x.report.stopped ≡ Some ReadFailed → given ≡ takeable schedule x.origin (framed (stride_at x.origin) bytes)
failed_read remaining schedule x bytes given h spent failed =
    let items = x.stream.items in
    let told = told_failed (stride_at x.origin) items.limit items.framer (h.0 ++ items.ahead) bytes (remaining x.stream.source) x.report.stopped failed h.1.passed in
    all_given remaining schedule x bytes given h spent ∙ takeable_same schedule x.origin h.0 (framed (stride_at x.origin) bytes) (ap packets_of (sym (all_looked x h.0 spent)) ∙ told.packets)

-- the report of an input with a failed read counts what was told of the bytes before it
pub counts_told : {R : Type 0} (remaining : R → Option (List ℕ)) (schedule : ScheduleValue) (x : PacketReader R) (bytes : List ℕ) (given : List Stamped) → HasRead remaining schedule x bytes given → x.report.stopped ≡ Some ReadFailed
    → CountsTold schedule x.origin bytes (IsAtEnd (remaining x.stream.source)) x.report
counts_told remaining schedule x bytes given h failed =
    let items = x.stream.items in
    let none = h.1.over (subst IsSome (sym failed) refl) in
    let all : h.0 ++ items.ahead ≡ h.0 = ap (λ v. h.0 ++ v) none ∙ append-nil h.0 in
    let before = told_failed (stride_at x.origin) items.limit items.framer (h.0 ++ items.ahead) bytes (remaining x.stream.source) x.report.stopped failed h.1.passed in
    record {
      told = h.0;
      begun = looked_framed remaining schedule x bytes given h;
      packets = ap packets_of (sym all) ∙ before.packets;
      all = subst (AreAllDecided (stride_at x.origin) bytes) all before.all;
      counts = h.1.counts;
    }

-- Counts.

zero_or_one : (b : Bool) → (if b then 0 else 1) ≤ 1
zero_or_one true = omega arith
zero_or_one false = omega arith

none_or_one : (a b : Bool) → (if a then (if b then 0 else 1) else 0) ≤ 1
none_or_one true b = zero_or_one b
none_or_one false b = omega arith

framed_le : (schedule : ScheduleValue) (o : OriginValue) (x : Item) → (counted_of schedule o x).framed ≤ weight x
framed_le schedule o (Packet place bytes) = omega arith
framed_le schedule o (Bad place) = omega arith
framed_le schedule o (SyncLoss place) = omega arith
framed_le schedule o (Lost count) = omega arith

malformed_le : (schedule : ScheduleValue) (o : OriginValue) (x : Item) → (counted_of schedule o x).malformed ≤ weight x
malformed_le schedule o (Packet place bytes) = zero_or_one (is_well_formed bytes)
malformed_le schedule o (Bad place) = omega arith
malformed_le schedule o (SyncLoss place) = omega arith
malformed_le schedule o (Lost count) = omega arith

unmapped_le : (schedule : ScheduleValue) (o : OriginValue) (x : Item) → (counted_of schedule o x).unmapped ≤ weight x
unmapped_le schedule o (Packet place bytes) = none_or_one (is_well_formed bytes) (is_named schedule o place bytes)
unmapped_le schedule o (Bad place) = omega arith
unmapped_le schedule o (SyncLoss place) = omega arith
unmapped_le schedule o (Lost count) = omega arith

bad_le : (schedule : ScheduleValue) (o : OriginValue) (x : Item) → (counted_of schedule o x).bad ≤ weight x
bad_le schedule o (Packet place bytes) = omega arith
bad_le schedule o (Bad place) = omega arith
bad_le schedule o (SyncLoss place) = omega arith
bad_le schedule o (Lost count) = omega arith

losses_le : (schedule : ScheduleValue) (o : OriginValue) (x : Item) → (counted_of schedule o x).losses ≤ weight x
losses_le schedule o (Packet place bytes) = omega arith
losses_le schedule o (Bad place) = omega arith
losses_le schedule o (SyncLoss place) = omega arith
losses_le schedule o (Lost count) = omega arith

lost_le : (schedule : ScheduleValue) (o : OriginValue) (x : Item) → (counted_of schedule o x).lost ≤ weight x
lost_le schedule o (Packet place bytes) = omega arith
lost_le schedule o (Bad place) = omega arith
lost_le schedule o (SyncLoss place) = omega arith
lost_le schedule o (Lost count) = omega arith

sum_within-add : (a b : ℕ) → a + b ≤ 18446744073709551615 → sum_within a b ≡ a + b
sum_within-add a zero small = omega arith
sum_within-add a (suc b) small = omega arith

-- a count with that of one item more, which doesn't reach its end
count_step : (f : Item → ℕ) (looked : List Item) (item : Item) (r : ℕ) → ((x : Item) → f x ≤ weight x) → sum_by weight looked + weight item ≤ 281474976710656 → r ≡ sum_by f looked → sum_within r (f item) ≡ sum_by f (looked ++ item ∷ [])
count_step f looked item r le bound e =
    let all = sum_by-append f looked (item ∷ []) in
    let one = sum_by-cons f item [] in
    let small = sum_by-le-sum_by f weight looked le in
    let sum = sum_within-add r (f item) (omega (arith, small, le item, bound, e)) in
    omega (arith, all, one, sum, e)

-- what is left of the weight of all items
weight_left : (stride limit : ℕ) (looked ahead later : List Item) (item : Item) (inside : List ℕ) → limit ≤ MAX_LIMIT → length inside ≤ limit → (looked ++ item ∷ ahead) ++ later ≡ framed stride inside → sum_by weight looked + weight item ≤ 281474976710656
weight_left stride limit looked ahead later item inside most within e =
    let all = ap (sum_by weight) e in
    let a = sum_by-append weight (looked ++ item ∷ ahead) later in
    let b = sum_by-append weight looked (item ∷ ahead) in
    let c = sum_by-cons weight item ahead in
    let d = weight-framed stride inside in
    omega (arith, all, a, b, c, d, within, most)

one_taken : (x : Option Stamped) → cons_option x [] ≡ option_to_list x
one_taken None = refl
one_taken (Some x) = refl

-- an input after one item more was looked at
pub looked_on : {R : Type 0} (remaining : R → Option (List ℕ)) (schedule : ScheduleValue) (o : OriginValue) (stream new : StreamReader R) (item : Item) (held found : Option Stamped) (report after : Report) (bytes : List ℕ) (given : List Stamped) (looked : List Item)
    → stream.items.limit ≤ MAX_LIMIT → held ≡ None → slice_get stream.items.ahead 0 ≡ Some item → found ≡ taken_of schedule o item → after ≡ with_counts report (counted_of schedule o item)
    → HasPassed remaining (stride_at o) new bytes report.stopped (looked ++ item ∷ []) → HasLooked remaining schedule o stream held report bytes given looked
    → HasLooked remaining schedule o new found after bytes given (looked ++ item ∷ [])
looked_on {R} remaining schedule o stream new item held found report after bytes given looked most none first found_is after_is passed h =
    let items = stream.items in
    let inside = told_inside (stride_at o) items.limit items.framer (looked ++ items.ahead) bytes (remaining stream.source) report.stopped h.passed in
    let split = next_item items looked item first ∙ append_assoc looked (item ∷ []) (drop 1 items.ahead) in
    let bound = weight_left (stride_at o) items.limit looked (drop 1 items.ahead) inside.1 item inside.0 most inside.2 (ap (λ v. v ++ inside.1) (sym split) ∙ inside.3) in
    let r = report in
    let counted : HasLooked remaining schedule o new (taken_of schedule o item) (with_counts report (counted_of schedule o item)) bytes given (looked ++ item ∷ []) = record {
      passed = passed;
      given_is =
          takeable-append schedule o looked (item ∷ [])
          ∙ ap (λ v. v ++ takeable schedule o (item ∷ [])) (h.given_is ∙ ap (λ v. given ++ option_to_list v) none ∙ append-nil given)
          ∙ ap (λ v. given ++ v) (one_taken (taken_of schedule o item));
      counts = record {
        framed = count_step (λ x. (counted_of schedule o x).framed) looked item r.framed (framed_le schedule o) bound h.counts.framed;
        malformed = count_step (λ x. (counted_of schedule o x).malformed) looked item r.malformed (malformed_le schedule o) bound h.counts.malformed;
        unmapped = count_step (λ x. (counted_of schedule o x).unmapped) looked item r.unmapped (unmapped_le schedule o) bound h.counts.unmapped;
        bad = count_step (λ x. (counted_of schedule o x).bad) looked item r.bad (bad_le schedule o) bound h.counts.bad;
        losses = count_step (λ x. (counted_of schedule o x).losses) looked item r.losses (losses_le schedule o) bound h.counts.losses;
        lost = count_step (λ x. (counted_of schedule o x).lost) looked item r.lost (lost_le schedule o) bound h.counts.lost;
      };
      ends = λ some. inr (looked, item, refl, some);
      over = λ some. absurd (none-some item (sym (ap (λ v. slice_get v 0) (h.over some)) ∙ first));
    } in
    let P : Report → Type 0 = λ v. HasLooked remaining schedule o new (taken_of schedule o item) v bytes given (looked ++ item ∷ []) in
    let Q : Option Stamped → Type 0 = λ v. HasLooked remaining schedule o new v after bytes given (looked ++ item ∷ []) in
    subst Q (sym found_is) (subst P (sym after_is) counted)

-- an input of which nothing was read
pub fresh_looked : {R : Type 0} (remaining : R → Option (List ℕ)) (schedule : ScheduleValue) (o : OriginValue) (stream : StreamReader R) (report : Report) → report ≡ nothing_counted → HasPassed remaining (stride_at o) stream [] None [] → HasLooked remaining schedule o stream None report [] [] []
fresh_looked remaining schedule o stream report is passed =
    let P : Report → Type 0 = λ v. HasLooked remaining schedule o stream None v [] [] [] in
    let fresh : HasLooked remaining schedule o stream None nothing_counted [] [] [] = record {
      passed = passed;
      given_is = refl;
      counts = record { framed = refl; malformed = refl; unmapped = refl; bad = refl; losses = refl; lost = refl };
      ends = λ some. (let bad : false ≡ true = some in cc);
      over = λ some. (let bad : false ≡ true = some in cc);
    } in
    subst P (sym is) fresh

-- what was held is given
pub released : {R : Type 0} (remaining : R → Option (List ℕ)) (schedule : ScheduleValue) (o : OriginValue) (stream : StreamReader R) (held : Option Stamped) (report : Report) (bytes : List ℕ) (given : List Stamped) (looked : List Item)
    → HasLooked remaining schedule o stream held report bytes given looked → HasLooked remaining schedule o stream None report bytes (given ++ option_to_list held) looked
released remaining schedule o stream held report bytes given looked h = record {
  passed = h.passed;
  given_is = h.given_is ∙ sym (append-nil (given ++ option_to_list held));
  counts = h.counts;
  ends = λ some. (let bad : false ≡ true = some in cc);
  over = h.over;
}

-- the same counts, with another cause
pub counted_stopped : (schedule : ScheduleValue) (o : OriginValue) (looked : List Item) (report : Report) (stopped : Option Stop) → CountsItems schedule o looked report → CountsItems schedule o looked (record report { stopped = stopped })
counted_stopped schedule o looked report stopped c = record { framed = c.framed; malformed = c.malformed; unmapped = c.unmapped; bad = c.bad; losses = c.losses; lost = c.lost }

-- nothing is left of what was told once a read stopped a stream
over_read : (result : Result (Unit {0}) Stop) (stopped : Option Stop) (items new : ItemsValue) → stopped ≡ None → OnErr result (new ≡ given_up items) → IsSome (stopped_by result stopped) → new.ahead ≡ []
over_read (Ok done) stopped items new none gone some = let bad : false ≡ true = subst IsSome none some in cc
over_read (Err stop) stopped items new none gone some = ap (λ v. v.ahead) gone

-- an input whose stream was read on, with what stopped it
pub read_on : {R : Type 0} (remaining : R → Option (List ℕ)) (schedule : ScheduleValue) (old new : PacketReader R) (stream : StreamReader R) (result : Result (Unit {0}) Stop)
    → IsSome old.stream.items.framer → OnErr result (stream.items ≡ given_up old.stream.items) → ReadsMore remaining old.stream stream result
    → new ≡ record old { stream = stream; report = record old.report { stopped = stopped_by result old.report.stopped } } → ReadsOn remaining schedule old new
read_on {R} remaining schedule old new stream result going gone reads is bytes given h =
    let free = unstopped_reading remaining schedule old bytes given h going in
    let k = reads (stride_at old.origin) bytes old.report.stopped h.0 h.1.passed in
    let P : PacketReader R → Type 0 = λ v. (more : List ℕ) × Consumes (remaining old.stream.source) (remaining v.stream.source) more × HasRead remaining schedule v (bytes ++ more) given in
    let stopped = stopped_by result old.report.stopped in
    subst P (sym is) (k.0, k.1, (h.0, record { passed = k.2; given_is = h.1.given_is; counts = counted_stopped schedule old.origin h.0 old.report stopped h.1.counts; ends = h.1.ends; over = over_read result old.report.stopped old.stream.items stream.items free gone }))

-- Reading, and then items that were told.

pub reads_nothing : {R : Type 0} (remaining : R → Option (List ℕ)) (schedule : ScheduleValue) (a : PacketReader R) → ReadsOn remaining schedule a a
reads_nothing remaining schedule a bytes given h =
    ([], consumes_nothing (remaining a.stream.source), subst (λ v. HasRead remaining schedule a v given) (sym (append-nil bytes)) h)

pub reads_told : {R : Type 0} (remaining : R → Option (List ℕ)) (schedule : ScheduleValue) (a b m : PacketReader R) → ReadsOn remaining schedule a b → ((bytes : List ℕ) (given : List Stamped) → HasRead remaining schedule b bytes given → HasRead remaining schedule m bytes given) → m.stream.source ≡ b.stream.source → ReadsOn remaining schedule a m
reads_told remaining schedule a b m reads told same bytes given h =
    let k = reads bytes given h in
    (k.0, subst (λ v. Consumes (remaining a.stream.source) (remaining v) k.0) (sym same) k.1, told (bytes ++ k.0) given k.2)

pub reads_reads : {R : Type 0} (remaining : R → Option (List ℕ)) (schedule : ScheduleValue) (a m d : PacketReader R) → ReadsOn remaining schedule a m → ReadsOn remaining schedule m d → ReadsOn remaining schedule a d
reads_reads remaining schedule a m d reads more bytes given h =
    let k = reads bytes given h in
    let r = more (bytes ++ k.0) given k.2 in
    (k.0 ++ r.0, consumes_on (remaining a.stream.source) (remaining m.stream.source) (remaining d.stream.source) k.0 r.0 k.1 r.1, subst (λ v. HasRead remaining schedule d v given) (append_assoc bytes k.0 r.0) r.2)
