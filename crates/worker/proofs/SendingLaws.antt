-- Sending, step by step.
use Rattle.std.proofs.Common.{◌≡◌, ℕ, ◌+◌, ◌≤◌, List, [], ◌∷◌, ◌++◌, length, Option, None, Some, true, false, ap, ◌∙◌, sym, subst, refl, inl, inr, arith, length-append}
use Rattle.std.specs.Prelude.{IsSome, sum_by}
use Rattle.std.proofs.lemmas.Bool.{cases_Bool}
use Rattle.std.proofs.lemmas.List.Sums.{sum_by-cons}
use Rattle.std.proofs.lemmas.Option.{none-some}
use Rattle.std.specs.Option.{option_to_list}
use Rattle.std.specs.Io.KnownBytes.{Consumes}
use Rattle.reading.specs.PacketReading.{HasRead, ReadsOn, GoesOn, TellsFailures}
use Rattle.reading.specs.Holding.{PacketReader}
use Rattle.reading.proofs.FailureLaws.{failed_given}
use Rattle.reading.proofs.KnownLaws.{consumes_on}
use Rattle.reading.proofs.PacketLaws.{reads_nothing, reads_told, unstopped_reading}
use Rattle.reading.specs.Counting.{nothing_counted}
use Rattle.reading.specs.Takeable.{OriginValue, framed_at, takeable, counted_of, is_well_formed, is_named}
use Rattle.reading.specs.declared.report.Report.{Report}
use Rattle.reading.specs.declared.stop.Stop.TheVariants.{ReadFailed}
use Rattle.tspkt.specs.declared.item.Item.{Item}
use Rattle.tspkt.specs.declared.item.Item.TheVariants.{Packet, Bad, SyncLoss, Lost}
use Rattle.port.specs.Rings.{PortValue}
use Rattle.schedule.specs.Schedule.{ScheduleValue}
use Rattle.tspkt.specs.declared.stamped.Stamped.{Stamped}
use Rattle.worker.specs.declared.sender.Sender.{Sender}
use Rattle.worker.specs.Sending.{HasSent, SendsOn}

pub sends_gate : {R G : Type 0} (remaining : R → Option (List ℕ)) (failures : R → ℕ) (a : Sender R G) (gate : G) → SendsOn remaining failures a (record a { gate = gate })
sends_gate remaining failures a gate = record {
  sent = λ start h. h;
  told = λ before t. t;
  unleft = λ e. e;
  schedule = refl;
  ring = refl;
  origin = refl;
  limit = refl;
}

pub sends_sends : {R G : Type 0} (remaining : R → Option (List ℕ)) (failures : R → ℕ) (a b c : Sender R G) → SendsOn remaining failures a b → SendsOn remaining failures b c → SendsOn remaining failures a c
sends_sends remaining failures a b c u v = record {
  sent = λ start h. v.sent start (u.sent start h);
  told = λ before t. v.told before (u.told before t);
  unleft = λ e. u.unleft (v.unleft e);
  schedule = v.schedule ∙ u.schedule;
  ring = v.ring ∙ u.ring;
  origin = v.origin ∙ u.origin;
  limit = v.limit ∙ u.limit;
}

-- the input was read on
pub sends_found : {R G : Type 0} (remaining : R → Option (List ℕ)) (failures : R → ℕ) (a : Sender R G) (x : PacketReader R) → ReadsOn remaining a.schedule a.reader x → GoesOn failures a.reader x
    → SendsOn remaining failures a (record a { reader = x })
sends_found remaining failures a x reads goes = record {
  sent = λ start h.
      let r = reads h.0 a.port.sent h.2 in
      (h.0 ++ r.0, consumes_on start (remaining a.reader.stream.source) (remaining x.stream.source) h.0 r.0 h.1 r.1, r.2);
  told = goes.failures_told;
  unleft = goes.unleft;
  schedule = refl;
  ring = refl;
  origin = goes.origin;
  limit = goes.limit;
}

-- the next packet was looked for among what was read
pub sends_looked : {R G : Type 0} (remaining : R → Option (List ℕ)) (failures : R → ℕ) (a : Sender R G) (x : PacketReader R)
    → ((bytes : List ℕ) (given : List Stamped) → HasRead remaining a.schedule a.reader bytes given → HasRead remaining a.schedule x bytes given)
    → x.stream.source ≡ a.reader.stream.source → GoesOn failures a.reader x → SendsOn remaining failures a (record a { reader = x })
sends_looked remaining failures a x same source goes =
    sends_found remaining failures a x (reads_told remaining a.schedule a.reader a.reader x (reads_nothing remaining a.schedule a.reader) same source) goes

-- the packet that the reader held was sent
pub sends_released : {R G : Type 0} (remaining : R → Option (List ℕ)) (failures : R → ℕ) (a : Sender R G) (x : PacketReader R) (port : PortValue) (item : Stamped)
    → x ≡ record a.reader { held = None } → a.reader.held ≡ Some item → port ≡ record a.port { sent = a.port.sent ++ option_to_list (Some item) }
    → ((schedule : ScheduleValue) (bytes : List ℕ) (given : List Stamped) → HasRead remaining schedule a.reader bytes given → HasRead remaining schedule x bytes (given ++ option_to_list a.reader.held))
    → SendsOn remaining failures a (record a { reader = x; port = port })
sends_released {R} remaining failures a x port item is held sent reads =
    record {
      sent = λ start h.
          let P : R → Type 0 = λ s. Consumes start (remaining s) h.0 in
          let Q : List Stamped → Type 0 = HasRead remaining a.schedule x h.0 in
          let same : a.port.sent ++ option_to_list a.reader.held ≡ port.sent = ap (λ (o : Option Stamped). a.port.sent ++ option_to_list o) held ∙ sym (ap (λ (p : PortValue). p.sent) sent) in
          (h.0, subst P (sym (ap (λ (r : PacketReader R). r.stream.source) is)) h.1, subst Q same (reads a.schedule h.0 a.port.sent h.2));
      told = λ before t.
          let P : PacketReader R → Type 0 = TellsFailures failures before in
          subst P (sym is) (record { unfailed = t.unfailed; told = t.told; untold = t.untold });
      unleft = λ e. sym (ap (λ (r : PacketReader R). r.report.stopped) is) ∙ e;
      schedule = refl;
      ring = ap (λ (p : PortValue). p.ring) sent;
      origin = ap (λ (r : PacketReader R). r.origin) is;
      limit = ap (λ (r : PacketReader R). r.stream.items.limit) is;
    }

-- Where a read failed, nothing is found behind what was given of the bytes before.

none_of : (o : Option Stamped) → length (option_to_list o) ≡ 0 → o ≡ None
none_of None e = refl
none_of (Some x) e = absurd (omega (arith, e))

pub none_behind : {R : Type 0} (remaining : R → Option (List ℕ)) (schedule : ScheduleValue) (a b : PacketReader R) (bytes : List ℕ) (given : List Stamped) → HasRead remaining schedule a bytes given → HasRead remaining schedule b bytes given
    → a.held ≡ None → b.origin ≡ a.origin → a.report.stopped ≡ Some ReadFailed → b.report.stopped ≡ Some ReadFailed → b.held ≡ None
none_behind remaining schedule a b bytes given first second unheld origin failed still =
    let x = failed_given remaining schedule a bytes given first failed in
    let y = failed_given remaining schedule b bytes given second still ∙ ap (λ o. takeable schedule o (framed_at o bytes)) origin in
    let none = ap (λ (o : Option Stamped). length (option_to_list o)) unheld in
    none_of b.held (omega (arith, ap length (y ∙ sym x), length-append given (option_to_list b.held), length-append given (option_to_list a.held), none))

-- where a packet is found behind what was sent, no read failed
pub unfailed_found : {R G : Type 0} (remaining : R → Option (List ℕ)) (a : Sender R G) (x : PacketReader R) (start : Option (List ℕ)) → HasSent remaining start a → a.reader.held ≡ None
    → ((bytes : List ℕ) (given : List Stamped) → HasRead remaining a.schedule a.reader bytes given → HasRead remaining a.schedule x bytes given) → x.origin ≡ a.reader.origin
    → x.report.stopped ≡ a.reader.report.stopped → IsSome x.held → x.report.stopped ≡ Some ReadFailed → ⊥
unfailed_found remaining a x start sent unheld found origin same holds failed =
    let none = none_behind remaining a.schedule a.reader x sent.0 a.port.sent sent.2 (found sent.0 a.port.sent sent.2) unheld origin (sym same ∙ failed) failed in
    let P : Option Stamped → Type 0 = IsSome in
    let bad : false ≡ true = subst P none holds in
    cc

-- nor where more is to be read
pub unfailed_reading : {R G : Type 0} (remaining : R → Option (List ℕ)) (a : Sender R G) (x : PacketReader R) (start : Option (List ℕ)) → HasSent remaining start a
    → ((bytes : List ℕ) (given : List Stamped) → HasRead remaining a.schedule a.reader bytes given → HasRead remaining a.schedule x bytes given)
    → IsSome x.stream.items.framer → x.report.stopped ≡ Some ReadFailed → ⊥
unfailed_reading remaining a x start sent found reading failed =
    let none = unstopped_reading remaining a.schedule x sent.0 a.port.sent (found sent.0 a.port.sent sent.2) reading in
    none-some ReadFailed (sym none ∙ failed)

-- A reader of which nothing was read holds nothing.

one_more : (schedule : ScheduleValue) (o : OriginValue) (place : ℕ) (bytes : List ℕ) (items : List Item) → length (takeable schedule o (Packet place bytes ∷ items)) ≤ 1 + length (takeable schedule o items)
one_more schedule o place bytes items = elim (cases_Bool (is_well_formed bytes)) [
  | inl e ↦ elim (cases_Bool (is_named schedule o place bytes)) [ inl f ↦ rw (e, f) (omega arith) | inr f ↦ rw (e, f) (omega arith) ]
  | inr e ↦ rw e (omega arith)
]

-- as many packets are counted as can be taken, at least
abbrev framed_count : ScheduleValue → OriginValue → Item → ℕ
framed_count schedule o item = (counted_of schedule o item).framed

few_taken : (schedule : ScheduleValue) (o : OriginValue) (items : List Item) → length (takeable schedule o items) ≤ sum_by (framed_count schedule o) items
few_taken schedule o [] = omega arith
few_taken schedule o (Packet place bytes ∷ items) = omega (arith, few_taken schedule o items, one_more schedule o place bytes items, sum_by-cons (framed_count schedule o) (Packet place bytes) items)
few_taken schedule o (Bad place ∷ items) = omega (arith, few_taken schedule o items, sum_by-cons (framed_count schedule o) (Bad place) items)
few_taken schedule o (SyncLoss place ∷ items) = omega (arith, few_taken schedule o items, sum_by-cons (framed_count schedule o) (SyncLoss place) items)
few_taken schedule o (Lost count ∷ items) = omega (arith, few_taken schedule o items, sum_by-cons (framed_count schedule o) (Lost count) items)

pub fresh_unheld : {R : Type 0} (remaining : R → Option (List ℕ)) (schedule : ScheduleValue) (x : PacketReader R) → HasRead remaining schedule x [] [] → x.report ≡ nothing_counted → x.held ≡ None
fresh_unheld remaining schedule x has fresh =
    let few = few_taken schedule x.origin has.0 in
    let none : x.report.framed ≡ 0 = ap (λ (r : Report). r.framed) fresh in
    none_of x.held (omega (arith, few, ap length has.1.given_is, has.1.counts.framed, none))
