-- What a worker has done.
use Rattle.std.proofs.Common.{◌≡◌, ℕ, List, [], ◌∷◌, length, Bool, true, false, Option, None, Some, IfSome, MatchBool, ap, ◌∙◌, sym, subst, refl, ◌⊎◌, inl, inr, arith}
use Rattle.std.proofs.lemmas.Bool.{false≢true}
use Rattle.std.proofs.lemmas.Option.{none-some}
use Rattle.std.specs.Io.KnownBytes.{Consumes}
use Rattle.tspkt.specs.declared.item.Item.{Item}
use Rattle.tspkt.specs.declared.stamped.Stamped.{Stamped}
use Rattle.schedule.specs.Schedule.{ScheduleValue}
use Rattle.reading.specs.Takeable.{OriginValue, framed_at, CountsItems}
use Rattle.reading.specs.Failures.{FailsOnce}
use Rattle.reading.specs.PacketReading.{HasRead, IsSpent, TellsFailures}
use Rattle.reading.proofs.KnownLaws.{consumes_nothing}
use Rattle.reading.specs.declared.report.Report.{Report}
use Rattle.reading.specs.declared.stop.Stop.{Stop}
use Rattle.reading.specs.declared.stop.Stop.TheVariants.{Gate, ReadFailed, Memory}
use Rattle.reading.specs.Holding.{PacketReader}
use Rattle.reading.proofs.PacketLaws.{given_begins, looked_framed, whole_read, failed_read, counts_told, too_much, within_read, counted_stopped}
use Rattle.port.specs.Rings.{FinishedValue}
use Rattle.worker.specs.Stops.{StopsOnce}
use Rattle.worker.specs.declared.sender.Sender.{Sender}
use Rattle.worker.specs.Sending.{HasSent, SendsOn, first_cause}
use Rattle.worker.specs.Working.{HasSentOf, HasWorked}

-- a cause that is neither the gate's nor want of memory is the reading's own
pub own_cause : (stop reading cause : Option Stop) (is_ended : Bool) → cause ≡ first_cause reading stop is_ended → IfSome stop (λ s. (s ≡ Gate) ⊎ (s ≡ Memory))
    → (cause ≡ Some Gate → ⊥) → (cause ≡ Some Memory → ⊥) → cause ≡ reading
own_cause stop (Some reading) cause is_ended is own gate memory = is
own_cause (Some s) None cause is_ended is own gate memory =
    elim own [
      | inl e ↦ absurd (gate (is ∙ ap Some e))
      | inr e ↦ absurd (memory (is ∙ ap Some e))
    ]
own_cause None None cause true is own gate memory = is
own_cause None None cause false is own gate memory = absurd (gate is)

-- where no cause is told there was none, and the end mark was sent
pub no_cause : (stop reading : Option Stop) (is_ended : Bool) → None ≡ first_cause reading stop is_ended → (reading ≡ None) × (stop ≡ None)
no_cause stop (Some reading) is_ended is = absurd (none-some reading is)
no_cause (Some s) None is_ended is = absurd (none-some s is)
no_cause None None true is = (refl, refl)
no_cause None None false is = absurd (none-some Gate is)

-- what stopped the sending came before any failed read, and left no end mark where it is the gate
pub record IsOwnStop (stop reading : Option Stop) (is_ended : Bool) : Type 0 where
  pub own : IfSome stop (λ s. (s ≡ Gate) ⊎ (s ≡ Memory))
  pub refused : stop ≡ Some Memory → reading ≡ None
  pub unfailed : stop ≡ Some Gate → reading ≡ Some ReadFailed → ⊥
  pub unmarked : stop ≡ Some Gate → is_ended ≡ false

-- where a failed read is told, nothing stopped the sending
pub unstopped_failed : (stop reading : Option Stop) (is_ended : Bool) → IsOwnStop stop reading is_ended → reading ≡ Some ReadFailed → stop ≡ None
unstopped_failed None reading is_ended is failed = refl
unstopped_failed (Some s) reading is_ended is failed =
    elim is.own [
      | inl e ↦ absurd (is.unfailed (ap Some e) failed)
      | inr e ↦ absurd (none-some ReadFailed (sym (is.refused (ap Some e)) ∙ failed))
    ]

-- behind the end mark nothing is held, unless there was no memory to read with
pub none_held : {R : Type 0} (x : PacketReader R) (stop cause : Option Stop) (is_ended : Bool) → IsOwnStop stop x.report.stopped is_ended → cause ≡ first_cause x.report.stopped stop is_ended
    → (stop ≡ None → IsSpent x ⊎ (x.report.stopped ≡ Some Memory)) → is_ended ≡ true → (cause ≡ Some Memory → ⊥) → x.held ≡ None
none_held x None cause is_ended is told over ended memory =
    let P : Option Stop → Type 0 = λ r. cause ≡ first_cause r None is_ended in
    elim (over refl) [
      | inl spent ↦ spent.held
      | inr e ↦ absurd (memory (subst P e told))
    ]
none_held x (Some s) cause is_ended is told over ended memory =
    elim is.own [
      | inl e ↦ absurd (false≢true (sym (is.unmarked (ap Some e)) ∙ ended))
      | inr e ↦
          (let P : Option Stop → Type 0 = λ r. cause ≡ first_cause r (Some s) is_ended in
          absurd (memory (subst P (is.refused (ap Some e)) told ∙ ap Some e)))
    ]

pub spent_of : {R : Type 0} (x : PacketReader R) (cause : Option Stop) → cause ≡ x.report.stopped → (cause ≡ Some Memory → ⊥) → IsSpent x ⊎ (x.report.stopped ≡ Some Memory) → IsSpent x
spent_of x cause same memory (inl spent) = spent
spent_of x cause same memory (inr e) = absurd (memory (same ∙ e))

counts_of : (schedule : ScheduleValue) (o : OriginValue) (items : List Item) (old report : Report) → report ≡ record old { stopped = report.stopped } → CountsItems schedule o items old → CountsItems schedule o items report
counts_of schedule o items old report is counts =
    let P : Report → Type 0 = CountsItems schedule o items in
    subst P (sym is) (counted_stopped schedule o items old report.stopped counts)

-- what a reader gave was sent, and this is told of it
pub sent_of : {R : Type 0} (remaining : R → Option (List ℕ)) (most : ℕ) (schedule : ScheduleValue) (x : PacketReader R) (start : Option (List ℕ)) (bytes : List ℕ) (sent : List Stamped) (stop : Option Stop) (is_ended : Bool) (report : Report)
    → Consumes start (remaining x.stream.source) bytes → HasRead remaining schedule x bytes sent → x.stream.items.limit ≡ most
    → report.stopped ≡ first_cause x.report.stopped stop is_ended → IsOwnStop stop x.report.stopped is_ended
    → (stop ≡ None → IsSpent x ⊎ (x.report.stopped ≡ Some Memory)) → report ≡ record x.report { stopped = report.stopped }
    → HasSentOf most schedule x.origin start (remaining x.stream.source) report is_ended sent
sent_of remaining most schedule x start bytes sent stop is_ended report read has limit cause is over counts = record {
  bytes = bytes;
  read = read;
  begins = given_begins remaining schedule x bytes sent has;
  whole = λ e.
      let u = no_cause stop x.report.stopped is_ended (sym e ∙ cause) in
      let spent = spent_of x None (sym u.0) (λ b. none-some Memory b) (over u.1) in
      let w = whole_read remaining schedule x bytes sent has spent u.0 in
      record { sent_is = w.given_is; counts = counts_of schedule x.origin (framed_at x.origin bytes) x.report report counts w.counts; at_end = w.at_end };
  failed = λ e.
      let same = own_cause stop x.report.stopped report.stopped is_ended cause is.own (λ b. let bad = sym e ∙ b in cc) (λ b. let bad = sym e ∙ b in cc) in
      let u = unstopped_failed stop x.report.stopped is_ended is (sym same ∙ e) in
      let spent = spent_of x report.stopped same (λ b. let bad = sym e ∙ b in cc) (over u) in
      failed_read remaining schedule x bytes sent has spent (sym same ∙ e);
  told = λ e.
      let same = own_cause stop x.report.stopped report.stopped is_ended cause is.own (λ b. let bad = sym e ∙ b in cc) (λ b. let bad = sym e ∙ b in cc) in
      let told = counts_told remaining schedule x bytes sent has (sym same ∙ e) in
      record { told = told.told; begun = told.begun; packets = told.packets; all = told.all; counts = counts_of schedule x.origin told.told x.report report counts told.counts };
  too_much = λ e.
      let same = own_cause stop x.report.stopped report.stopped is_ended cause is.own (λ b. let bad = sym e ∙ b in cc) (λ b. let bad = sym e ∙ b in cc) in
      let much = too_much remaining schedule x bytes sent has (sym same ∙ e) in
      omega (arith, much, limit);
  within = λ other.
      let P : Option Stop → Type 0 = λ r. report.stopped ≡ first_cause r stop is_ended in
      let fits = within_read remaining schedule x bytes sent has (λ e. other (subst P e cause)) in
      omega (arith, fits, limit);
  counted = record {
    looked = has.0;
    framing = looked_framed remaining schedule x bytes sent has;
    counts = counts_of schedule x.origin has.0 x.report report counts has.1.counts;
    held = x.held;
    sent_is = has.1.given_is;
    over = none_held x stop report.stopped is_ended is cause over;
  };
}

-- nothing was sent of a reader of which nothing was read
pub fresh_sent : {R G : Type 0} (remaining : R → Option (List ℕ)) (a : Sender R G) (source : R) → a.reader.stream.source ≡ source → HasRead remaining a.schedule a.reader [] [] → a.port.sent ≡ [] → HasSent remaining (remaining source) a
fresh_sent {R} remaining a source source_is fresh unsent =
    let start = remaining source in
    let C : R → Type 0 = λ v. Consumes start (remaining v) [] in
    let H : List Stamped → Type 0 = HasRead remaining a.schedule a.reader [] in
    ([], subst C (sym source_is) (consumes_nothing start), subst H (sym unsent) fresh)

-- what a worker did, from what its sending did
pub worked : {R G : Type 0} (remaining : R → Option (List ℕ)) (failures : R → ℕ) (most : ℕ) (a b : Sender R G) (schedule : ScheduleValue) (origin : OriginValue) (source left : R) (stop : Option Stop) (report : Report) (finished : FinishedValue)
    → a.schedule ≡ schedule → a.reader.origin ≡ origin → a.reader.stream.source ≡ source → a.reader.stream.items.limit ≡ most → HasRead remaining a.schedule a.reader [] [] → a.port.sent ≡ []
    → SendsOn remaining failures a b → left ≡ b.reader.stream.source → (stop ≡ None → IsSpent b.reader ⊎ (b.reader.report.stopped ≡ Some Memory)) → IsOwnStop stop b.reader.report.stopped finished.is_ended
    → report ≡ record b.reader.report { stopped = report.stopped } → report.stopped ≡ first_cause b.reader.report.stopped stop finished.is_ended → finished.port ≡ b.port
    → HasWorked most schedule origin (remaining source) (remaining left) a.port.ring report finished
worked {R} {G} remaining failures most a b schedule origin source left stop report finished plan_is origin_is source_is limit fresh unsent on left_is over own counts cause shown =
    let start = remaining source in
    let r = on.sent start (fresh_sent remaining a source source_is fresh unsent) in
    let s = sent_of remaining most b.schedule b.reader start r.0 b.port.sent stop finished.is_ended report r.1 r.2 (on.limit ∙ limit) cause own over counts in
    let P : ScheduleValue → Type 0 = λ v. HasSentOf most v b.reader.origin start (remaining b.reader.stream.source) report finished.is_ended b.port.sent in
    let O : OriginValue → Type 0 = λ v. HasSentOf most schedule v start (remaining b.reader.stream.source) report finished.is_ended b.port.sent in
    let L : R → Type 0 = λ v. HasSentOf most schedule origin start (remaining v) report finished.is_ended b.port.sent in (
      b.port.sent,
      subst L (sym left_is) (subst O (on.origin ∙ origin_is) (subst P (on.schedule ∙ plan_is) s)),
      shown ∙ (λ k. record { ring = on.ring k; sent = b.port.sent }),
    )

-- a failed read is told only where the source failed
pub told_failed : {R G : Type 0} (remaining : R → Option (List ℕ)) (failures : R → ℕ) (a b : Sender R G) (source left : R) (stop : Option Stop) (is_ended : Bool) (cause : Option Stop)
    → a.reader.stream.source ≡ source → TellsFailures failures (failures source) a.reader → SendsOn remaining failures a b → left ≡ b.reader.stream.source → IfSome stop (λ s. (s ≡ Gate) ⊎ (s ≡ Memory))
    → cause ≡ first_cause b.reader.report.stopped stop is_ended → cause ≡ Some ReadFailed → FailsOnce (failures source) (failures left)
told_failed remaining failures a b source left stop is_ended cause source_is tells on left_is own first e =
    let same = own_cause stop b.reader.report.stopped cause is_ended first own (λ g. let bad = sym e ∙ g in cc) (λ g. let bad = sym e ∙ g in cc) in
    let t = on.told (failures source) tells in
    subst (λ v. FailsOnce (failures source) (failures v)) (sym left_is) (t.told (sym same ∙ e))

-- and wherever it failed
pub told_unfailed : {R G : Type 0} (remaining : R → Option (List ℕ)) (failures : R → ℕ) (a b : Sender R G) (source left : R) (stop : Option Stop) (is_ended : Bool) (cause : Option Stop)
    → TellsFailures failures (failures source) a.reader → SendsOn remaining failures a b → left ≡ b.reader.stream.source
    → cause ≡ first_cause b.reader.report.stopped stop is_ended → (cause ≡ Some ReadFailed → ⊥) → failures left ≡ failures source
told_unfailed remaining failures a b source left stop is_ended cause tells on left_is first other =
    let P : Option Stop → Type 0 = λ r. cause ≡ first_cause r stop is_ended in
    let t = on.told (failures source) tells in
    ap failures left_is ∙ t.untold (λ e. other (subst P e first))

-- the gate is told only where it said no: before the sending ended, or before the end mark was sent
pub told_gate : (stop reading cause : Option Stop) (is_ended : Bool) (before between after : ℕ) → cause ≡ first_cause reading stop is_ended → IfSome stop (λ s. (s ≡ Gate) ⊎ (s ≡ Memory))
    → (reading ≡ Some Gate → ⊥) → (stop ≡ Some Gate → StopsOnce before between) → (stop ≡ Some Gate → after ≡ between)
    → ((stop ≡ Some Gate → ⊥) → between ≡ before) → ((stop ≡ Some Gate → ⊥) → MatchBool is_ended (after ≡ between) (StopsOnce between after)) → cause ≡ Some Gate → StopsOnce before after
told_gate stop (Some reading) cause is_ended before between after first own unleft stopped same gate rest e = absurd (unleft (sym first ∙ e))
told_gate (Some s) None cause is_ended before between after first own unleft stopped same gate rest e =
    let is : Some s ≡ Some Gate = sym first ∙ e in
    subst (λ n. StopsOnce before n) (sym (same is)) (stopped is)
told_gate None None cause true before between after first own unleft stopped same gate rest e = absurd (none-some Gate (sym first ∙ e))
told_gate None None cause false before between after first own unleft stopped same gate rest e =
    subst (λ n. StopsOnce n after) (gate (λ b. none-some Gate b)) (rest (λ b. none-some Gate b))

-- and then there is no end mark
pub told_left : (stop reading cause : Option Stop) (is_ended : Bool) → cause ≡ first_cause reading stop is_ended → (reading ≡ Some Gate → ⊥) → (stop ≡ Some Gate → is_ended ≡ false) → cause ≡ Some Gate → is_ended ≡ false
told_left stop (Some reading) cause is_ended first unleft unmarked e = absurd (unleft (sym first ∙ e))
told_left (Some s) None cause is_ended first unleft unmarked e = unmarked (sym first ∙ e)
told_left None None cause true first unleft unmarked e = absurd (none-some Gate (sym first ∙ e))
told_left None None cause false first unleft unmarked e = refl

-- and where no mark was sent
pub told_unmarked : (stop : Option Stop) (is_ended : Bool) (before between after : ℕ) → IfSome stop (λ s. (s ≡ Gate) ⊎ (s ≡ Memory)) → (stop ≡ Some Gate → StopsOnce before between) → (stop ≡ Some Gate → after ≡ between)
    → ((stop ≡ Some Gate → ⊥) → between ≡ before) → ((stop ≡ Some Gate → ⊥) → MatchBool is_ended (after ≡ between) (StopsOnce between after)) → is_ended ≡ false → StopsOnce before after
told_unmarked None is_ended before between after own stopped same gate rest e =
    let M : Bool → Type 0 = λ b. MatchBool b (after ≡ between) (StopsOnce between after) in
    subst (λ n. StopsOnce n after) (gate (λ b. cc)) (subst M e (rest (λ b. cc)))
told_unmarked (Some s) is_ended before between after (inl is) stopped same gate rest e = subst (λ n. StopsOnce before n) (sym (same (ap Some is))) (stopped (ap Some is))
told_unmarked (Some s) is_ended before between after (inr is) stopped same gate rest e =
    let M : Bool → Type 0 = λ b. MatchBool b (after ≡ between) (StopsOnce between after) in
    let other : Some s ≡ Some Gate → ⊥ = λ b. (let bad : Some Memory ≡ Some Gate = ap Some (sym is) ∙ b in cc) in
    subst (λ n. StopsOnce n after) (gate other) (subst M e (rest other))

pub empty_of : (items : List Stamped) → length items ≡ 0 → items ≡ []
empty_of [] e = refl
empty_of (x ∷ items) e = absurd (cc)
