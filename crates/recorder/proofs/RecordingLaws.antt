-- What a recorder reads and writes, step by step.
use Rattle.std.proofs.Common.{◌≡◌, ℕ, true, false, List, [], ◌∷◌, ◌++◌, Option, refl, ap, sym, subst, ◌∙◌, append_assoc, append-nil}
use Rattle.std.specs.Prelude.{Bool, Result, Ok, Err, OnOk, OnErr, is_err}
use Rattle.std.specs.Io.KnownBytes.{Appends}
use Rattle.outlet.specs.Sending.{bytes_of}
use Rattle.outlet.specs.Written.{SendsBeginning}
use Rattle.outlet.proofs.KnownLaws.{appends_on}
use Rattle.schedule.specs.Schedule.{ScheduleValue}
use Rattle.emission.specs.Spans.{IsEmissionOf}
use Rattle.marks.specs.Marks.{MarkValue}
use Rattle.recorder.specs.Recording.{RecorderValue, HasWritten, ReadsOn, HasMarked, EndsWithin, EndsWhole}

pub bytes_append : (xs ys : List (List ℕ)) → bytes_of (xs ++ ys) ≡ bytes_of xs ++ bytes_of ys
bytes_append [] ys = refl
bytes_append (x ∷ xs) ys = ap (λ v. x ++ v) (bytes_append xs ys) ∙ sym (append_assoc x (bytes_of xs) (bytes_of ys))

-- behind packets that were written, a beginning of the bytes of a piece was
pub begun_more : (given before now : Option (List ℕ)) (read items more : List (List ℕ)) → Appends given before (bytes_of read) → SendsBeginning before now (bytes_of items) → more ≡ read ++ items → SendsBeginning given now (bytes_of more)
begun_more given before now read items more old new is =
    let sent = new.1.0 in (
      new.0,
      (
        bytes_of read ++ sent,
        appends_on given before now (bytes_of read) sent old new.1.1,
        ap bytes_of is ∙ (bytes_append read items ∙ (ap (λ v. bytes_of read ++ v) new.1.2 ∙ sym (append_assoc (bytes_of read) sent new.0))),
      ),
    )

-- where no write failed all was written
pub written_whole : (given now : Option (List ℕ)) (has_failed : Bool) (packets : List (List ℕ)) → has_failed ≡ false → HasWritten given now has_failed packets → Appends given now (bytes_of packets)
written_whole given now true packets none is = absurd (cc)
written_whole given now false packets none is = is

pub erred : {T E P : Type 0} (r : Result T E) → is_err r ≡ true → OnErr r P → P
erred (Ok x) is p = absurd (cc)
erred (Err e) is p = p

-- and in any case a beginning
written_begun : (given now : Option (List ℕ)) (has_failed : Bool) (packets : List (List ℕ)) → HasWritten given now has_failed packets → SendsBeginning given now (bytes_of packets)
written_begun given now true packets is = is
written_begun given now false packets is = ([], (bytes_of packets, is, sym (append-nil (bytes_of packets))))

pub on_ok : {T E P Q : Type 0} (r : Result T E) → (P → Q) → OnOk r P → OnOk r Q
on_ok (Ok x) f p = f p
on_ok (Err e) f p = tt

pub on_err : {T E P : Type 0} (r : Result T E) → P → OnErr r P
on_err (Ok x) p = tt
on_err (Err e) p = p

-- what a recorder leaves that has read on and written
module _ {W : Type 0} (contents : W → Option (List ℕ)) (old new left : RecorderValue W) (is : left ≡ new) (given : new.given ≡ old.given) (reads : ReadsOn old.reader new.reader)
    (written : HasWritten (contents new.given) (contents new.sink) new.has_failed new.reader.read) where
  sink : new.sink ≡ left.sink
  sink = sym (ap (λ (r : RecorderValue W). r.sink) is)

  lawful : IsEmissionOf old.reader.schedule new.reader.read
  lawful = subst (λ (s : ScheduleValue). IsEmissionOf s new.reader.read) reads.schedule reads.lawful

  pub ends_whole : (mark : MarkValue) → new.has_failed ≡ false → HasMarked mark new.reader.read → EndsWhole old.reader.schedule old.reader.read mark (contents old.given) (contents left.sink)
  ends_whole mark went marked = record {
    read = new.reader.read;
    begins = reads.read;
    lawful = lawful;
    marked = marked;
    written = subst (λ (z : W × W). Appends (contents z.0) (contents z.1) (bytes_of new.reader.read)) (λ i. (given i, sink i))
        (written_whole (contents new.given) (contents new.sink) new.has_failed new.reader.read went written);
  }

  pub ends_within : EndsWithin old.reader.schedule old.reader.read (contents old.given) (contents left.sink)
  ends_within = record {
    read = new.reader.read;
    begins = reads.read;
    lawful = lawful;
    written = subst (λ (z : W × W). SendsBeginning (contents z.0) (contents z.1) (bytes_of new.reader.read)) (λ i. (given i, sink i))
        (written_begun (contents new.given) (contents new.sink) new.has_failed new.reader.read written);
  }
