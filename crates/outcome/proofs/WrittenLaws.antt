-- What a run wrote of what it sent.
use Rattle.std.proofs.Common.{ℕ, ◌≡◌, List, [], ◌++◌, Option, ap, ◌∙◌, sym, subst, append_assoc}
use Rattle.std.specs.Io.KnownBytes.{Appends}
use Rattle.std.proofs.KnownBytes.{Appends-nil}
use Rattle.std.proofs.lemmas.List.{append-nil}
use Rattle.schedule.specs.Schedule.{ScheduleValue}
use Rattle.mux.specs.declared.event.Event.{Event}
use Rattle.mux.specs.History.{emitted}
use Rattle.outlet.specs.Written.{Sends, SendsBeginning}
use Rattle.outlet.specs.Sending.{bytes_of}
use Rattle.outlet.proofs.KnownLaws.{appends_on}

pub nothing_sent : (p : ScheduleValue) (h : List Event) (before : Option (List ℕ)) (waiting : List ℕ) → h ≡ [] → waiting ≡ [] → Sends before before (bytes_of (emitted p h)) waiting
nothing_sent p h before waiting none empty =
    let P : List Event → Type 0 = λ v. Sends before before (bytes_of (emitted p v)) waiting in
    subst P (sym none) ([], Appends-nil before, sym empty)

-- all that was to be written is a beginning of it
pub all_begun : (before after : Option (List ℕ)) (bytes : List ℕ) → Appends before after bytes → SendsBeginning before after bytes
all_begun before after bytes written = ([], (bytes, written, sym (append-nil bytes)))

-- where nothing waits all of it was written
pub none_waits : (before after : Option (List ℕ)) (given waiting : List ℕ) → waiting ≡ [] → Sends before after given waiting → Appends before after given
none_waits before after given waiting none sends =
    let A : List ℕ → Type 0 = Appends before after in
    subst A (sym (sends.2 ∙ ap (λ v. sends.0 ++ v) none ∙ append-nil sends.0)) sends.1

-- what waited and the packet went on
pub sends_on : (a b c : Option (List ℕ)) (given waiting packet now : List ℕ) → Sends a b given waiting → Sends b c (waiting ++ packet) now → Sends a c (given ++ packet) now
sends_on a b c given waiting packet now first second = (
  first.0 ++ second.0,
  appends_on a b c first.0 second.0 first.1 second.1,
  ap (λ v. v ++ packet) first.2 ∙ append_assoc first.0 waiting packet ∙ ap (λ v. first.0 ++ v) second.2 ∙ sym (append_assoc first.0 second.0 now),
)

pub all_sent : (before a b : Option (List ℕ)) (given waiting : List ℕ) → Sends before a given waiting → Appends a b waiting → Appends before b given
all_sent before a b given waiting first second =
    let P : List ℕ → Type 0 = Appends before b in
    subst P (sym first.2) (appends_on before a b first.0 waiting first.1 second)

pub part_sent : (before a b : Option (List ℕ)) (given waiting : List ℕ) → Sends before a given waiting → SendsBeginning a b waiting → SendsBeginning before b given
part_sent before a b given waiting first second =
    let last = second.1 in
    (second.0, (first.0 ++ last.0, appends_on before a b first.0 last.0 first.1 last.1, first.2 ∙ ap (λ v. first.0 ++ v) last.2 ∙ sym (append_assoc first.0 last.0 second.0)))
