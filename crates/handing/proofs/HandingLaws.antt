-- What a run sent is handed on to its output.
use Rattle.std.proofs.Common.{◌≡◌, ℕ, List, [], ◌∷◌, ◌++◌, true, false, Option, refl, ap, sym, subst, ◌∙◌, append_assoc, append-nil}
use Rattle.std.proofs.lemmas.Grind.{flat_map-append}
use Rattle.std.proofs.lemmas.Bool.{false≢true}
use Rattle.std.specs.Prelude.{Result, Ok, Err, OnOk}
use Rattle.std.specs.Io.KnownBytes.{Appends}
use Rattle.mux.specs.History.{Run}
use Rattle.relay.specs.Relays.{RelayId, SenderValue, ReceiverValue, FinishedValue}
use Rattle.relay.specs.Receiving.{IsLeft}
use Rattle.outcome.specs.Taking.{IsOver}
use Rattle.outlet.specs.Sending.{bytes_of, HasAnalysed}
use Rattle.outlet.specs.Written.{Sends, SendsBeginning}
use Rattle.outlet.specs.declared.run_fault.RunFault.{RunFault}
use Rattle.outlet.proofs.KnownLaws.{beginning_on}
use Rattle.outcome.proofs.WrittenLaws.{sends_on, all_begun}
use Rattle.station.specs.Stations.{StationValue}
use Rattle.handing.specs.Driving.{output_of, IsSameRun, BreaksOff, IsDriven}
use Rattle.handing.specs.Handing.{sent_of, HandsAll, HandsSome, HandsAllBut, IsHandedOn}
use Rattle.handing.specs.Outputs.{packets_in, IsWritten}
use Rattle.outlet.specs.declared.outlet.Outlet.{Outlet}
use Rattle.handing.proofs.DrivingLaws.{same_same}
use Rattle.handing.proofs.WritingLaws.{bytes_behind}

-- nothing was handed on
pub hands_nothing : (s : StationValue) (blocks : List (List (List ℕ))) → blocks ≡ [] → HandsAll s s blocks
hands_nothing s blocks none = record {
  same = record { run = refl; rings = refl; needed = λ is. is };
  sent = sym (ap (λ (v : List (List (List ℕ))). sent_of s ++ packets_in v) none ∙ append-nil (sent_of s));
}

-- and the block in hand is empty
pub begins_handing : (s : StationValue) (blocks : List (List (List ℕ))) (block : List (List ℕ)) → blocks ≡ [] → block ≡ [] → HandsAllBut s s blocks block
begins_handing s blocks block none empty =
    let all = hands_nothing s blocks none in
    record {
      same = all.same;
      sent = all.sent ∙ (sym (append-nil (sent_of s ++ packets_in blocks)) ∙ ap (λ v. (sent_of s ++ packets_in blocks) ++ v) (sym empty));
    }

pub all_some : (old new : StationValue) (blocks : List (List (List ℕ))) → HandsAll old new blocks → HandsSome old new blocks
all_some old new blocks all = record { same = all.same; rest = []; sent = all.sent ∙ sym (append-nil (sent_of old ++ packets_in blocks)) }

-- nothing is left in the block in hand
pub all_handed : (old new : StationValue) (blocks : List (List (List ℕ))) (block : List (List ℕ)) → HandsAllBut old new blocks block → block ≡ [] → HandsAll old new blocks
all_handed old new blocks block but empty = record {
  same = but.same;
  sent = but.sent ∙ (ap (λ v. (sent_of old ++ packets_in blocks) ++ v) empty ∙ append-nil (sent_of old ++ packets_in blocks));
}

-- What went out in a turn stands behind what the block in hand had; of this the first is handed on.
handed : (old mid new : StationValue) (a b : List (List (List ℕ))) (before packets block rest : List (List ℕ)) → sent_of mid ≡ (sent_of old ++ packets_in a) ++ before → sent_of new ≡ sent_of mid ++ packets
    → block ≡ before ++ packets → packets_in a ++ block ≡ packets_in b ++ rest → sent_of new ≡ (sent_of old ++ packets_in b) ++ rest
handed old mid new a b before packets block rest had out behind is =
    let own = sent_of old in
    out ∙ (ap (λ v. v ++ packets) had ∙ (append_assoc (own ++ packets_in a) before packets ∙ (ap (λ v. (own ++ packets_in a) ++ v) (sym behind)
    ∙ (append_assoc own (packets_in a) block ∙ (ap (λ v. own ++ v) is ∙ sym (append_assoc own (packets_in b) rest))))))

pub hands_some : (old mid new : StationValue) (a b : List (List (List ℕ))) (before packets block rest : List (List ℕ)) → HandsAllBut old mid a before → IsSameRun mid new → sent_of new ≡ sent_of mid ++ packets
    → block ≡ before ++ packets → packets_in a ++ block ≡ packets_in b ++ rest → HandsSome old new b
hands_some old mid new a b before packets block rest had same out behind is = record {
  same = same_same old mid new had.same same;
  rest = rest;
  sent = handed old mid new a b before packets block rest had.sent out behind is;
}

pub hands_all_but : (old mid new : StationValue) (a b : List (List (List ℕ))) (before packets block rest left : List (List ℕ)) → HandsAllBut old mid a before → IsSameRun mid new → sent_of new ≡ sent_of mid ++ packets
    → block ≡ before ++ packets → packets_in a ++ block ≡ packets_in b ++ rest → rest ≡ left → HandsAllBut old new b left
hands_all_but old mid new a b before packets block rest left had same out behind is left_is = record {
  same = same_same old mid new had.same same;
  sent = handed old mid new a b before packets block rest had.sent out behind is ∙ ap (λ v. (sent_of old ++ packets_in b) ++ v) left_is;
}

-- What came out of the relay is what went into it, or a beginning.

packets_behind : (xs ys : List (List (List ℕ))) → packets_in (xs ++ ys) ≡ packets_in xs ++ packets_in ys
packets_behind xs ys = flat_map-append (λ (x : List (List ℕ)). x) xs ys

-- what is said of a finished sender is so of what came out of its relay, and what is left in it
at_left : (P : SenderValue → Type 0) (receiver : ReceiverValue) (finished : FinishedValue) (count : ℕ) → P finished.sender → (left : IsLeft receiver finished count) → P (record { relay = receiver.relay; sent = receiver.received ++ left.rest })
at_left P receiver finished count said left = subst P left.sender said

pub received_some : (old new : StationValue) (relay : RelayId) (finished : FinishedValue) (receiver : ReceiverValue) (count : ℕ) → IsHandedOn old new relay finished → IsLeft receiver finished count → HandsSome old new receiver.received
received_some old new relay finished receiver count handed left =
    let some = at_left (λ v. HandsSome old new v.sent) receiver finished count handed.some left in
    let blocks = packets_behind receiver.received left.rest in
    let own = sent_of old in
    let came = packets_in receiver.received in
    let lost = packets_in left.rest in
    record {
      same = some.same;
      rest = lost ++ some.rest;
      sent = some.sent ∙ (ap (λ v. (own ++ v) ++ some.rest) blocks ∙ (ap (λ v. v ++ some.rest) (sym (append_assoc own came lost)) ∙ append_assoc (own ++ came) lost some.rest));
    }

pub received_all : (old new : StationValue) (relay : RelayId) (finished : FinishedValue) (receiver : ReceiverValue) (count : ℕ) → IsHandedOn old new relay finished → IsLeft receiver finished count
    → receiver.is_ended ≡ true → HandsAll old new receiver.received × IsOver new.history.run new.history.events
received_all old new relay finished receiver count handed left ended =
    let marked = left.marked ended in
    let all = at_left (λ v. HandsAll old new v.sent) receiver finished count (handed.all marked.0) left in
    let items = ap (λ v. receiver.received ++ v) marked.1 ∙ append-nil receiver.received in
    (record { same = all.same; sent = all.sent ∙ ap (λ v. sent_of old ++ packets_in v) items }, handed.over marked.0)

not_nil : {X : Type 0} (x : X) (xs : List X) → x ∷ xs ≡ [] → ⊥
not_nil x xs e = cc

nothing_in : {X : Type 0} (xs ys : List X) → xs ++ ys ≡ [] → xs ≡ []
nothing_in [] ys is = refl
nothing_in (x ∷ xs) ys is = absurd (not_nil x (xs ++ ys) is)

-- a sender that sent nothing
pub received_none : (s : StationValue) (sender : SenderValue) (finished : FinishedValue) (receiver : ReceiverValue) (count : ℕ) → finished.sender ≡ sender → sender.sent ≡ [] → IsLeft receiver finished count
    → HandsAll s s receiver.received
received_none s sender finished receiver count said unsent left =
    let is = at_left (λ v. v ≡ sender) receiver finished count said left in
    hands_nothing s receiver.received (nothing_in receiver.received left.rest (ap (λ (p : SenderValue). p.sent) is ∙ unsent))

-- the sender sent all, and the end mark or not
pub ends_handing : (old new : StationValue) (relay : RelayId) (sender : SenderValue) (finished : FinishedValue) → finished.sender ≡ sender → sender.relay ≡ relay → HandsAll old new sender.sent → IsOver new.history.run new.history.events
    → IsHandedOn old new relay finished
ends_handing old new relay sender finished said same all over =
    let A : SenderValue → Type 0 = λ v. HandsAll old new v.sent in
    let S : SenderValue → Type 0 = λ v. HandsSome old new v.sent in
    record {
      relay_is = ap (λ (v : SenderValue). v.relay) said ∙ same;
      some = subst S (sym said) (all_some old new sender.sent all);
      all = λ ended. subst A (sym said) all;
      over = λ ended. over;
    }

-- the run was over before
pub cuts_handing : (old new : StationValue) (relay : RelayId) (sender : SenderValue) (finished : FinishedValue) → finished.sender ≡ sender → sender.relay ≡ relay → HandsSome old new sender.sent → finished.is_ended ≡ false
    → IsHandedOn old new relay finished
cuts_handing old new relay sender finished said same some unmarked =
    let S : SenderValue → Type 0 = λ v. HandsSome old new v.sent in
    record {
      relay_is = ap (λ (v : SenderValue). v.relay) said ∙ same;
      some = subst S (sym said) some;
      all = λ ended. absurd (false≢true (sym unmarked ∙ ended));
      over = λ ended. absurd (false≢true (sym unmarked ∙ ended));
    }

-- the sender and the receiver are of one relay
pub one_relay : (old new : StationValue) (relay : RelayId) (finished : FinishedValue) (receiver : ReceiverValue) → IsHandedOn old new relay finished → receiver.relay ≡ relay → finished.sender.relay ≡ receiver.relay
one_relay old new relay finished receiver handed same = handed.relay_is ∙ sym same

-- What was handed on was written, or a beginning of it.

appended_on : (first before after : Option (List ℕ)) (given waiting more : List ℕ) → Sends first before given waiting → Appends before after (waiting ++ more) → Appends first after (given ++ more)
appended_on first before after given waiting more sends appended =
    let all = sends_on first before after given waiting more [] sends (waiting ++ more, appended, sym (append-nil (waiting ++ more))) in
    let A : List ℕ → Type 0 = Appends first after in
    subst A (sym (all.2 ∙ append-nil all.0)) all.1

-- what a relay gave from its beginning
pub taken_is : {W T : Type 0} (contents : W → Option (List ℕ)) (failures : W → ℕ) (old : ReceiverValue) (a : Outlet W) (new : ReceiverValue) (b : Outlet W) (r : Result T RunFault) (w : IsWritten contents failures old a new b r)
    → old.received ≡ [] → new.received ≡ w.taken
taken_is contents failures old a new b r w none = w.received ∙ ap (λ v. v ++ w.taken) none

sent_bytes : (s : StationValue) (out more : List (List ℕ)) → sent_of s ≡ out ++ more → output_of s.history ≡ bytes_of out ++ bytes_of more
sent_bytes s out more is = ap bytes_of is ∙ bytes_behind out more

pub is_driven : {W T : Type 0} (contents : W → Option (List ℕ)) (failures : W → ℕ) (x y : StationValue) (old : ReceiverValue) (a : Outlet W) (new : ReceiverValue) (b : Outlet W) (r : Result T RunFault)
    → IsWritten contents failures old a new b r → old.received ≡ [] → (new.is_ended ≡ true → HandsAll x y new.received × IsOver y.history.run y.history.events)
    → OnOk r (IsDriven x y a.output b.output (contents a.sink) (contents b.sink))
is_driven contents failures x y old a new b (Ok done) w none whole =
    let all = whole w.ended in
    let q = x.history.run.schedule.first.request in
    let taken = taken_is contents failures old a new b (Ok done) w none in
    let out : sent_of y ≡ sent_of x ++ packets_in w.taken = all.0.sent ∙ ap (λ v. sent_of x ++ packets_in v) taken in
    let P : List (List ℕ) → Type 0 = HasAnalysed b.output q.rate q.watch in
    let R : Run → Type 0 = λ v. HasAnalysed b.output v.schedule.first.request.rate v.schedule.first.request.watch (sent_of y) in
    record {
      same = all.0.same;
      over = all.1;
      analysed = λ is. subst R (sym all.0.same.run) (subst P (sym out) (w.analysed q.rate q.watch (sent_of x) is));
      written = λ first is.
          (let A : List ℕ → Type 0 = Appends first (contents b.sink) in
          subst A (sym (sent_bytes y (sent_of x) (packets_in w.taken) out))
          (appended_on first (contents a.sink) (contents b.sink) (output_of x.history) a.output.writer (bytes_of (packets_in w.taken)) is w.written));
    }
is_driven contents failures x y old a new b (Err fault) w none whole = tt

begun_either : {W T : Type 0} (contents : W → Option (List ℕ)) (failures : W → ℕ) (old : ReceiverValue) (a : Outlet W) (new : ReceiverValue) (b : Outlet W) (r : Result T RunFault) (w : IsWritten contents failures old a new b r)
    → SendsBeginning (contents a.sink) (contents b.sink) (a.output.writer ++ bytes_of (packets_in w.taken))
begun_either contents failures old a new b (Ok done) w = all_begun (contents a.sink) (contents b.sink) (a.output.writer ++ bytes_of (packets_in w.taken)) w.written
begun_either contents failures old a new b (Err fault) w = w.begun

pub is_broken : {W T : Type 0} (contents : W → Option (List ℕ)) (failures : W → ℕ) (x y : StationValue) (old : ReceiverValue) (a : Outlet W) (new : ReceiverValue) (b : Outlet W) (r : Result T RunFault)
    → IsWritten contents failures old a new b r → old.received ≡ [] → HandsSome x y new.received → BreaksOff x y a.output (contents a.sink) (contents b.sink)
is_broken contents failures x y old a new b r w none some =
    let part = begun_either contents failures old a new b r w in
    let taken = taken_is contents failures old a new b r w none in
    let out : sent_of y ≡ (sent_of x ++ packets_in w.taken) ++ some.rest = some.sent ∙ ap (λ v. (sent_of x ++ packets_in v) ++ some.rest) taken in
    let given = bytes_of (packets_in w.taken) in
    let bytes = sent_bytes y (sent_of x ++ packets_in w.taken) some.rest out ∙ ap (λ v. v ++ bytes_of some.rest) (bytes_behind (sent_of x) (packets_in w.taken)) in
    record {
      same = some.same;
      begun = λ first is.
          (let S : List ℕ → Type 0 = SendsBeginning first (contents b.sink) in
          let sent = sends_on first (contents a.sink) (contents b.sink) (output_of x.history) a.output.writer given part.0 is part.1 in
          subst S (sym bytes) (beginning_on first (contents b.sink) (output_of x.history ++ given) (bytes_of some.rest) (part.0, sent)));
    }
