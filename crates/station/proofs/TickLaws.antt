-- What a tick of a station sends.
use Rattle.std.proofs.Common.{ℕ, suc, ◌+◌, ◌≤◌, ◌≡◌, ◌≢◌, Bool, true, false, List, [], ◌∷◌, ◌++◌, MatchBool, refl, ap, sym, subst, ◌∙◌, inl, inr, append_assoc, append-nil, length, arith}
use Rattle.tspkt.specs.declared.stamped.Stamped.{Stamped}
use Rattle.mux.specs.declared.event.Event.TheVariants.{Took, Switch}
use Rattle.mux.specs.declared.sending.Sending.{Sending}
use Rattle.mux.specs.declared.sending.Sending.TheVariants as sending
use Rattle.mux.specs.History.{History, with_event, in_force, emitted}
use Rattle.mux.specs.Answers.{SendAnswers, SendsOn}
use Rattle.station.specs.Stations.{Input, StationValue}
use Rattle.station.specs.Moving.{with_taken, MovesIn}
use Rattle.station.specs.Ticking.{MovesAll}
use Rattle.station.proofs.AdvancingLaws.{Emits, silent, unsent, ends_emits}

emits_on : (a b c : History) (xs ys : List (List ℕ)) → Emits a b xs → Emits b c ys → Emits a c (xs ++ ys)
emits_on a b c xs ys first next = record {
  run = next.run ∙ first.run;
  out = next.out ∙ (ap (λ v. v ++ ys) first.out ∙ append_assoc (emitted a.run.schedule a.events) xs ys);
}

taken_emits : (i : ℕ) (items : List Stamped) (a : History) → Emits a (with_taken i items a) []
taken_emits i [] a = silent a a refl
taken_emits i (item ∷ items) a =
    let b = with_event a (Took i item) in
    emits_on a b (with_taken i items b) [] [] (unsent a b (Took i item) refl refl) (taken_emits i items b)

moves_emit : (i most : ℕ) (a : History) (x : Input) (b : History) (y : Input) (closed : Bool) → MatchBool closed ((b ≡ a) × (y ≡ x)) (MovesIn i most a x b y) → Emits a b []
moves_emit i most a x b y true is = silent a b is.0
moves_emit i most a x b y false m =
    let P : History → Type 0 = λ v. Emits a v [] in
    let took : Emits a m.between [] = subst P (sym m.takes.history) (taken_emits i m.takes.items a) in
    elim m.ends [
      | inl ending ↦ emits_on a m.between b [] [] took (ends_emits i m.between m.last b y ending.0 ending.1)
      | inr most_taken ↦ emits_on a m.between b [] [] took (silent m.between b most_taken.1)
    ]

all_emit : (i most : ℕ) (a : History) (xs : List Input) (b : History) (ys : List Input) → MovesAll i most a xs b ys → Emits a b []
all_emit i most a [] b ys is = silent a b is.0
all_emit i most a (x ∷ xs) b ys is = emits_on a is.0 b [] [] (moves_emit i most a x is.0 is.1 x.is_closed is.4) (all_emit (suc i) most is.0 xs b is.2 is.5)

unsent_emits : (a b : History) (answer : Sending) → SendAnswers a answer b → answer ≢ sending.Sent → Emits a b []
unsent_emits a b sending.Done is not_sent = silent a b is.0
unsent_emits a b sending.RunFull is not_sent = silent a b is.0
unsent_emits a b (sending.NotReady i) is not_sent = silent a b is.0
unsent_emits a b sending.Switched is not_sent = unsent a b (Switch (in_force a.events + 1)) refl is.2
unsent_emits a b sending.Sent is not_sent = absurd (not_sent refl)

-- what the next slot sends, what stands behind what was there, and what room is left
abbrev SentBehind : History → History → List (List ℕ) → List (List ℕ) → ℕ → ℕ → Type 0
SentBehind a b before after room left = (packets : List (List ℕ)) × (after ≡ before ++ packets) × Emits a b packets × (room ≤ left + length packets)

nothing_behind : (a b : History) (answer : Sending) (before after : List (List ℕ)) (room left : ℕ) → SendAnswers a answer b → answer ≢ sending.Sent → (answer ≢ sending.Sent → (after ≡ before) × (left ≡ room)) → SentBehind a b before after room left
nothing_behind a b answer before after room left is other unsent =
    let same = unsent other in
    let stays = same.1 in
    ([], same.0 ∙ sym (append-nil before), unsent_emits a b answer is other, omega arith)

sends_behind : (a b : History) (answer : Sending) (before after : List (List ℕ)) (room left : ℕ) → SendAnswers a answer b → (answer ≡ sending.Sent → SendsOn a b before after) → room ≤ left + 1 → (answer ≢ sending.Sent → (after ≡ before) × (left ≡ room))
    → SentBehind a b before after room left
sends_behind a b sending.Sent before after room left is sent one unsent =
    let s = sent refl in
    let slot = s.slot.1 in
    let e = slot.2.0 in (
      s.packet ∷ [],
      s.behind,
      record {
        run = ap (λ (h : History). h.run) e;
        out = ap (λ (h : History). emitted h.run.schedule h.events) e ∙ ap (λ q. emitted a.run.schedule a.events ++ q ∷ []) (sym slot.2.1);
      },
      one,
    )
sends_behind a b sending.Done before after room left is sent one unsent = nothing_behind a b sending.Done before after room left is (λ e. cc) unsent
sends_behind a b sending.RunFull before after room left is sent one unsent = nothing_behind a b sending.RunFull before after room left is (λ e. cc) unsent
sends_behind a b (sending.NotReady i) before after room left is sent one unsent = nothing_behind a b (sending.NotReady i) before after room left is (λ e. cc) unsent
sends_behind a b sending.Switched before after room left is sent one unsent = nothing_behind a b sending.Switched before after room left is (λ e. cc) unsent

pub tick_emits : (old : StationValue) (between : History) (answer : Sending) (new : StationValue) (ring : ℕ) (before after : List (List ℕ)) (room left : ℕ) → MovesAll 0 ring old.history old.inputs between new.inputs → SendAnswers between answer new.history
    → (answer ≡ sending.Sent → SendsOn between new.history before after) → room ≤ left + 1 → (answer ≢ sending.Sent → (after ≡ before) × (left ≡ room))
    → (packets : List (List ℕ)) × (after ≡ before ++ packets) × (emitted new.history.run.schedule new.history.events ≡ emitted old.history.run.schedule old.history.events ++ packets) × (room ≤ left + length packets)
tick_emits old between answer new ring before after room left moves is sent one unsent =
    let moved = all_emit 0 ring old.history old.inputs between new.inputs moves in
    let s = sends_behind between new.history answer before after room left is sent one unsent in
    (s.0, s.1, (emits_on old.history between new.history [] s.0 moved s.2).out, s.3)
