-- Steps of a station, one behind the other.
use Rattle.std.proofs.Common.{ℕ, zero, suc, ◌+◌, ◌≡◌, ◌≢◌, ◌⊎◌, Bool, true, false, List, [], ◌∷◌, ◌++◌, length, set, slice_get, Option, Some, None, refl, ap, sym, subst, ◌∙◌, arith, inl, inr, append-nil, append_assoc, if◌then◌else◌}
use Rattle.std.proofs.lemmas.List.{set-get_or}
use Rattle.std.proofs.lemmas.Option.{same_Some, get_or_from_slice_get}
use Rattle.schedule.specs.Schedule.{ScheduleValue}
use Rattle.mux.specs.declared.event.Event.{Event}
use Rattle.mux.specs.declared.event.Event.TheVariants.{Took, Close, Switch}
use Rattle.tspkt.specs.declared.stamped.Stamped.{Stamped}
use Rattle.mux.specs.History.{History, with_event, emitted, in_force, is_closed, full_noted, early_noted}
use Rattle.mux.specs.Lawful.{is_ready}
use Rattle.mux.specs.Answers.{SendAnswers, SlotAnswers, SendsOn}
use Rattle.mux.specs.declared.sending.Sending.{Sending}
use Rattle.mux.specs.declared.sending.Sending.TheVariants as sending
use Rattle.mux.specs.declared.slot.Slot.TheVariants as slot
use Rattle.inlets.specs.declared.taking.Taking.{Taking}
use Rattle.inlets.specs.declared.taking.Taking.TheVariants as turn
use Rattle.inlets.specs.declared.step.Step.{Step}
use Rattle.inlets.specs.declared.step.Step.TheVariants as steps
use Rattle.inlets.specs.Stepping.{HasTurn}
use Rattle.inlets.specs.Stepping as inlets
use Rattle.inlets.proofs.StepLaws.{unready_open}
use Rattle.port.specs.declared.arrival_kind.ArrivalKind.{ArrivalKind}
use Rattle.port.specs.Rings.{RingEndValue}
use Rattle.port.specs.Advancing.{Shows}
use Rattle.station.specs.Stations.{Input, StationValue, IsLawfulInput, IsLawfulStation, rings_of}
use Rattle.station.specs.Moving.{TakesNext, ComesUntaken, EndsBy, Ending, Nothing, Mark, HeldBack, IsHeldBack}
use Rattle.station.specs.Advancing.{IsStep, Steps, IsStuck}
use Rattle.inlets.proofs.EventLaws.{emitted_same}
use Rattle.inlets.proofs.NoteLaws.{IsOneOf, put_off_one}
use Rattle.station.proofs.StationLaws.{ends_ring, lawful_sent, lawful_set}
use Rattle.station.proofs.TakingLaws.{ComesOf, Turned, turned}

-- A turn of an input, and a step, over rings' ends.
abbrev pub RingHasTurn : ℕ → History → List Input → Taking → History → List Input → Type 0
RingHasTurn = HasTurn (λ (e : RingEndValue). e.head) (λ (e : RingEndValue). e.is_ended ≡ true) (λ (e : RingEndValue). e.is_ended ≡ false) (λ (s : ScheduleValue) (a b : RingEndValue). (kind : Option ArrivalKind) × Shows a kind b) (λ (e : RingEndValue). record e { head = None })

abbrev pub RingSteps : History → List Input → Step → History → List Input → Type 0
RingSteps = inlets.Steps (λ (e : RingEndValue). e.head) (λ (e : RingEndValue). e.is_ended ≡ true) (λ (e : RingEndValue). e.is_ended ≡ false) (λ (s : ScheduleValue) (a b : RingEndValue). (kind : Option ArrivalKind) × Shows a kind b) (λ (e : RingEndValue). record e { head = None })

-- what comes of the turn of an input that the multiplex waits for
had : (h new : History) (xs ys : List Input) (i : ℕ) (answer : Taking) → IsLawfulStation h xs → (t : RingHasTurn i h xs answer new ys) → Turned i h t.before answer new t.after
had h new xs ys i answer lawful t =
    let own = lawful.each i t.before t.there in
    turned i h t.before answer new t.after (own.closed ∙ unready_open h.run.schedule i h.events t.unready.unready) own t.turns

-- something of it was taken, or ends the taking
pulled : (i : ℕ) (h : History) (x : Input) (answer : Taking) (new : History) (y : Input) → answer ≢ turn.Waits → ComesOf i h x answer new y → TakesNext i h x new y ⊎ ComesUntaken i h x new y
pulled i h x turn.Took new y seen is = inl is
pulled i h x turn.HeldBack new y seen is = inr is
pulled i h x turn.Closed new y seen is = inr is
pulled i h x turn.Waits new y seen is = absurd (seen refl)

-- One step.

step_sent : (h new : History) (xs ys : List Input) (packet : List ℕ) → ys ≡ xs → SlotAnswers h (slot.Sent packet) new
    → IsStep (record { history = h; inputs = xs }) (record { history = new; inputs = ys }) (packet ∷ [])
step_sent h new xs ys packet same answer = inl (packet, refl, record { slot = answer; inputs = same })

step_turned : (h new : History) (xs ys : List Input) (i : ℕ) (answer : Taking) → answer ≢ turn.Waits → IsLawfulStation h xs → RingHasTurn i h xs answer new ys
    → IsStep (record { history = h; inputs = xs }) (record { history = new; inputs = ys }) []
step_turned h new xs ys i answer seen lawful t =
    let w = had h new xs ys i answer lawful t in
    inr (inr (i, refl, record { running = t.running; unswitched = t.unswitched; unready = t.unready; before = t.before; after = t.after; input = t.there; inputs = t.entries; pulled = pulled i h t.before answer new t.after seen w.comes }))

pub lawful_turned : (h new : History) (xs ys : List Input) (i : ℕ) (answer : Taking) → new.run ≡ h.run → IsLawfulStation h xs → RingHasTurn i h xs answer new ys → IsLawfulStation new ys
lawful_turned h new xs ys i answer run lawful t =
    let w = had h new xs ys i answer lawful t in
    let P : List Input → Type 0 = IsLawfulStation new in
    subst P (sym t.entries) (lawful_set h new xs i t.after run lawful w.others w.lawful)

-- nothing was sent
step_unsent : (h new : History) (xs ys : List Input) (answer : Step) → (answer ≡ steps.Switched) ⊎ (answer ≡ steps.Turned) → IsLawfulStation h xs → RingSteps h xs answer new ys
    → IsStep (record { history = h; inputs = xs }) (record { history = new; inputs = ys }) []
step_unsent h new xs ys answer (inl e) lawful is =
    let P : Step → Type 0 = λ v. RingSteps h xs v new ys in
    let s = subst P e is in
    inr (inl (refl, record { switch = s.0; inputs = s.1 }))
step_unsent h new xs ys answer (inr e) lawful is =
    let P : Step → Type 0 = λ v. RingSteps h xs v new ys in
    let t = subst P e is in
    step_turned h new xs ys t.0 t.1 t.2 lawful t.3

lawful_unsent : (h new : History) (xs ys : List Input) (answer : Step) → (answer ≡ steps.Switched) ⊎ (answer ≡ steps.Turned) → new.run ≡ h.run → IsLawfulStation h xs → RingSteps h xs answer new ys → IsLawfulStation new ys
lawful_unsent h new xs ys answer (inl e) run lawful is =
    let P : Step → Type 0 = λ v. RingSteps h xs v new ys in
    let s = subst P e is in
    let L : List Input → Type 0 = IsLawfulStation new in
    subst L (sym s.1) (lawful_sent h new sending.Switched xs s.0 lawful)
lawful_unsent h new xs ys answer (inr e) run lawful is =
    let P : Step → Type 0 = λ v. RingSteps h xs v new ys in
    let t = subst P e is in
    lawful_turned h new xs ys t.0 t.1 run lawful t.3

not_sent : (answer : Step) → (answer ≡ steps.Switched) ⊎ (answer ≡ steps.Turned) → answer ≢ steps.Sent
not_sent answer (inl e) s = cc (e, s)
not_sent answer (inr e) s = cc (e, s)

-- a step, and what stands behind what was there
pub stepped : (h new : History) (xs ys : List Input) (answer : Step) (before after : List (List ℕ)) → (answer ≡ steps.Sent) ⊎ ((answer ≡ steps.Switched) ⊎ (answer ≡ steps.Turned)) → IsLawfulStation h xs → RingSteps h xs answer new ys
    → (answer ≡ steps.Sent → SendsOn h new before after) → (answer ≢ steps.Sent → after ≡ before)
    → (packets : List (List ℕ)) × (after ≡ before ++ packets) × IsStep (record { history = h; inputs = xs }) (record { history = new; inputs = ys }) packets
stepped h new xs ys answer before after (inl e) lawful is sent unsent =
    let P : Step → Type 0 = λ v. RingSteps h xs v new ys in
    let s = subst P e is in
    let out = sent e in
    (out.packet ∷ [], out.behind, step_sent h new xs ys out.packet s.1 out.slot)
stepped h new xs ys answer before after (inr e) lawful is sent unsent =
    ([], unsent (not_sent answer e) ∙ sym (append-nil before), step_unsent h new xs ys answer e lawful is)

pub lawful_stepped : (h new : History) (xs ys : List Input) (answer : Step) → (answer ≡ steps.Sent) ⊎ ((answer ≡ steps.Switched) ⊎ (answer ≡ steps.Turned)) → new.run ≡ h.run → IsLawfulStation h xs → RingSteps h xs answer new ys → IsLawfulStation new ys
lawful_stepped h new xs ys answer (inl e) run lawful is =
    let P : Step → Type 0 = λ v. RingSteps h xs v new ys in
    let s = subst P e is in
    let L : List Input → Type 0 = IsLawfulStation new in
    subst L (sym s.1) (lawful_sent h new sending.Sent xs s.0 lawful)
lawful_stepped h new xs ys answer (inr e) run lawful is = lawful_unsent h new xs ys answer e run lawful is

-- No step.

pub stuck_other : (h new : History) (xs : List Input) (answer : Sending) → SendAnswers h answer new → new ≡ h → ((i : ℕ) → answer ≡ sending.NotReady i → ⊥) → IsStuck answer (record { history = new; inputs = xs })
stuck_other h new xs answer is same other =
    let P : History → Type 0 = λ v. SendAnswers v answer new in
    record { answers = subst P (sym same) is; unheld = λ i x e at. absurd (other i e) }

-- nothing is seen of the input for which the multiplex waits
pub waits_on : (h new : History) (xs ys : List Input) (i : ℕ) → IsLawfulStation h xs → RingHasTurn i h xs turn.Waits new ys
    → (new ≡ h) × (ys ≡ xs) × IsStuck (sending.NotReady i) (record { history = new; inputs = ys })
waits_on h new xs ys i lawful t =
    let none = (had h new xs ys i turn.Waits lawful t).comes in
    let x = t.before in
    let stays : ys ≡ xs = t.entries ∙ (ap (set xs i) (none.2 ∙ sym (get_or_from_slice_get xs i x x t.there)) ∙ set-get_or xs i x) in
    let P : History → Type 0 = λ v. SendAnswers v (sending.NotReady i) v in
    let here : SendAnswers h (sending.NotReady i) h = (refl, t.running, t.unswitched, t.unready) in (
      none.1,
      stays,
      record {
        answers = subst P (sym none.1) here;
        unheld = λ j y e at.
            (let n : i ≡ j = cc in
            let there : slice_get xs i ≡ Some y = sym (ap (λ v. slice_get v i) stays) ∙ (ap (slice_get ys) n ∙ at) in
            let both : x ≡ y = same_Some x y (sym t.there ∙ there) in
            ap (λ (v : Input). v.inlet.head) (sym both) ∙ none.0);
      },
    )

-- Rings, run and packets over many steps.

rings_set : (xs : List Input) (i : ℕ) (x y : Input) → slice_get xs i ≡ Some x → y.inlet.ring ≡ x.inlet.ring → rings_of (set xs i y) ≡ rings_of xs
rings_set [] i x y at same = refl
rings_set (z ∷ xs) zero x y at same =
    let here : z ≡ x = cc in
    let ring : y.inlet.ring ≡ z.inlet.ring = same ∙ ap (λ (v : Input). v.inlet.ring) (sym here) in
    ap (λ r. r ∷ rings_of xs) ring
rings_set (z ∷ xs) (suc i) x y at same = ap (λ rs. z.inlet.ring ∷ rs) (rings_set xs i x y at same)

pulled_ring : (i : ℕ) (a : History) (x : Input) (b : History) (y : Input) → (TakesNext i a x b y ⊎ ComesUntaken i a x b y) → y.inlet.ring ≡ x.inlet.ring
pulled_ring i a x b y (inl takes) = ap (λ (v : Input). v.inlet.ring) takes.entry
pulled_ring i a x b y (inr ends) = ends_ring i a x b y ends.0 ends.2

pub step_rings : (old new : StationValue) (packets : List (List ℕ)) → IsStep old new packets → rings_of new.inputs ≡ rings_of old.inputs
step_rings old new packets (inl sent) = ap rings_of sent.2.inputs
step_rings old new packets (inr (inl switch)) = ap rings_of switch.1.inputs
step_rings old new packets (inr (inr pull)) =
    let p = pull.2 in
    ap rings_of p.inputs ∙ rings_set old.inputs pull.0 p.before p.after p.input (pulled_ring pull.0 old.history p.before new.history p.after p.pulled)

pub steps_rings : (n : ℕ) (old new : StationValue) (packets : List (List ℕ)) → Steps n old new packets → rings_of new.inputs ≡ rings_of old.inputs
steps_rings zero old new packets is = ap (λ (s : StationValue). rings_of s.inputs) is.0
steps_rings (suc n) old new packets is = step_rings is.0 new is.2 is.4 ∙ steps_rings n old is.0 is.1 is.3

-- one step more
pub steps_on : (n : ℕ) (old between new : StationValue) (earlier last packets : List (List ℕ)) → Steps n old between earlier → IsStep between new last → packets ≡ earlier ++ last → Steps (n + 1) old new packets
steps_on n old between new earlier last packets steps step same =
    let P : ℕ → Type 0 = λ k. Steps k old new packets in
    let more : suc n ≡ n + 1 = omega arith in
    subst P more (between, earlier, last, steps, step, same)

-- The run, and what went out.

-- it is the same run, and these packets went out between them
pub record Emits (a b : History) (packets : List (List ℕ)) : Type 0 where
  pub run : b.run ≡ a.run
  pub out : emitted b.run.schedule b.events ≡ emitted a.run.schedule a.events ++ packets

pub silent : (a b : History) → b ≡ a → Emits a b []
silent a b e = record {
  run = ap (λ (h : History). h.run) e;
  out = ap (λ (h : History). emitted h.run.schedule h.events) e ∙ sym (append-nil (emitted a.run.schedule a.events));
}

-- an event that sends nothing
pub unsent : (a b : History) (e : Event) → emitted a.run.schedule (e ∷ a.events) ≡ emitted a.run.schedule a.events → b ≡ with_event a e → Emits a b []
unsent a b e same is = record {
  run = ap (λ (h : History). h.run) is;
  out = ap (λ (h : History). emitted h.run.schedule h.events) is ∙ (same ∙ sym (append-nil (emitted a.run.schedule a.events)));
}

one_emits : (i : ℕ) (a b : History) → IsOneOf i a b → Emits a b []
one_emits i a b (inl same) = silent a b same
one_emits i a b (inr one) = unsent a b one.0 (emitted_same a.run.schedule i one.0 a.events one.2) one.1

held_back : (i : ℕ) (a b : History) (item : Stamped) (is_closed : Bool) → IsHeldBack i a item b is_closed → Emits a b []
held_back i a b item true is = unsent a b (Close i) refl is.1
held_back i a b item false is = one_emits i a b (put_off_one i a b item is)

pub ends_emits : (i : ℕ) (a : History) (x : Input) (b : History) (y : Input) (ending : Ending) → EndsBy i a x b y ending → Emits a b []
ends_emits i a x b y Nothing is = silent a b is.1
ends_emits i a x b y Mark is = unsent a b (Close i) refl is.1
ends_emits i a x b y (HeldBack item came) is = held_back i a b item y.is_closed is.1

pulled_emits : (i : ℕ) (a : History) (x : Input) (b : History) (y : Input) → (TakesNext i a x b y ⊎ ComesUntaken i a x b y) → Emits a b []
pulled_emits i a x b y (inl takes) = unsent a b (Took i takes.item) refl takes.history
pulled_emits i a x b y (inr ends) = ends_emits i a x b y ends.0 ends.2

slot_emits : (a b : History) (packet : List ℕ) → SlotAnswers a (slot.Sent packet) b → Emits a b (packet ∷ [])
slot_emits a b packet answer =
    let sent = answer.1.2 in
    record {
      run = ap (λ (h : History). h.run) sent.0;
      out = ap (λ (h : History). emitted h.run.schedule h.events) sent.0 ∙ ap (λ (q : List ℕ). emitted a.run.schedule a.events ++ q ∷ []) (sym sent.1);
    }

pub step_emits : (old new : StationValue) (packets : List (List ℕ)) → IsStep old new packets → Emits old.history new.history packets
step_emits old new packets (inl sent) =
    let P : List (List ℕ) → Type 0 = Emits old.history new.history in
    subst P (sym sent.1) (slot_emits old.history new.history sent.0 sent.2.slot)
step_emits old new packets (inr (inl switch)) =
    let P : List (List ℕ) → Type 0 = Emits old.history new.history in
    subst P (sym switch.0) (unsent old.history new.history (Switch (in_force old.history.events + 1)) refl switch.1.switch.2)
step_emits old new packets (inr (inr pull)) =
    let P : List (List ℕ) → Type 0 = Emits old.history new.history in
    let p = pull.2 in
    subst P (sym pull.1) (pulled_emits pull.0 old.history p.before new.history p.after p.pulled)

pub steps_emit : (n : ℕ) (old new : StationValue) (packets : List (List ℕ)) → Steps n old new packets → Emits old.history new.history packets
steps_emit zero old new packets is =
    let P : List (List ℕ) → Type 0 = Emits old.history new.history in
    subst P (sym is.1) (silent old.history new.history (ap (λ (s : StationValue). s.history) is.0))
steps_emit (suc n) old new packets is =
    let mid = is.0.history in
    let first = steps_emit n old is.0 is.1 is.3 in
    let last = step_emits is.0 new is.2 is.4 in
    let out = emitted old.history.run.schedule old.history.events in
    record {
      run = last.run ∙ first.run;
      out = last.out ∙ (ap (λ v. v ++ is.2) first.out ∙ (append_assoc out is.1 is.2 ∙ ap (λ v. out ++ v) (sym is.5)));
    }
