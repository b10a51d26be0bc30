-- A run, step by step.
use Rattle.std.proofs.Common.{ℕ, zero, suc, ◌+◌, ◌-◌, ◌*◌, ◌<◌, ◌≤◌, ◌≡◌, if◌then◌else◌, ◌||◌, Bool, true, List, [], ◌∷◌, ◌++◌, length, set, get_or, Option, Some, refl, ap, ◌∙◌, sym, subst, arith, inl, inr}
use Rattle.std.specs.List.{slice_get, range_with_len, sum_by}
use Rattle.std.proofs.lemmas.Bool.{cases_eq, ne_eqb}
use Rattle.std.proofs.lemmas.List.{length-set, append-nil}
use Rattle.std.proofs.lemmas.Grind.{flat_map-append}
use Rattle.std.proofs.Math.Nat.{suc-mul}
use Rattle.std.proofs.lemmas.Option.{same_Some, slice_get-get_or}
use Rattle.std.proofs.lemmas.List.Sums.{sum_by-cons}
use Rattle.schedule.specs.Schedule.{ScheduleValue}
use Rattle.mux.specs.declared.event.Event.{Event}
use Rattle.mux.specs.declared.event.Event.TheVariants.{Took, Full, Early, Close, Slot, Switch}
use Rattle.mux.specs.declared.content.Content.{Content}
use Rattle.mux.specs.History.{Run, History, in_force, slots, emitted, packet_behind, taken, is_closed, full_noted, early_noted}
use Rattle.mux.specs.declared.slot.Slot.TheVariants.{Sent}
use Rattle.mux.specs.declared.sending.Sending.{Sending}
use Rattle.mux.specs.declared.sending.Sending.TheVariants as sending
use Rattle.mux.specs.Answers.{SlotAnswers, SendAnswers}
use Rattle.mux.proofs.Force.{due_is}
use Rattle.tspkt.specs.declared.stamped.Stamped.{Stamped}
use Rattle.serial.specs.Feeding.{SerialInput, HasGiven, Feeds, AreLimited, turns_left}
use Rattle.inlets.specs.Notes.{IsOfInput}
use Rattle.inlets.proofs.EventLaws.{of_input, slot_spares, switch_spares}
use Rattle.inlets.proofs.NoteLaws.{notes_spared}
use Rattle.outcome.specs.Taking.{TakesAsNeeded}
use Rattle.serial.specs.Running.{AreFed, IsRunning, steps_left}
use Rattle.outlet.specs.Sending.{bytes_of, HasAnalysed}
use Rattle.outlet.specs.Written.{Sends, SendsBeginning}
use Rattle.reading.specs.Takeable.{EndsAtTaken}
use Rattle.reading.specs.declared.input_limit.InputLimit.{InputLimit}
use Rattle.tspkt.specs.declared.framer.TheConstants.{MAX_LIMIT}
use Rattle.std.proofs.Common.{false}
use Rattle.outlet.specs.declared.slot_writer.SlotWriter.{SlotWriter}
use Rattle.serial.specs.declared.serial_run.SerialRun.{SerialRun}
use Rattle.outcome.proofs.WrittenLaws.{sends_on}
use Rattle.serial.proofs.FeedingLaws.{taken_other}

pub slots_same : (i : ℕ) (e : Event) (h : List Event) → IsOfInput i e → slots (e ∷ h) ≡ slots h
slots_same i (Took j item) h is = refl
slots_same i (Full j st) h is = refl
slots_same i (Early j) h is = refl
slots_same i (Switch number) h is = absurd is
slots_same i (Close j) h is = refl
slots_same i (Slot c) h is = absurd is

pub force_same : (i : ℕ) (e : Event) (h : List Event) → IsOfInput i e → in_force (e ∷ h) ≡ in_force h
force_same i (Took j item) h is = refl
force_same i (Full j st) h is = refl
force_same i (Early j) h is = refl
force_same i (Close j) h is = refl
force_same i (Slot c) h is = absurd is
force_same i (Switch number) h is = absurd is

-- a slot takes nothing of an input
pub fed_slot : {R : Type 0} (remaining : R → Option (List ℕ)) (p : ScheduleValue) (h : List Event) (c : Content) (starts : List (Option (List ℕ))) (inputs : List (SerialInput R))
    → AreFed remaining p h starts inputs → AreFed remaining p (Slot c ∷ h) starts inputs
fed_slot remaining p h c starts inputs fed = record {
  count = fed.count;
  each = λ i x at.
      let f = fed.each i x at in
      (f.0, f.1, record { given = record { origin = f.2.given.origin; limit = f.2.given.limit; read = f.2.given.read }; closed = f.2.closed; over = f.2.over; own = f.2.own; stands = f.2.stands; notes = notes_spared p i x.inlet.held h (Slot c) (slot_spares i h c) f.2.notes });
}

-- nor does a switch
pub fed_switch : {R : Type 0} (remaining : R → Option (List ℕ)) (p : ScheduleValue) (h : List Event) (number : ℕ) (starts : List (Option (List ℕ))) (inputs : List (SerialInput R))
    → AreFed remaining p h starts inputs → AreFed remaining p (Switch number ∷ h) starts inputs
fed_switch remaining p h number starts inputs fed = record {
  count = fed.count;
  each = λ i x at.
      let f = fed.each i x at in
      (f.0, f.1, record { given = record { origin = f.2.given.origin; limit = f.2.given.limit; read = f.2.given.read }; closed = f.2.closed; over = f.2.over; own = f.2.own; stands = f.2.stands; notes = notes_spared p i x.inlet.held h (Switch number) (switch_spares i h number) f.2.notes });
}

-- an input goes on, and the others stay
pub feeds_other : {R : Type 0} (remaining : R → Option (List ℕ)) (p : ScheduleValue) (i j : ℕ) (e : Event) (h : List Event) (start : Option (List ℕ)) (x : SerialInput R)
    → IsOfInput i e → (i ≡ j → ⊥) → Feeds remaining p h j start x → Feeds remaining p (e ∷ h) j start x
feeds_other {R} remaining p i j e h start x is ne f =
    let P : List Stamped → Type 0 = λ xs. (g : HasGiven remaining p j start x xs) × (x.is_closed ≡ false → EndsAtTaken p x.inlet.origin g.read.2.0) in
    let spares = of_input i j e h is (λ same. ne (sym same)) in
    let same = subst P (sym spares.taken_is) (f.given, f.stands) in
    record {
      given = same.0;
      closed = f.closed ∙ sym spares.closed_is;
      over = f.over;
      own = f.own;
      stands = same.1;
      notes = notes_spared p j x.inlet.held h e spares f.notes;
    }

-- Sums over the inputs.

sum_outside : (f g : ℕ → ℕ) (i start n : ℕ) → ((j : ℕ) → (i ≡ j → ⊥) → g j ≡ f j) → i < start → sum_by g (range_with_len start n) ≡ sum_by f (range_with_len start n)
sum_outside f g i start zero same l = refl
sum_outside f g i start (suc n) same l =
    let rest = sum_outside f g i (start + 1) n same (omega (arith, l)) in
    let here = same start (λ e. absurd (omega (arith, l, e))) in
    omega (arith, rest, here, sum_by-cons f start (range_with_len (start + 1) n), sum_by-cons g start (range_with_len (start + 1) n))

pub sum_less : (f g : ℕ → ℕ) (i start n : ℕ) → ((j : ℕ) → (i ≡ j → ⊥) → g j ≡ f j) → g i < f i → start ≤ i → i < start + n → sum_by g (range_with_len start n) < sum_by f (range_with_len start n)
sum_less f g i start zero same less from to = absurd (omega (arith, from, to))
sum_less f g i start (suc n) same less from to =
    let cf = sum_by-cons f start (range_with_len (start + 1) n) in
    let cg = sum_by-cons g start (range_with_len (start + 1) n) in
    elim (cases_eq i start) [
      | inl e ↦
          (let rest = sum_outside f g i (start + 1) n same (omega (arith, e)) in
          let P : ℕ → Type 0 = λ k. g k < f k in
          let here = subst P e less in
          omega (arith, rest, here, cf, cg))
      | inr ne ↦
          (let rest = sum_less f g i (start + 1) n same less (omega (arith, from, ne)) (omega (arith, to)) in
          let here = same start ne in
          omega (arith, rest, here, cf, cg))
    ]

pub sum_more : (f g : ℕ → ℕ) (start n : ℕ) → ((j : ℕ) → g j ≤ f j + 2) → sum_by g (range_with_len start n) ≤ sum_by f (range_with_len start n) + 2 * n
sum_more f g start zero each = omega arith
sum_more f g start (suc n) each =
    let rest = sum_more f g (start + 1) n each in
    let here = each start in
    omega (arith, rest, here, sum_by-cons f start (range_with_len (start + 1) n), sum_by-cons g start (range_with_len (start + 1) n))

-- An input in its list.

pub set_here : {X : Type 0} (xs : List X) (i : ℕ) (y : X) → i < length xs → slice_get (set xs i y) i ≡ Some y
set_here [] i y l = absurd (omega (arith, l))
set_here (x ∷ xs) zero y l = refl
set_here (x ∷ xs) (suc i) y l = set_here xs i y (omega (arith, l))

pub set_there : {X : Type 0} (xs : List X) (i j : ℕ) (y : X) → (i ≡ j → ⊥) → slice_get (set xs i y) j ≡ slice_get xs j
set_there [] i j y ne = refl
set_there (x ∷ xs) zero zero y ne = absurd (ne refl)
set_there (x ∷ xs) zero (suc j) y ne = refl
set_there (x ∷ xs) (suc i) zero y ne = refl
set_there (x ∷ xs) (suc i) (suc j) y ne = set_there xs i j y (λ e. ne (ap suc e))

-- input i goes on by an event, and the others stay
pub fed_input : {R : Type 0} (remaining : R → Option (List ℕ)) (p : ScheduleValue) (h : List Event) (e : Event) (i : ℕ) (starts : List (Option (List ℕ))) (inputs : List (SerialInput R)) (x y : SerialInput R)
    → x ≡ get_or inputs i x → i < length p.first.request.inputs → IsOfInput i e → AreFed remaining p h starts inputs
    → ((start : Option (List ℕ)) → Feeds remaining p h i start x → Feeds remaining p (e ∷ h) i start y) → AreFed remaining p (e ∷ h) starts (set inputs i y)
fed_input remaining p h e i starts inputs x y at l is fed goes = record {
  count = length-set inputs i y ∙ fed.count;
  each = λ j z there.
      elim (cases_eq i j) [
        | inl same ↦
            (let within : i < length inputs = omega (arith, l, fed.count) in
            let here : slice_get inputs i ≡ Some x = slice_get-get_or inputs i x within ∙ ap Some (sym at) in
            let f = fed.each i x here in
            let new : y ≡ z = same_Some y z (sym (set_here inputs i y within) ∙ ap (slice_get (set inputs i y)) same ∙ there) in
            let P : ℕ → Type 0 = λ k. (start : Option (List ℕ)) × (slice_get starts k ≡ Some start) × Feeds remaining p (e ∷ h) k start z in
            let Q : SerialInput _ → Type 0 = Feeds remaining p (e ∷ h) i f.0 in
            subst P same (f.0, f.1, subst Q new (goes f.0 f.2)))
        | inr ne ↦
            (let f = fed.each j z (sym (set_there inputs i j y ne) ∙ there) in
            (f.0, f.1, feeds_other remaining p i j e h f.0 z is ne f.2))
      ];
}

-- The steps that are left.

-- how often the multiplex may still turn to an input, by what it has of it
abbrev turns_by : (count : ℕ) (closed full early : Bool) → ℕ
turns_by count closed full early = MAX_LIMIT - count + (if closed then 0 else 1) + (if full then 0 else 1) + (if early then 0 else 1)

other_turns : (i j : ℕ) (e : Event) (h : List Event) → IsOfInput i e → (i ≡ j → ⊥) → turns_left j (e ∷ h) ≡ turns_left j h
other_turns i j (Took k item) h is ne = ap (λ (xs : List Stamped). turns_by (length xs) (is_closed j h) (full_noted j h) (early_noted j h)) (taken_other i j (Took k item) h is ne)
other_turns i j (Full k st) h is ne = ap (λ b. turns_by (length (taken j h)) (is_closed j h) (b || full_noted j h) (early_noted j h)) (ne_eqb k j (λ same. ne (sym is ∙ same)))
other_turns i j (Early k) h is ne = ap (λ b. turns_by (length (taken j h)) (is_closed j h) (full_noted j h) (b || early_noted j h)) (ne_eqb k j (λ same. ne (sym is ∙ same)))
other_turns i j (Close k) h is ne = ap (λ b. turns_by (length (taken j h)) (b || is_closed j h) (full_noted j h) (early_noted j h)) (ne_eqb k j (λ same. ne (sym is ∙ same)))
other_turns i j (Slot c) h is ne = absurd is
other_turns i j (Switch number) h is ne = absurd is

-- slots and plans that may still come
abbrev spans_left : Run → ℕ → ℕ → ℕ
spans_left run m number = run.limit - m + (length run.schedule.later - number)

pub fewer_by_input : (run : Run) (h : List Event) (e : Event) (i : ℕ) → i < length run.schedule.first.request.inputs → IsOfInput i e → turns_left i (e ∷ h) < turns_left i h
    → steps_left run (e ∷ h) < steps_left run h
fewer_by_input run h e i l is less =
    let n = length run.schedule.first.request.inputs in
    let sums = sum_less (λ j. turns_left j h) (λ j. turns_left j (e ∷ h)) i 0 n (λ j ne. other_turns i j e h is ne) less (omega arith) (omega (arith, l)) in
    let P : ℕ → Type 0 = λ m. spans_left run m (in_force (e ∷ h)) * (2 * n + 1) + sum_by (λ j. turns_left j (e ∷ h)) (range_with_len 0 n) < steps_left run h in
    let Q : ℕ → Type 0 = λ number. spans_left run (slots h) number * (2 * n + 1) + sum_by (λ j. turns_left j (e ∷ h)) (range_with_len 0 n) < steps_left run h in
    subst P (sym (slots_same i e h is)) (subst Q (sym (force_same i e h is)) (omega (arith, sums)))

anew : (full early : Bool) (count : ℕ) (closed : Bool) → turns_by count closed false false ≤ turns_by count closed full early + 2
anew true true count closed = omega arith
anew true false count closed = omega arith
anew false true count closed = omega arith
anew false false count closed = omega arith

-- a slot, or a switch, lets each input be noted twice more
slot_turns : (c : Content) (h : List Event) (j : ℕ) → turns_left j (Slot c ∷ h) ≤ turns_left j h + 2
slot_turns c h j = anew (full_noted j h) (early_noted j h) (length (taken j h)) (is_closed j h)

switch_turns : (number : ℕ) (h : List Event) (j : ℕ) → turns_left j (Switch number ∷ h) ≤ turns_left j h + 2
switch_turns number h j = anew (full_noted j h) (early_noted j h) (length (taken j h)) (is_closed j h)

one_row : (m n : ℕ) → 0 < m → (m - 1) * (n + 1) + (n + 1) ≡ m * (n + 1)
one_row zero n l = absurd (omega (arith, l))
one_row (suc m) n l =
    let less : suc m - 1 ≡ m = omega arith in
    ap (λ k. k * (n + 1) + (n + 1)) less ∙ sym (suc-mul m (n + 1))

pub fewer_by_slot : (run : Run) (h : List Event) (c : Content) → slots h < run.limit → steps_left run (Slot c ∷ h) < steps_left run h
fewer_by_slot run h c within =
    let n = length run.schedule.first.request.inputs in
    let number = in_force h in
    let sums = sum_more (λ j. turns_left j h) (λ j. turns_left j (Slot c ∷ h)) 0 n (slot_turns c h) in
    let row = one_row (spans_left run (slots h) (in_force h)) (2 * n) (omega (arith, within)) in
    let less : spans_left run (slots h + 1) (in_force h) ≡ spans_left run (slots h) (in_force h) - 1 = omega (arith, within) in
    let P : ℕ → Type 0 = λ m. m * (2 * n + 1) + sum_by (λ j. turns_left j (Slot c ∷ h)) (range_with_len 0 n) < steps_left run h in
    subst P (sym less) (omega (arith, sums, row))

pub fewer_by_switch : (run : Run) (h : List Event) (number : ℕ) → number ≡ in_force h + 1 → number ≤ length run.schedule.later → steps_left run (Switch number ∷ h) < steps_left run h
fewer_by_switch run h number next within =
    let n = length run.schedule.first.request.inputs in
    let sums = sum_more (λ j. turns_left j h) (λ j. turns_left j (Switch number ∷ h)) 0 n (switch_turns number h) in
    let row = one_row (spans_left run (slots h) (in_force h)) (2 * n) (omega (arith, next, within)) in
    let less : spans_left run (slots h) number ≡ spans_left run (slots h) (in_force h) - 1 = omega (arith, next, within) in
    let P : ℕ → Type 0 = λ m. m * (2 * n + 1) + sum_by (λ j. turns_left j (Switch number ∷ h)) (range_with_len 0 n) < steps_left run h in
    subst P (sym less) (omega (arith, sums, row))

-- The next plan comes into force.

-- what that leaves: the event, and nothing that went out
pub record IsSwitched (p : ScheduleValue) (old new : History) : Type 0 where
  pub number : ℕ
  pub next : number ≡ in_force old.events + 1
  pub within : number ≤ length p.later
  pub events : new.events ≡ Switch number ∷ old.events
  pub out : emitted p new.events ≡ emitted p old.events

pub is_switched : (p : ScheduleValue) (old new : History) → old.run.schedule ≡ p → SendAnswers old sending.Switched new → IsSwitched p old new
is_switched p old new schedule answer =
    let due = due_is old.run.schedule old.events answer.1 in
    let number = in_force old.events + 1 in
    let events : new.events ≡ Switch number ∷ old.events = ap (λ (v : History). v.events) answer.2 in
    record {
      number = number;
      next = refl;
      within = omega (arith, due.0, ap (λ (v : ScheduleValue). length v.later) schedule);
      events = events;
      out = ap (emitted p) events;
    }

pub fewer_switched : (old new : History) → SendAnswers old sending.Switched new → steps_left old.run new.events < steps_left old.run old.events
fewer_switched old new answer =
    let switched = is_switched old.run.schedule old new refl answer in
    let P : List Event → Type 0 = λ h. steps_left old.run h < steps_left old.run old.events in
    subst P (sym switched.events) (fewer_by_switch old.run old.events switched.number switched.next switched.within)

-- A slot is sent.

-- what it leaves: the event, and the packet that went out
record IsSent (p : ScheduleValue) (old new : History) (packet : List ℕ) : Type 0 where
  content : Content
  events : new.events ≡ Slot content ∷ old.events
  out : emitted p new.events ≡ emitted p old.events ++ packet ∷ []

is_sent : (p : ScheduleValue) (old new : History) (packet : List ℕ) → old.run.schedule ≡ p → SlotAnswers old (Sent packet) new → IsSent p old new packet
is_sent p old new packet schedule answer =
    let sent = answer.1 in
    let c = sent.0 in
    let h = old.events in
    let events : new.events ≡ Slot c ∷ h = ap (λ (v : History). v.events) sent.2.0 in
    let packet_is : packet ≡ packet_behind p h (emitted p h) c = sent.2.1 ∙ ap (λ q. packet_behind q h (emitted q h) c) schedule in
    record {
      content = c;
      events = events;
      out = ap (emitted p) events ∙ ap (λ q. emitted p h ++ q ∷ []) (sym packet_is);
    }

pub runs_sent : {R : Type 0} (remaining : R → Option (List ℕ)) (run : Run) (limit : InputLimit) (starts : List (Option (List ℕ))) (old new : SerialRun R) (packet : List ℕ)
    → IsRunning remaining run limit starts old → SlotAnswers old.mux (Sent packet) new.mux → new.mux.run ≡ old.mux.run → new.inputs.items ≡ old.inputs.items → 0 < length new.piece.items
    → ((rate period : ℕ) (sent : List (List ℕ)) → HasAnalysed old.output rate period sent → HasAnalysed new.output rate period (sent ++ packet ∷ []))
    → IsRunning remaining run limit starts new
runs_sent {R} remaining run limit starts old new packet is answer same inputs piece analysed =
    let p = run.schedule in
    let sent = is_sent p old.mux new.mux packet (ap (λ (v : Run). v.schedule) is.run_is) answer in
    let F : List Event → Type 0 = λ h. AreFed remaining p h starts old.inputs.items in
    let G : List (SerialInput R) → Type 0 = λ xs. AreFed remaining p new.mux.events starts xs × AreLimited limit p xs in
    let A : List (List ℕ) → Type 0 = HasAnalysed new.output p.first.request.rate p.first.request.watch in
    let kept = subst G (sym inputs) (subst F (sym sent.events) (fed_slot remaining p old.mux.events sent.content starts old.inputs.items is.fed), is.limited) in
    record {
      run_is = same ∙ is.run_is;
      fed = kept.0;
      limited = kept.1;
      piece = piece;
      needed = subst (TakesAsNeeded run) (sym sent.events) (tt, is.needed);
      analysed = subst A (sym sent.out) (analysed p.first.request.rate p.first.request.watch (emitted p old.mux.events) is.analysed);
    }

pub fewer_sent : (old new : History) (packet : List ℕ) → SlotAnswers old (Sent packet) new → steps_left old.run new.events < steps_left old.run old.events
fewer_sent old new packet answer =
    let sent = is_sent old.run.schedule old new packet refl answer in
    let P : List Event → Type 0 = λ h. steps_left old.run h < steps_left old.run old.events in
    subst P (sym sent.events) (fewer_by_slot old.run old.events sent.content answer.0.within)

bytes_push : (packets : List (List ℕ)) (packet : List ℕ) → bytes_of (packets ++ packet ∷ []) ≡ bytes_of packets ++ packet
bytes_push packets packet =
    flat_map-append (λ (q : List ℕ). q) packets (packet ∷ []) ∙ ap (λ v. bytes_of packets ++ v) (append-nil packet)

pub written_sent : (p : ScheduleValue) (old new : History) (packet : List ℕ) (before a b : Option (List ℕ)) (waiting now : List ℕ) → old.run.schedule ≡ p → SlotAnswers old (Sent packet) new
    → Sends before a (bytes_of (emitted p old.events)) waiting → Sends a b (waiting ++ packet) now → Sends before b (bytes_of (emitted p new.events)) now
written_sent p old new packet before a b waiting now schedule answer first second =
    let sent = is_sent p old new packet schedule answer in
    let P : List ℕ → Type 0 = λ v. Sends before b v now in
    subst P (sym (ap bytes_of sent.out ∙ bytes_push (emitted p old.events) packet))
    (sends_on before a b (bytes_of (emitted p old.events)) waiting packet now first second)

-- A run that ends with a fault.

-- what a slot leaves of the inputs
pub fed_sent : {R : Type 0} (remaining : R → Option (List ℕ)) (p : ScheduleValue) (old new : History) (packet : List ℕ) (starts : List (Option (List ℕ))) (inputs : List (SerialInput R))
    → SlotAnswers old (Sent packet) new → AreFed remaining p old.events starts inputs → AreFed remaining p new.events starts inputs
fed_sent remaining p old new packet starts inputs answer fed =
    let sent = is_sent old.run.schedule old new packet refl answer in
    let P : List Event → Type 0 = λ h. AreFed remaining p h starts inputs in
    subst P (sym sent.events) (fed_slot remaining p old.events sent.content starts inputs fed)

pub needed_sent : (run : Run) (old new : History) (packet : List ℕ) → SlotAnswers old (Sent packet) new → TakesAsNeeded run old.events → TakesAsNeeded run new.events
needed_sent run old new packet answer is =
    let sent = is_sent old.run.schedule old new packet refl answer in
    subst (TakesAsNeeded run) (sym sent.events) (tt, is)

-- what went out is a beginning
pub sent_begun : (p : ScheduleValue) (old new : History) (packet : List ℕ) (before a b : Option (List ℕ)) (waiting : List ℕ) → old.run.schedule ≡ p → SlotAnswers old (Sent packet) new
    → Sends before a (bytes_of (emitted p old.events)) waiting → SendsBeginning a b (waiting ++ packet) → SendsBeginning before b (bytes_of (emitted p new.events))
sent_begun p old new packet before a b waiting schedule answer first second = (second.0, written_sent p old new packet before a b waiting second.0 schedule answer first second.1)

-- where no slot is sent nothing changes
pub unsent_stays : (old : History) (answer : Sending) (new : History) → (answer ≡ sending.Sent → ⊥) → (answer ≡ sending.Switched → ⊥) → SendAnswers old answer new → new ≡ old
unsent_stays old sending.Sent new unsent unswitched is = absurd (unsent refl)
unsent_stays old sending.Switched new unsent unswitched is = absurd (unswitched refl)
unsent_stays old (sending.NotReady i) new unsent unswitched is = is.0
unsent_stays old sending.Done new unsent unswitched is = is.0
unsent_stays old sending.RunFull new unsent unswitched is = is.0

-- The buffer is written at the end.

pub runs_flushed : {R : Type 0} (remaining : R → Option (List ℕ)) (run : Run) (limit : InputLimit) (starts : List (Option (List ℕ))) (old : SerialRun R) (output : SlotWriter)
    → IsRunning remaining run limit starts old → output ≡ record old.output { writer = [] } → IsRunning remaining run limit starts (record old { output = output })
runs_flushed remaining run limit starts old output is same =
    let p = run.schedule in
    let O : SlotWriter → Type 0 = λ w. HasAnalysed w p.first.request.rate p.first.request.watch (emitted p old.mux.events) in
    let a = is.analysed in
    record {
      run_is = is.run_is;
      fed = is.fed;
      limited = is.limited;
      piece = is.piece;
      needed = is.needed;
      analysed = subst O (sym same) (record { seen = a.seen; rate_is = a.rate_is; period_is = a.period_is; faults_are = a.faults_are; reported = a.reported });
    }
