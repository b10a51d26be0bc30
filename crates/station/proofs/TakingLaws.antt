-- What comes of an input's turn.
use Rattle.std.proofs.Common.{ℕ, ◌≡◌, Bool, true, false, List, [], ◌∷◌, ◌++◌, Option, Some, None, ◌⊎◌, refl, ap, sym, subst, ◌∙◌, append-nil, inl, inr}
use Rattle.std.specs.Prelude.{IsSome}
use Rattle.std.specs.Option.{option_to_list}
use Rattle.std.proofs.lemmas.Option.{same_Some}
use Rattle.tspkt.specs.declared.stamped.Stamped.{Stamped}
use Rattle.schedule.specs.Schedule.{ScheduleValue}
use Rattle.mux.specs.declared.event.Event.TheVariants.{Took, Close}
use Rattle.mux.specs.History.{History, with_event}
use Rattle.port.specs.declared.arrival_kind.ArrivalKind.{ArrivalKind}
use Rattle.port.specs.declared.arrival_kind.ArrivalKind.TheVariants.{Packet, End}
use Rattle.port.specs.Rings.{RingEndValue}
use Rattle.port.specs.Advancing.{Shows}
use Rattle.inlets.specs.Turns.{Turns}
use Rattle.inlets.specs.declared.taking.Taking.{Taking}
use Rattle.inlets.specs.declared.taking.Taking.TheVariants as turn
use Rattle.station.specs.Stations.{Input, IsLawfulInput, LeavesOthers}
use Rattle.station.specs.Moving.{TakesNext, IsHeldBack, ComesUntaken, EndsTaking, Ending, Nothing, Mark, HeldBack}
use Rattle.inlets.proofs.NoteLaws.{turned_one}
use Rattle.station.proofs.InputLaws.{came, took, held, ended, refused, others_one}

-- the same of equal values
lawful_at : (i : ℕ) (h new : History) (x y : Input) → new ≡ h → y ≡ x → IsLawfulInput h i x → IsLawfulInput new i y
lawful_at i h new x y same same' old = subst (λ (z : History × Input). IsLawfulInput z.0 i z.1) (λ k. (sym same k, sym same' k)) old

-- What a look shows.

shown_some : (a b : RingEndValue) → Shows a (Some Packet) b → IsSome b.head
shown_some a b (inl still) = subst IsSome (ap (λ (v : RingEndValue). v.head) (sym still.1)) still.0
shown_some a b (inr new) = subst IsSome (ap (λ (v : RingEndValue). v.head) (sym new.2.1)) refl

unshown : (a b : RingEndValue) → b.head ≡ None → Shows a (Some Packet) b → ⊥
unshown a b none shows = let bad : false ≡ true = subst IsSome none (shown_some a b shows) in cc

packet_shown : (a b : RingEndValue) (item : Stamped) (kind : Option ArrivalKind) → b.head ≡ Some item → Shows a kind b → Shows a (Some Packet) b
packet_shown a b item (Some Packet) head shows = shows
packet_shown a b item (Some End) head shows = absurd (let none : b.head ≡ None = ap (λ (v : RingEndValue). v.head) shows.2 ∙ shows.0 in cc)
packet_shown a b item None head shows = absurd (let none : b.head ≡ None = ap (λ (v : RingEndValue). v.head) shows.1 ∙ shows.0 in cc)

over_shown : (a b : RingEndValue) (kind : Option ArrivalKind) → b.head ≡ None → b.is_ended ≡ true → Shows a kind b → (a.head ≡ None) × (b ≡ record a { is_ended = true })
over_shown a b (Some Packet) none over shows = absurd (unshown a b none shows)
over_shown a b (Some End) none over shows = (shows.0, shows.2)
over_shown a b None none over shows =
    let ended' : a.is_ended ≡ true = ap (λ (v : RingEndValue). v.is_ended) (sym shows.1) ∙ over in
    (shows.0, shows.1 ∙ (λ k. record a { is_ended = ended' k }))

waits_shown : (a b : RingEndValue) (kind : Option ArrivalKind) → b.head ≡ None → b.is_ended ≡ false → Shows a kind b → (a.head ≡ None) × (b ≡ a)
waits_shown a b (Some Packet) none going shows = absurd (unshown a b none shows)
waits_shown a b (Some End) none going shows = absurd (let over : b.is_ended ≡ true = ap (λ (v : RingEndValue). v.is_ended) shows.2 in cc)
waits_shown a b None none going shows = shows

-- a packet is shown, and the input is lawful still
shown_lawful : (h : History) (i : ℕ) (x : Input) (e : RingEndValue) → Shows x.inlet (Some Packet) e → x.is_closed ≡ false → IsLawfulInput h i x → IsLawfulInput h i (record x { inlet = e })
shown_lawful h i x e (inl still) opened old = lawful_at i h h x (record x { inlet = e }) refl (λ k. record x { inlet = still.1 k }) old
shown_lawful h i x e (inr new) opened old =
    let item = new.2.0 in
    lawful_at i h h (record x { inlet = record x.inlet { received = x.inlet.received ++ item ∷ []; head = Some item } }) (record x { inlet = e }) refl
    (λ k. record x { inlet = new.2.1 k }) (came h i x item new.0 opened old)

-- What came out of the ring with a look that shows this packet: nothing where it was shown before, else the packet.
record Comes (a b : RingEndValue) (item : Stamped) : Type 0 where
  came : List Stamped
  next : option_to_list a.head ++ came ≡ item ∷ []
  is : b ≡ record a { received = a.received ++ came; head = Some item }

comes : (a b : RingEndValue) (item : Stamped) → Shows a (Some Packet) b → b.head ≡ Some item → Comes a b item
comes a b item (inl still) head =
    let own : a.head ≡ Some item = ap (λ (v : RingEndValue). v.head) (sym still.1) ∙ head in
    record {
      came = [];
      next = append-nil (option_to_list a.head) ∙ ap option_to_list own;
      is = still.1 ∙ (λ k. record a { received = sym (append-nil a.received) k; head = own k });
    }
comes a b item (inr new) head =
    let own = new.2.0 in
    let same : own ≡ item = same_Some own item (ap (λ (v : RingEndValue). v.head) (sym new.2.1) ∙ head) in
    record {
      came = own ∷ [];
      next = ap (λ (o : Option Stamped). option_to_list o ++ own ∷ []) new.0 ∙ ap (λ v. v ∷ []) same;
      is = new.2.1 ∙ (λ k. record a { received = a.received ++ own ∷ []; head = Some (same k) });
    }

-- What comes of a turn, by its answer.

mark_came : Mark ≡ Nothing → ⊥
mark_came e = cc

item_came : (item : Stamped) (came : List Stamped) → HeldBack item came ≡ Nothing → ⊥
item_came item came e = cc

-- the packet that is shown is taken
takes_shown : (i : ℕ) (h : History) (x : Input) (e : RingEndValue) (new : History) (y : Input) (item : Stamped) → x.is_closed ≡ false → Shows x.inlet (Some Packet) e → e.head ≡ Some item
    → new ≡ with_event h (Took i item) → y ≡ record x { inlet = record e { head = None } } → TakesNext i h x new y
takes_shown i h x e new y item opened shows head history is =
    let c = comes x.inlet e item shows head in
    record {
      item = item;
      came = c.came;
      history = history;
      next = c.next;
      entry = is
          ∙ (ap (λ (v : RingEndValue). let z : Input = record x { inlet = record v { head = None } } in z) c.is
          ∙ (λ k. record { inlet = record x.inlet { received = x.inlet.received ++ c.came; head = None }; is_closed = opened k }));
    }

-- the packet that is shown is held back
ends_shown : (i : ℕ) (h : History) (x : Input) (e : RingEndValue) (new : History) (y : Input) (item : Stamped) (closed : Bool) → Shows x.inlet (Some Packet) e → e.head ≡ Some item → IsHeldBack i h item new closed
    → y ≡ record { inlet = e; is_closed = closed } → ComesUntaken i h x new y
ends_shown i h x e new y item closed shows head back is =
    let c = comes x.inlet e item shows head in
    let shut : closed ≡ y.is_closed = ap (λ (v : Input). v.is_closed) (sym is) in
    let B : Bool → Type 0 = IsHeldBack i h item new in
    (HeldBack item c.came, (λ e. item_came item c.came e), (c.next, subst B shut back, is ∙ (λ k. record { inlet = c.is k; is_closed = shut k })))

-- By the answer: the next packet was taken, or something came that wasn't taken, or nothing did.
abbrev pub ComesOf : ℕ → History → Input → Taking → History → Input → Type 0
ComesOf i h x turn.Took new y = TakesNext i h x new y
ComesOf i h x turn.HeldBack new y = ComesUntaken i h x new y
ComesOf i h x turn.Closed new y = ComesUntaken i h x new y
ComesOf i h x turn.Waits new y = (x.inlet.head ≡ None) × (new ≡ h) × (y ≡ x)

pub record Turned (i : ℕ) (h : History) (x : Input) (answer : Taking) (new : History) (y : Input) : Type 0 where
  pub comes : ComesOf i h x answer new y
  pub lawful : IsLawfulInput new i y
  pub others : LeavesOthers i h new

-- a turn of a ring's end
abbrev pub RingTurns : ℕ → History → Input → Taking → History → Input → Type 0
RingTurns = Turns (λ (e : RingEndValue). e.head) (λ (e : RingEndValue). e.is_ended ≡ true) (λ (e : RingEndValue). e.is_ended ≡ false) (λ (s : ScheduleValue) (a b : RingEndValue). (kind : Option ArrivalKind) × Shows a kind b) (λ (e : RingEndValue). record e { head = None })

comes_of : (i : ℕ) (h : History) (x : Input) (answer : Taking) (new : History) (y : Input) → x.is_closed ≡ false → RingTurns i h x answer new y → ComesOf i h x answer new y
comes_of i h x turn.Took new y opened (e, look, stays, (item, head, history, is)) = takes_shown i h x e new y item opened (packet_shown x.inlet e item look.0 head look.1) head history is
comes_of i h x turn.HeldBack new y opened (e, look, stays, (item, head, back, is)) =
    ends_shown i h x e new y item false (packet_shown x.inlet e item look.0 head look.1) head back (is ∙ (λ k. record { inlet = e; is_closed = opened k }))
comes_of i h x turn.Closed new y opened (e, look, stays, ((inl (item, head, bad)), history, is)) = ends_shown i h x e new y item true (packet_shown x.inlet e item look.0 head look.1) head (bad, history) is
comes_of i h x turn.Closed new y opened (e, look, stays, ((inr (over, none)), history, is)) =
    let mark = over_shown x.inlet e look.0 none over look.1 in
    (Mark, (λ e. mark_came e), (mark.0, history, is ∙ (λ k. record { inlet = mark.1 k; is_closed = true })))
comes_of i h x turn.Waits new y opened (e, look, stays, (going, none, history, is)) =
    let nothing = waits_shown x.inlet e look.0 none going look.1 in
    (nothing.0, history, is ∙ (λ k. record x { inlet = nothing.1 k }))

lawful_of : (i : ℕ) (h : History) (x : Input) (answer : Taking) (new : History) (y : Input) → x.is_closed ≡ false → IsLawfulInput h i x → RingTurns i h x answer new y → IsLawfulInput new i y
lawful_of i h x turn.Took new y opened old (e, look, stays, (item, head, history, is)) =
    lawful_at i (with_event h (Took i item)) new (record x { inlet = record e { head = None } }) y history is
    (took h i (record x { inlet = e }) item head opened (shown_lawful h i x e (packet_shown x.inlet e item look.0 head look.1) opened old))
lawful_of i h x turn.HeldBack new y opened old (e, look, stays, (item, head, back, is)) =
    lawful_at i new new (record x { inlet = e }) y refl is (held h i (record x { inlet = e }) item new head opened back (shown_lawful h i x e (packet_shown x.inlet e item look.0 head look.1) opened old))
lawful_of i h x turn.Closed new y opened old (e, look, stays, ((inl (item, head, bad)), history, is)) =
    lawful_at i (with_event h (Close i)) new (record { inlet = e; is_closed = true }) y history is
    (refused h i (record x { inlet = e }) item head bad (shown_lawful h i x e (packet_shown x.inlet e item look.0 head look.1) opened old))
lawful_of i h x turn.Closed new y opened old (e, look, stays, ((inr (over, none)), history, is)) =
    let mark = over_shown x.inlet e look.0 none over look.1 in
    lawful_at i (with_event h (Close i)) new (record { inlet = record x.inlet { is_ended = true }; is_closed = true }) y history (is ∙ (λ k. record { inlet = mark.1 k; is_closed = true })) (ended h i x mark.0 old)
lawful_of i h x turn.Waits new y opened old (e, look, stays, (going, none, history, is)) =
    let nothing = waits_shown x.inlet e look.0 none going look.1 in
    lawful_at i h new x y history (is ∙ (λ k. record x { inlet = nothing.1 k })) old

pub turned : (i : ℕ) (h : History) (x : Input) (answer : Taking) (new : History) (y : Input) → x.is_closed ≡ false → IsLawfulInput h i x → RingTurns i h x answer new y → Turned i h x answer new y
turned i h x answer new y opened old turns = record {
  comes = comes_of i h x answer new y opened turns;
  lawful = lawful_of i h x answer new y opened old turns;
  others = others_one i h new (turned_one (λ (e : RingEndValue). e.head) (λ (e : RingEndValue). e.is_ended ≡ true) (λ (e : RingEndValue). e.is_ended ≡ false) (λ (e : RingEndValue). record e { head = None }) i h (record x { inlet = turns.0 }) answer new y turns.3);
}

-- nothing more was taken
pub untaken : (i : ℕ) (h : History) (x : Input) (answer : Taking) (new : History) (y : Input) → (answer ≡ turn.HeldBack) ⊎ (answer ≡ turn.Closed) ⊎ (answer ≡ turn.Waits) → ComesOf i h x answer new y → EndsTaking i h x new y
untaken i h x answer new y (inl e) is = let P : Taking → Type 0 = λ v. ComesOf i h x v new y in (let u = subst P e is in (u.0, u.2))
untaken i h x answer new y (inr (inl e)) is = let P : Taking → Type 0 = λ v. ComesOf i h x v new y in (let u = subst P e is in (u.0, u.2))
untaken i h x answer new y (inr (inr e)) is = let P : Taking → Type 0 = λ v. ComesOf i h x v new y in (Nothing, subst P e is)
