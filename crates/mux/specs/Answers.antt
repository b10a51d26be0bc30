-- What `offer`, `take`, `send_next` and `slot` answer, and the history that they leave (profile).
use Rattle.std.specs.Prelude.{ℕ, List, [], ◌∷◌, ◌++◌, ◌≡◌, ◌+◌, ◌<◌, ◌≤◌, ◌⊎◌, true, false, IsTrue, if◌then◌else◌, length, Some, None, Contains}
use Rattle.tspkt.specs.declared.stamped.Stamped.{Stamped}
use Rattle.request.specs.declared.stream.Stream.{Stream}
use Rattle.mux.specs.declared.event.Event.TheVariants as events
use Rattle.mux.specs.declared.content.Content.{Content}
use Rattle.mux.specs.declared.offered.Offered.{Offered}
use Rattle.mux.specs.declared.offered.Offered.TheVariants as offered
use Rattle.mux.specs.declared.taken.Taken.{Taken}
use Rattle.mux.specs.declared.taken.Taken.TheVariants as taken
use Rattle.mux.specs.declared.sending.Sending.{Sending}
use Rattle.mux.specs.declared.sending.Sending.TheVariants as sending
use Rattle.mux.specs.declared.slot.Slot.{Slot}
use Rattle.mux.specs.declared.slot.Slot.TheVariants as slot
use Rattle.mux.specs.History.{History, with_event, in_force, plan_in_force, is_mapped_to, full_noted, early_noted, slots, emitted, packet_behind}
use Rattle.mux.specs.Lawful.{Closed, Stranger, Backward, Early, Full, refusal_of, IsDone, AllReady, is_ready, is_switch_due, MaySend}

-- The queue of the item's stream is full: that is noted, but once for an input since the last slot or switch.
abbrev pub NotesFull : History → ℕ → Stamped → History → Type 0
NotesFull h i item new =
    (st : Stream) × Contains (plan_in_force h.run.schedule h.events).request.streams st × (is_mapped_to h.run.schedule st i item ≡ true)
    × (new ≡ (if full_noted i h.events then h else with_event h (events.Full i st)))

-- The item belongs to a later plan: that is noted, but once for an input since the last slot or switch.
abbrev pub NotesEarly : History → ℕ → History → Type 0
NotesEarly h i new = new ≡ (if early_noted i h.events then h else with_event h (events.Early i))

-- what `offer` answers and leaves: the first reason against the item
abbrev pub OfferAnswers : History → ℕ → Stamped → Offered → History → Type 0
OfferAnswers h i item offered.Taken new =
    (refusal_of h.run.schedule h.events i item ≡ None) × (new ≡ with_event h (events.Took i item))
OfferAnswers h i item offered.Closed new = (refusal_of h.run.schedule h.events i item ≡ Some Closed) × (new ≡ h)
OfferAnswers h i item offered.Stranger new = (refusal_of h.run.schedule h.events i item ≡ Some Stranger) × (new ≡ h)
OfferAnswers h i item offered.Backward new = (refusal_of h.run.schedule h.events i item ≡ Some Backward) × (new ≡ h)
OfferAnswers h i item offered.Early new = (refusal_of h.run.schedule h.events i item ≡ Some Early) × NotesEarly h i new
OfferAnswers h i item offered.Full new =
    (refusal_of h.run.schedule h.events i item ≡ Some Full) × NotesFull h i item new

-- what `take` answers and leaves: as `offer`, and each refusal hands the item back; it never wants memory
abbrev pub TakeAnswers : History → ℕ → Stamped → Taken → History → Type 0
TakeAnswers h i item taken.Ok new = OfferAnswers h i item offered.Taken new
TakeAnswers h i item (taken.Closed back) new = (back ≡ item) × OfferAnswers h i item offered.Closed new
TakeAnswers h i item (taken.Stranger back) new = (back ≡ item) × OfferAnswers h i item offered.Stranger new
TakeAnswers h i item (taken.Backward back) new = (back ≡ item) × OfferAnswers h i item offered.Backward new
TakeAnswers h i item (taken.Early back) new = (back ≡ item) × OfferAnswers h i item offered.Early new
TakeAnswers h i item (taken.Full back) new = (back ≡ item) × OfferAnswers h i item offered.Full new
TakeAnswers h i item (taken.Memory back) new = ⊥

-- neither Done nor RunFull is due
pub record IsRunning (h : History) : Type 0 where
  pub not_done : IsDone h.run.schedule h.events → ⊥
  pub within : slots h.events < h.run.limit

-- no switch is due
abbrev pub IsUnswitched : History → Type 0
IsUnswitched h = is_switch_due h.run.schedule h.events ≡ false

-- the least input that isn't ready for the next slot
pub record IsLeastUnready (h : History) (i : ℕ) : Type 0 where
  pub input : i < length h.run.schedule.first.request.inputs
  pub unready : is_ready h.run.schedule i h.events ≡ false
  pub least : (j : ℕ) → j < i → IsTrue (is_ready h.run.schedule j h.events)

-- what `send_next` answers and leaves, in its order: done, the run is full, the next plan came into force, an input isn't ready, sent
abbrev pub SendAnswers : History → Sending → History → Type 0
SendAnswers h sending.Done new = (new ≡ h) × IsDone h.run.schedule h.events
SendAnswers h sending.RunFull new = (new ≡ h) × (IsDone h.run.schedule h.events → ⊥) × (h.run.limit ≤ slots h.events)
SendAnswers h sending.Switched new =
    IsRunning h × IsTrue (is_switch_due h.run.schedule h.events)
    × (new ≡ with_event h (events.Switch (in_force h.events + 1)))
SendAnswers h (sending.NotReady i) new = (new ≡ h) × IsRunning h × IsUnswitched h × IsLeastUnready h i
SendAnswers h sending.Sent new =
    IsRunning h × ((c : Content) × MaySend h.run.schedule h.events c × (new ≡ with_event h (events.Slot c)))

-- the packet of a slot with this content is sent
abbrev pub SendsContent : History → Content → History → List ℕ → Type 0
SendsContent h c new packet =
    (new ≡ with_event h (events.Slot c)) × (packet ≡ packet_behind h.run.schedule h.events (emitted h.run.schedule h.events) c)

-- that packet goes out behind those before
abbrev pub GoesOut : History → Content → List (List ℕ) → List (List ℕ) → Type 0
GoesOut h c before after = after ≡ before ++ packet_behind h.run.schedule h.events (emitted h.run.schedule h.events) c ∷ []

-- what `slot` answers and leaves: as `send_next`, and the packet that is sent, for which it may want memory once all inputs are ready
abbrev pub SlotAnswers : History → Slot → History → Type 0
SlotAnswers h slot.Done new = SendAnswers h sending.Done new
SlotAnswers h slot.RunFull new = SendAnswers h sending.RunFull new
SlotAnswers h slot.Switched new = SendAnswers h sending.Switched new
SlotAnswers h (slot.NotReady i) new = SendAnswers h (sending.NotReady i) new
SlotAnswers h slot.Memory new =
    (new ≡ h) × IsRunning h × IsUnswitched h × AllReady h.run.schedule h.events
SlotAnswers h (slot.Sent packet) new =
    IsRunning h × ((c : Content) × MaySend h.run.schedule h.events c × SendsContent h c new packet)

-- The slot that was sent had this packet, which went out behind those before.
pub record SendsOn (old new : History) (before after : List (List ℕ)) : Type 0 where
  pub packet : List ℕ
  pub behind : after ≡ before ++ packet ∷ []
  pub slot : SlotAnswers old (slot.Sent packet) new
