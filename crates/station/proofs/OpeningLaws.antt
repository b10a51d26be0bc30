-- A station of which nothing was taken or sent.
use Rattle.std.proofs.Common.{ℕ, zero, suc, ◌≡◌, List, [], ◌∷◌, length, map, slice_get, Some, refl, ap, sym, subst, ◌∙◌, arith, inl, inr}
use Rattle.std.proofs.lemmas.List.{length-map}
use Rattle.std.proofs.lemmas.Option.{slice_get_within, slice_get_cases}
use Rattle.std.specs.Option.{option_to_list}
use Rattle.tspkt.specs.declared.stamped.Stamped.{Stamped}
use Rattle.schedule.specs.Schedule.{ScheduleValue}
use Rattle.mux.specs.Lawful.{input_count}
use Rattle.mux.specs.History.{History, opened}
use Rattle.port.specs.Rings.{PortValue, RingEndValue, IsNewRing, AreNewRings}
use Rattle.inlets.proofs.NoteLaws.{notes_none}
use Rattle.station.specs.Stations.{Input, IsLawfulInput, IsLawfulStation}
use Rattle.station.specs.Opening.{new_entry, IsFresh, IsOpened}

entry_of : (ends : List RingEndValue) (i : ℕ) (x : Input) → slice_get (map new_entry ends) i ≡ Some x → (end : RingEndValue) × (slice_get ends i ≡ Some end) × (new_entry end ≡ x)
entry_of [] i x at = absurd (cc)
entry_of (e ∷ ends) zero x at = (e, refl, cc)
entry_of (e ∷ ends) (suc i) x at = entry_of ends i x at

new_lawful : (schedule : ScheduleValue) (limit i : ℕ) (port : PortValue) (end : RingEndValue) → IsNewRing i port end → IsLawfulInput (opened schedule limit) i (new_entry end)
new_lawful schedule limit i port end new = record {
  received = new.unreceived ∙ sym (ap option_to_list new.unshown);
  notes = notes_none schedule i (option_to_list end.head);
  closed = refl;
  closes = λ is. cc;
}

pub opened_lawful : (schedule : ScheduleValue) (limit n : ℕ) (ports : List PortValue) (ends : List RingEndValue) → AreNewRings n ports ends → n ≡ input_count schedule → IsLawfulStation (opened schedule limit) (map new_entry ends)
opened_lawful schedule limit n ports ends new count = record {
  count = length-map ends new_entry ∙ (new.ends_are ∙ count);
  each = λ i x at.
      let from = entry_of ends i x at in
      let P : Input → Type 0 = IsLawfulInput (opened schedule limit) i in
      elim (slice_get_cases ports i).1 [
        | inl found ↦ subst P from.2 (new_lawful schedule limit i found.0 from.0 (new.each i found.0 from.0 found.2 from.1))
        | inr past ↦ absurd (omega (arith, slice_get_within ends i from.0 from.1, past.0, new.ports_are, new.ends_are))
      ];
}

pub is_opened : (schedule : ScheduleValue) (limit n : ℕ) (ports : List PortValue) (ends : List RingEndValue) (entries : List Input) (h : History) → AreNewRings n ports ends → n ≡ input_count schedule
    → entries ≡ map new_entry ends → h ≡ opened schedule limit → IsOpened schedule limit (record { history = h; inputs = entries }) ports
is_opened schedule limit n ports ends entries h new count are is = record {
  history = is;
  inputs_are = ap (λ (v : List Input). length v) are ∙ (length-map ends new_entry ∙ (new.ends_are ∙ count));
  ports_are = new.ports_are ∙ count;
  each = λ i port x at at'.
      let A : List Input → Type 0 = λ v. slice_get v i ≡ Some x in
      let from = entry_of ends i x (subst A are at') in
      let ring = new.each i port from.0 at from.1 in
      let P : Input → Type 0 = IsFresh i port in
      subst P from.2 (record { ring = ring.ring; number = ring.number; unsent = ring.unsent; unreceived = ring.unreceived; unheld = ring.unshown; open_ = refl });
}
