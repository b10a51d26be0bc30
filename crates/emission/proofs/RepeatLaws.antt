-- Packets that repeat those of some sections, with counters that step, repeat the sections. So many packets of the PID may have gone
-- out before: the counters go on from there.
use Rattle.std.proofs.Common.{ℕ, suc, ◌+◌, zero-add, ◌%◌, ◌<◌, ◌≡◌, ◌==◌, true, List, [], ◌∷◌, length, map, get_or, Option, Some, None, refl, ap, ◌∙◌, sym, subst, arith}
use Rattle.std.specs.Prelude.{option_map}
use Rattle.std.specs.List.{All, slice_get, flat_map}
use Rattle.std.proofs.lemmas.Bool.{eq-eqb, or_left, or_right, and_from}
use Rattle.std.proofs.lemmas.List.{length-map}
use Rattle.std.proofs.lemmas.List.Elements.{All-nil, All-cons}
use Rattle.std.proofs.lemmas.Option.{slice_get-map, slice_get_within, get_or_from_slice_get}
use Rattle.tspkt.specs.Packet.{has_payload_of, payload_of, payload_unit_start_indicator_of, continuity_counter_of}
use Rattle.tspkt.specs.Counted.{with_counter}
use Rattle.tspkt.specs.Counters.{follows_of, lawful_behind, lawful_of}
use Rattle.output_tables.specs.OnPid.{SectionOnPid, packets_on_pid}
use Rattle.emission.specs.Agreement.{BeginsRepetitionOf, payloads_of, starts_of, RepeatSections}
use Rattle.emission.specs.Spans.{RepeatBehind}
use Rattle.emission.proofs.CycleLaws.{RepeatsBy}
use Rattle.emission.proofs.SectionPacketLaws.{HasPid, GoesOut, all_go_out, payloads_are, starts_are}

-- the packet as the one of this number on its PID
abbrev pub numbered : List ℕ → ℕ → List ℕ
numbered r k = with_counter r (k % 16)

-- the same, where so many of its PID went out before
abbrev pub numbered_from : ℕ → List ℕ → ℕ → List ℕ
numbered_from earlier r k = numbered r (earlier + k)

-- ---- the counters

-- packet k has payload, and the counter of its number, where so many went out before
abbrev pub AreCounted : ℕ → List (List ℕ) → Type 0
AreCounted n sent = (k : ℕ) (q : List ℕ) → slice_get sent k ≡ Some q → (has_payload_of q ≡ true) × (continuity_counter_of q ≡ (n + k) % 16)

follows : (before : Option (List ℕ)) (last next : List ℕ) (n : ℕ) → continuity_counter_of last ≡ n % 16 → has_payload_of next ≡ true → continuity_counter_of next ≡ (n + 1) % 16 → follows_of before last next ≡ true
unfolding follows_of
follows before last next n c p d =
    let steps : (continuity_counter_of next == (continuity_counter_of last + 1) % 16) ≡ true = eq-eqb _ _ (omega arith) in
    or_left _ _ (or_left _ _ (or_right _ _ (and_from _ _ p steps)))

all_follow : (before : Option (List ℕ)) (last : List ℕ) (n : ℕ) (sent : List (List ℕ)) → continuity_counter_of last ≡ n % 16 → AreCounted (n + 1) sent → All (λ is_lawful. is_lawful ≡ true) (lawful_behind before last sent)
all_follow before last n [] c h = All-nil (λ is_lawful. is_lawful ≡ true)
all_follow before last n (q ∷ sent) c h =
    let here = h 0 q refl in
    let number : continuity_counter_of q ≡ (n + 1) % 16 = here.1 ∙ ap (λ m. m % 16) (let e : n + 1 + 0 ≡ n + 1 = omega arith in e) in
    All-cons (λ is_lawful. is_lawful ≡ true) (follows_of before last q) (lawful_behind (Some last) q sent) (follows before last q n c here.0 number)
    (all_follow (Some last) q (n + 1) sent number (λ k r e. let l = h (suc k) r e in (l.0, l.1 ∙ ap (λ m. m % 16) (let s : n + 1 + suc k ≡ n + 1 + 1 + k = omega arith in s))))

pub all_lawful : (sent : List (List ℕ)) → AreCounted 0 sent → All (λ is_lawful. is_lawful ≡ true) (lawful_of sent)
all_lawful [] h = All-nil (λ is_lawful. is_lawful ≡ true)
all_lawful (q ∷ sent) h =
    let here = h 0 q refl in
    All-cons (λ is_lawful. is_lawful ≡ true) true (lawful_behind None q sent) refl
    (all_follow None q 0 sent here.1 (λ k r e. let l = h (suc k) r e in (l.0, l.1 ∙ ap (λ m. m % 16) (let s : 0 + suc k ≡ 0 + 1 + k = omega arith in s))))

-- ---- the fields

some_map : {X Y : Type 0} (f : X → Y) (o : Option X) (y : Y) → option_map f o ≡ Some y → (x : X) × (o ≡ Some x) × (f x ≡ y)
some_map f None y e = cc
some_map f (Some x) y e = (x, refl, cc)

at_of : {X : Type 0} (P : X → Type 0) (xs : List X) (i : ℕ) (x : X) → All P xs → slice_get xs i ≡ Some x → P x
at_of P xs i x h e = subst P (get_or_from_slice_get xs i x x e) (h i x (slice_get_within xs i x e))

-- a field that no counter changes
field_repeats : {X : Type 0} (f : List ℕ → X) (earlier : ℕ) (cycle sent : List (List ℕ)) → All (λ r. (counter : ℕ) → counter < 16 → f (with_counter r counter) ≡ f r) cycle → RepeatsBy (numbered_from earlier) cycle sent → BeginsRepetitionOf (map f cycle) (map f sent)
field_repeats f earlier cycle sent same h = λ k y e.
    let got = some_map f (slice_get sent k) y (sym (slice_get-map f sent k) ∙ e) in
    let turn = h k got.0 got.1 in
    let r = turn.0 in
    let is : f r ≡ y = sym (ap f turn.2 ∙ at_of (λ r. (counter : ℕ) → counter < 16 → f (with_counter r counter) ≡ f r) cycle (k % length cycle) r same turn.1 ((earlier + k) % 16) (omega arith)) ∙ got.2 in
    ap (λ n. slice_get (map f cycle) (k % n)) (length-map cycle f)
    ∙ slice_get-map f cycle (k % length cycle) ∙ ap (option_map f) turn.1 ∙ ap (λ x. Some x) is

weaker : {X : Type 0} (P Q : X → Type 0) (xs : List X) → ((x : X) → P x → Q x) → All P xs → All Q xs
weaker P Q xs f h = λ i d l. f (get_or xs i d) (h i d l)

-- Packets repeat these sections from their beginning on, behind so many packets of their PID.
pub record RepeatFrom (sections : List SectionOnPid) (earlier : ℕ) (sent : List (List ℕ)) : Type 0 where
  pub payloads : BeginsRepetitionOf (flat_map payloads_of sections) (map payload_of sent)
  pub starts : BeginsRepetitionOf (flat_map starts_of sections) (map payload_unit_start_indicator_of sent)
  pub counted : AreCounted earlier sent
  pub packets : RepeatsBy (numbered_from earlier) (flat_map packets_on_pid sections) sent

pub repeat_from : (ss : List SectionOnPid) (earlier : ℕ) (sent : List (List ℕ)) → All HasPid ss → RepeatsBy (numbered_from earlier) (flat_map packets_on_pid ss) sent → RepeatFrom ss earlier sent
repeat_from ss earlier sent pids h =
    let cycle = flat_map packets_on_pid ss in
    let out = all_go_out ss pids in
    let payloads : BeginsRepetitionOf (map payload_of cycle) (map payload_of sent) =
    field_repeats payload_of earlier cycle sent (weaker GoesOut (λ r. (counter : ℕ) → counter < 16 → payload_of (with_counter r counter) ≡ payload_of r) cycle (λ r g. g.payload) out) h in
    let starts : BeginsRepetitionOf (map payload_unit_start_indicator_of cycle) (map payload_unit_start_indicator_of sent) =
    field_repeats payload_unit_start_indicator_of earlier cycle sent (weaker GoesOut (λ r. (counter : ℕ) → counter < 16 → payload_unit_start_indicator_of (with_counter r counter) ≡ payload_unit_start_indicator_of r) cycle (λ r g. g.start) out) h in
    record {
      payloads = subst (λ c. BeginsRepetitionOf c (map payload_of sent)) (payloads_are ss pids) payloads;
      starts = subst (λ c. BeginsRepetitionOf c (map payload_unit_start_indicator_of sent)) (starts_are ss pids) starts;
      counted = λ k q e.
          let turn = h k q e in
          let g : GoesOut turn.0 = at_of GoesOut cycle (k % length cycle) turn.0 out turn.1 in
          (ap has_payload_of turn.2 ∙ g.loaded ((earlier + k) % 16) (omega arith), ap continuity_counter_of turn.2 ∙ g.counted ((earlier + k) % 16) (omega arith));
      packets = h;
    }

-- as it is promised
pub repeat_behind : (ss : List SectionOnPid) (earlier : ℕ) (sent : List (List ℕ)) → RepeatFrom ss earlier sent → RepeatBehind earlier ss sent
repeat_behind ss earlier sent r = record { payloads = r.payloads; starts = r.starts; packets = r.packets }

-- where none went out before
pub repeat_sections : (ss : List SectionOnPid) (sent : List (List ℕ)) → RepeatFrom ss 0 sent → RepeatSections ss sent
repeat_sections ss sent r = record {
  payloads = r.payloads;
  starts = r.starts;
  counters = all_lawful sent r.counted;
  packets = λ k q e. let turn = r.packets k q e in (turn.0, turn.1, turn.2 ∙ ap (numbered turn.0) (zero-add k));
}
