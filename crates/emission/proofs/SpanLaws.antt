-- The packets of a span of a schedule are those that its plan sends behind the packets before it.
use Rattle.std.proofs.Common.{ℕ, zero, suc, ◌+◌, ◌≤◌, ◌<◌, ◌≡◌, List, [], ◌∷◌, ◌++◌, length, take, drop, get_or, Option, Some, None, refl, ap, ◌∙◌, sym, subst, zero-add, add-one, arith}
use Rattle.std.specs.List.{slice_get}
use Rattle.std.proofs.lemmas.List.{length-take-le}
use Rattle.std.proofs.lemmas.Option.{slice_get_within, slice_get-get_or, get_or_from_slice_get}
use Rattle.rounds.specs.Rounds.{table_at}
use Rattle.schedule.specs.Schedule.{SpanValue, ScheduleValue, spans, span_at, number_in_slot}
use Rattle.schedule.specs.Switches.{SlotsFollow}
use Rattle.schedule.proofs.ForceLaws.{in_span}
use Rattle.emission.specs.Emission.{IsPacketOf}
use Rattle.emission.specs.Spans.{span_in_slot, slot_in_span, table_in, IsEmissionOf, packets_before, packets_of_span}
use Rattle.emission.proofs.SlotLaws.{IsSpanOf}

-- ---- parts of a list

taken_at : {X : Type 0} (n : ℕ) (xs : List X) (j : ℕ) (x : X) → slice_get (take n xs) j ≡ Some x → (slice_get xs j ≡ Some x) × (j < n)
taken_at zero xs j x e = cc
taken_at (suc n) [] j x e = cc
taken_at (suc n) (y ∷ xs) zero x e = (e, omega arith)
taken_at (suc n) (y ∷ xs) (suc j) x e = let rest = taken_at n xs j x e in (rest.0, omega (arith, rest.1))

dropped_at : {X : Type 0} (n : ℕ) (xs : List X) (j : ℕ) (x : X) → slice_get (drop n xs) j ≡ Some x → slice_get xs (n + j) ≡ Some x
dropped_at zero xs j x e = ap (slice_get xs) (zero-add j) ∙ e
dropped_at (suc n) [] j x e = cc
dropped_at (suc n) (y ∷ xs) j x e =
    let more : suc n + j ≡ suc (n + j) = omega arith in ap (slice_get (y ∷ xs)) more ∙ dropped_at n xs j x e

take_none : {X : Type 0} (m : ℕ) (none : List X) → none ≡ [] → take m none ≡ []
take_none zero none e = refl
take_none (suc m) none e = ap (take (suc m)) e

-- the first n, and m behind them
pub take_on : {X : Type 0} (n m : ℕ) (xs : List X) → take n xs ++ take m (drop n xs) ≡ take (n + m) xs
take_on zero m xs = ap (λ k. take k xs) (sym (zero-add m))
take_on (suc n) m [] = take_none m [] refl ∙ sym (take_none (suc n + m) [] refl)
take_on (suc n) m (x ∷ xs) =
    let more : suc (n + m) ≡ suc n + m = omega arith in ap (λ ys. x ∷ ys) (take_on n m xs) ∙ ap (λ k. take k (x ∷ xs)) more

pub take_of_take : {X : Type 0} (m n : ℕ) (xs : List X) → m ≤ n → take m (take n xs) ≡ take m xs
take_of_take zero n xs l = refl
take_of_take (suc m) zero xs l = absurd (omega arith)
take_of_take (suc m) (suc n) [] l = refl
take_of_take (suc m) (suc n) (x ∷ xs) l = ap (λ ys. x ∷ ys) (take_of_take m n xs (omega arith))

pub take_of_cut : {X : Type 0} (from m to : ℕ) (xs : List X) → from + m ≤ to → take m (drop from (take to xs)) ≡ take m (drop from xs)
take_of_cut zero m to xs l = take_of_take m to xs (omega arith)
take_of_cut (suc from) m zero xs l = absurd (omega arith)
take_of_cut (suc from) m (suc to) [] l = refl
take_of_cut (suc from) m (suc to) (x ∷ xs) l = take_of_cut from m to xs (omega arith)

-- ---- the span

-- packet m of a span that begins at this slot: where it stands in the output, by which plan, and behind which packets
record IsOfSpan (s : ScheduleValue) (number from : ℕ) (out part : List (List ℕ)) (m : ℕ) (q : List ℕ) : Type 0 where
  stands : slice_get out (from + m) ≡ Some q
  in_force : number_in_slot s (from + m) ≡ number
  before : take from out ++ take m part ≡ take (from + m) out

of_span : (s : ScheduleValue) → SlotsFollow s → (number : ℕ) (out : List (List ℕ)) → number ≤ length s.later → (end : Option SpanValue) → slice_get s.later number ≡ end
    → (m : ℕ) (q : List ℕ) → slice_get (drop (span_at s number).slot (packets_before end out)) m ≡ Some q
    → IsOfSpan s number (span_at s number).slot out (drop (span_at s number).slot (packets_before end out)) m q
of_span s follow number out within None none m q e =
    let from = (span_at s number).slot in
    let d : SpanValue = record { slot = 0; plan = s.first } in
    record {
      stands = dropped_at from out m q e;
      in_force = in_span s follow number (from + m) within (omega arith) (λ l. (let some = slice_get-get_or s.later number d l in cc));
      before = take_on from m out;
    }
of_span s follow number out within (Some w) is m q e =
    let from = (span_at s number).slot in
    let d : SpanValue = record { slot = 0; plan = s.first } in
    let at = taken_at w.slot out (from + m) q (dropped_at from (take w.slot out) m q e) in
    let next : span_at s (number + 1) ≡ w = ap (λ n. get_or (spans s) n d) (add-one number) ∙ get_or_from_slice_get s.later number w d is in
    let slot : (span_at s (number + 1)).slot ≡ w.slot = ap (λ (v : SpanValue). v.slot) next in
    record {
      stands = at.0;
      in_force = in_span s follow number (from + m) within (omega arith) (λ l. omega (arith, at.1, slot));
      before = ap (λ ys. take from out ++ ys) (take_of_cut from m w.slot out (omega (arith, at.1))) ∙ take_on from m out;
    }

-- a slot's number in its span
pub from_slot : (from m : ℕ) → slot_in_span from (from + m) ≡ m
from_slot zero m = zero-add m
from_slot (suc from) m = omega arith

pub to_slot : (from m : ℕ) → from ≤ m → from + slot_in_span from m ≡ m
to_slot zero m l = zero-add m
to_slot (suc from) m l = omega arith

-- packet m goes out by the plan of the span that slot m is in
pub by_span : (s : ScheduleValue) (out : List (List ℕ)) → IsEmissionOf s out → (m : ℕ) (q : List ℕ) → slice_get out m ≡ Some q
    → IsPacketOf (span_in_slot s m).plan (take m out) (table_in (span_in_slot s m) m) q
by_span s out h m q e =
    let inside = slice_get_within out m q e in
    let size : length (take m out) ≡ m = length-take-le m out (omega (arith, inside)) in
    let At : ℕ → Type 0 = λ n. IsPacketOf (span_in_slot s n).plan (take m out) (table_in (span_in_slot s n) n) q in
    subst At size (h m q e)

pub is_span : (s : ScheduleValue) → SlotsFollow s → (number : ℕ) (out : List (List ℕ)) → number ≤ length s.later → IsEmissionOf s out
    → IsSpanOf (span_at s number).plan (take (span_at s number).slot out) (packets_of_span s number out)
is_span s follow number out within h m q e =
    let w = span_at s number in
    let of = of_span s follow number out within (slice_get s.later number) refl m q e in
    let before = take (w.slot + m) out in
    let Of : ℕ → Type 0 = λ n. IsPacketOf (span_at s n).plan before (table_in (span_at s n) (w.slot + m)) q in
    let At : ℕ → Type 0 = λ n. IsPacketOf w.plan before (table_at w.plan.rounds n) q in
    let Behind : List (List ℕ) → Type 0 = λ ps. IsPacketOf w.plan ps (table_at w.plan.rounds m) q in
    let here : Of number = subst Of of.in_force (by_span s out h (w.slot + m) q of.stands) in
    subst Behind (sym of.before) (subst At (from_slot w.slot m) here)
