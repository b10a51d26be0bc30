-- Beginnings of one sequence, and their marks.
use Rattle.std.proofs.Common.{◌≡◌, ℕ, ◌+◌, ◌≤◌, List, [], ◌∷◌, ◌++◌, length, true, false, refl, ap, sym, ◌∙◌, subst, arith, length-append}
use Rattle.std.proofs.lemmas.List.{append-nil}
use mathlib.Core.List.{IsPrefix}
use Rattle.marks.specs.declared.entry.Entry.{Entry}
use Rattle.marks.specs.declared.entry.Entry.TheVariants.{Packet, Seal}
use Rattle.marks.specs.Entries.{packets_of, has_seal, IsSealedLast}
use Rattle.marks.specs.Marks.{FeedId, MarkValue, mark_of, with_entry, one_if, steps_of, Begins}

pub packets_append : (xs ys : List Entry) → packets_of (xs ++ ys) ≡ packets_of xs ++ packets_of ys
packets_append [] ys = refl
packets_append (Packet p ∷ xs) ys = ap (λ zs. p ∷ zs) (packets_append xs ys)
packets_append (Seal ∷ xs) ys = packets_append xs ys

pub entry_count : (log : List Entry) → IsSealedLast log → length log ≡ length (packets_of log) + one_if (has_seal log)
entry_count [] o = refl
entry_count (Packet p ∷ es) o = let r = entry_count es o in omega arith
entry_count (Seal ∷ es) o = rw o refl

pub sealed_last_add : (log : List Entry) (e : Entry) → IsSealedLast log → has_seal log ≡ false → IsSealedLast (log ++ e ∷ [])
sealed_last_add [] (Packet p) o h = tt
sealed_last_add [] Seal o h = refl
sealed_last_add (Packet p ∷ es) e o h = sealed_last_add es e o h
sealed_last_add (Seal ∷ es) e o h = absurd (cc)

pub seal_behind_packet : (log : List Entry) (p : List ℕ) → has_seal (log ++ Packet p ∷ []) ≡ has_seal log
seal_behind_packet [] p = refl
seal_behind_packet (Packet q ∷ es) p = seal_behind_packet es p
seal_behind_packet (Seal ∷ es) p = refl

pub seal_added : (log : List Entry) → has_seal (log ++ Seal ∷ []) ≡ true
seal_added [] = refl
seal_added (Packet q ∷ es) = seal_added es
seal_added (Seal ∷ es) = refl

nothing_behind_seal : (log rest : List Entry) → IsSealedLast (log ++ rest) → has_seal log ≡ true → rest ≡ []
nothing_behind_seal [] rest o h = absurd (cc)
nothing_behind_seal (Packet p ∷ es) rest o h = nothing_behind_seal es rest o h
nothing_behind_seal (Seal ∷ []) rest o h = o
nothing_behind_seal (Seal ∷ e ∷ es) rest o h = absurd (cc)

-- of two beginnings of one list the shorter begins the longer
shorter_begins : {A : Type 0} (xs ys zs : List A) → IsPrefix xs zs → IsPrefix ys zs → length xs ≤ length ys → IsPrefix xs ys
shorter_begins [] ys zs p q le = (ys, refl)
shorter_begins (x ∷ xs) [] zs p q le = absurd (omega arith)
shorter_begins (x ∷ xs) (y ∷ ys) [] p q le = absurd (cc (p.1))
shorter_begins (x ∷ xs) (y ∷ ys) (z ∷ zs) p q le =
    let heads : x ≡ y = cc (p.1, q.1) in
    let rest = shorter_begins xs ys zs (p.0, cc (p.1)) (q.0, cc (q.1)) (omega arith) in
    (rest.0, cc (heads, rest.1))

mark_begins : (f : FeedId) (v w : List Entry) → IsPrefix v w → IsSealedLast w → Begins (mark_of f v) (mark_of f w)
mark_begins f v w p o = record {
  feed = refl;
  packets = (packets_of p.0, sym (packets_append v p.0) ∙ ap packets_of p.1);
  whole = λ h. let none : p.0 ≡ [] = nothing_behind_seal v p.0 (subst IsSealedLast (sym p.1) o) h in
      ap (mark_of f) (sym p.1 ∙ (ap (λ r. v ++ r) none ∙ append-nil v));
}

-- a beginning with as many packets has the same ones
same_packets : (v w : List Entry) → IsPrefix v w → length (packets_of w) ≤ length (packets_of v) → packets_of w ≡ packets_of v
same_packets v w p le =
    let e : packets_of w ≡ packets_of v ++ packets_of p.0 = ap packets_of (sym p.1) ∙ packets_append v p.0 in
    let n : length (packets_of p.0) ≡ 0 = omega (arith, ap length e, length-append (packets_of v) (packets_of p.0)) in
    e ∙ (ap (λ r. packets_of v ++ r) (nil_of (packets_of p.0) n) ∙ append-nil (packets_of v))
  where
    nil_of : (xs : List (List ℕ)) → length xs ≡ 0 → xs ≡ []
    nil_of [] h = refl
    nil_of (x ∷ xs) h = absurd (omega arith)

-- the mark of one entry more
pub mark_with_entry : (f : FeedId) (log : List Entry) (e : Entry) → has_seal log ≡ false → mark_of f (log ++ e ∷ []) ≡ with_entry (mark_of f log) e
mark_with_entry f log (Packet p) h = λ i. record { feed = f; packets = packets_append log (Packet p ∷ []) i; is_sealed = seal_behind_packet log p i }
mark_with_entry f log Seal h = λ i. record { feed = f; packets = (packets_append log (Seal ∷ []) ∙ append-nil (packets_of log)) i; is_sealed = seal_added log i }

-- two marks of one sequence, the first of which has no more entries
module _ (s t : MarkValue) (f g : FeedId) (v w both : List Entry) (p : mark_of f v ≡ s) (q : mark_of g w ≡ t) (same : t.feed ≡ s.feed)
    (pre : IsPrefix v both) (pre' : IsPrefix w both) (o : IsSealedLast v) (o' : IsSealedLast w) (le : steps_of s ≤ steps_of t) where
  feeds : g ≡ f
  feeds = ap (λ (z : MarkValue). z.feed) q ∙ (same ∙ sym (ap (λ (z : MarkValue). z.feed) p))

  ends : mark_of f w ≡ t
  ends = ap (λ z. mark_of z w) (sym feeds) ∙ q

  begins : IsPrefix v w
  begins =
      let le' : steps_of (mark_of f v) ≤ steps_of (mark_of f w) = subst (λ (z : MarkValue × MarkValue). steps_of z.0 ≤ steps_of z.1) (λ i. (sym p i, sym ends i)) le in
      let a = entry_count v o in
      let b = entry_count w o' in
      shorter_begins v w both pre pre' (omega arith)

  -- it begins the second
  pub earlier_begins : Begins s t
  earlier_begins = subst (λ (z : MarkValue × MarkValue). Begins z.0 z.1) (λ i. (p i, ends i)) (mark_begins f v w begins o')

  -- where the second has no more packets, it has the same ones
  pub as_many_packets : length t.packets ≤ length s.packets → t.packets ≡ s.packets
  as_many_packets few =
      let few' : length (packets_of w) ≤ length (packets_of v) = subst (λ (z : MarkValue × MarkValue). length z.1.packets ≤ length z.0.packets) (λ i. (sym p i, sym ends i)) few in
      subst (λ (z : MarkValue × MarkValue). z.1.packets ≡ z.0.packets) (λ i. (p i, ends i)) (same_packets v w begins few')

-- how many packets there are with one more, and which with the seal
pub count_with_packet : (log : List Entry) (p : List ℕ) (n : ℕ) → n ≡ length (packets_of log) → length (packets_of (log ++ Packet p ∷ [])) ≡ n + 1
count_with_packet log p n e = ap length (packets_append log (Packet p ∷ [])) ∙ omega (arith, length-append (packets_of log) (p ∷ []), e)

pub packets_with_seal : (log : List Entry) → packets_of (log ++ Seal ∷ []) ≡ packets_of log
packets_with_seal log = packets_append log (Seal ∷ []) ∙ append-nil (packets_of log)
