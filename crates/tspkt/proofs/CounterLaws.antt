-- The counter rule says the same of packets of one PID and of the packets that are sent in their place.
use Rattle.std.proofs.Common.{◌≡◌, ◌≢◌, ℕ, ◌+◌, ◌-◌, ◌<◌, ◌≤◌, List, [], ◌∷◌, get_or, length, take, drop, refl, sym, ◌∙◌, ap, arith, Option, Some, None, Bool, true, false, ◌&&◌, ⊎_elim}
use Rattle.std.proofs.lemmas.Bool.{cases_eq, cases_lt, cases_Bool}
use Rattle.std.specs.Bool.{Decides}
use Rattle.std.proofs.lemmas.Bool.Decides.{same_from_decides, Decides-like}
use Rattle.std.proofs.lemmas.Slice.Eq.{bytes_eq-Decides}
use Rattle.std.proofs.lemmas.List.{get_or-drop, get_or-take, length-take-le, length-drop, ext_get_or}
use Rattle.std.specs.Str.{bytes_eq}
use Rattle.tspkt.specs.Bits.{field}
use Rattle.tspkt.specs.Packet.{IsPacket, pid_of, pcr_flag_of, has_payload_of, continuity_counter_of, discontinuity_indicator_of}
use Rattle.tspkt.specs.Counters.{is_equal_but_pcr, is_copy, is_second_copy, follows_of, lawful_behind, lawful_of}
use Rattle.tspkt.specs.Rewritten.{with_pid, rewritten}
use Rattle.tspkt.proofs.PacketFields.{pid_at, adaptation_at, payload_at, counter_at, length_at, discontinuity_at}
use Rattle.tspkt.proofs.RewrittenLaws.{IsMoved, HasPid, SameHead, has_pid, moved, rewritten_plain, same_pcr_flag}

-- two tests of facts that imply each other
same_answer : (a b : Bool) {P Q : Type 0} → Decides a P → Decides b Q → (P → Q) → (Q → P) → a ≡ b
same_answer a b x y f g = same_from_decides a b x (Decides-like b g f y)

module _ (a b A B : List ℕ) (pid : ℕ) (k : IsPacket a) (l : IsPacket b) (m : IsMoved a pid A) (n : IsMoved b pid B) (one_pid : pid_of a ≡ pid_of b) where
  -- the packets' bytes before the PCR are equal where the sent ones' are
  taken_equal : ((j : ℕ) → j < 6 → get_or A j 0 ≡ get_or B j 0) → (j : ℕ) → j < 6 → get_or a j 0 ≡ get_or b j 0
  taken_equal e j h =
      let high = e 1 (omega arith) in
      ⊎_elim
      (λ (x : j ≡ 1). rw x (omega (arith, high, m.one, n.one, k.bytes 1, l.bytes 1, k.bytes 2, l.bytes 2, pid_at a, pid_at b, one_pid)))
      (λ (x : j ≢ 1).
      ⊎_elim
      (λ (y : j ≡ 2). rw y (omega (arith, k.bytes 2, l.bytes 2, pid_at a, pid_at b, one_pid)))
      (λ (y : j ≢ 2). sym (m.before j h x y) ∙ e j h ∙ n.before j h x y)
      (cases_eq j 2))
      (cases_eq j 1)

  sent_equal : ((j : ℕ) → j < 6 → get_or a j 0 ≡ get_or b j 0) → (j : ℕ) → j < 6 → get_or A j 0 ≡ get_or B j 0
  sent_equal e j h =
      let high = e 1 (omega arith) in
      ⊎_elim
      (λ (x : j ≡ 1). rw x (omega (arith, high, m.one, n.one)))
      (λ (x : j ≢ 1).
      ⊎_elim
      (λ (y : j ≡ 2). rw y (m.two ∙ sym n.two))
      (λ (y : j ≢ 2). m.before j h x y ∙ e j h ∙ sym (n.before j h x y))
      (cases_eq j 2))
      (cases_eq j 1)

-- equal fronts are equal bytes
front_bytes : (x y : List ℕ) (w : ℕ) → take w x ≡ take w y → (j : ℕ) → j < w → get_or x j 0 ≡ get_or y j 0
front_bytes x y w e j h = sym (get_or-take w x j 0 h) ∙ ap (λ (l : List ℕ). get_or l j 0) e ∙ get_or-take w y j 0 h

bytes_front : (x y : List ℕ) (w : ℕ) → w ≤ length x → w ≤ length y → ((j : ℕ) → j < w → get_or x j 0 ≡ get_or y j 0) → take w x ≡ take w y
bytes_front x y w p q e =
    let a = length-take-le w x p in
    let b = length-take-le w y q in
    ext_get_or 0 (take w x) (take w y) (a ∙ sym b)
    (λ j h. let small : j < w = omega arith in get_or-take w x j 0 small ∙ e j small ∙ sym (get_or-take w y j 0 small))

-- what is behind the PCR stays
back_same : (p q : List ℕ) (pid : ℕ) → IsPacket p → IsMoved p pid q → drop 12 q ≡ drop 12 p
back_same p q pid k m =
    ext_get_or 0 (drop 12 q) (drop 12 p) (length-drop 12 q ∙ ap (λ (n : ℕ). n - 12) (m.packet.whole ∙ sym k.whole) ∙ sym (length-drop 12 p))
    (λ j h. get_or-drop 12 q j 0 ∙ m.after (12 + j) (omega arith) ∙ sym (get_or-drop 12 p j 0))

both_false : (x y : Bool) → x ≡ y → (x && y) ≡ false → x ≡ false
both_false true true e h = h
both_false true false e h = e
both_false false y e h = refl

module _ (a b : List ℕ) (pid d e : ℕ) (small : pid < 8192) (k : IsPacket a) (l : IsPacket b) (one_pid : pid_of a ≡ pid_of b) where
  fronts : bytes_eq (take 6 (rewritten a pid d)) (take 6 (rewritten b pid e)) ≡ bytes_eq (take 6 a) (take 6 b)
  fronts =
      let A = rewritten a pid d in
      let B = rewritten b pid e in
      let m = moved a pid d small k in
      let n = moved b pid e small l in
      same_answer (bytes_eq (take 6 A) (take 6 B)) (bytes_eq (take 6 a) (take 6 b)) (bytes_eq-Decides (take 6 A) (take 6 B)) (bytes_eq-Decides (take 6 a) (take 6 b))
      (λ (h : take 6 A ≡ take 6 B). bytes_front a b 6 (omega (arith, k.whole)) (omega (arith, l.whole)) (taken_equal a b A B pid k l m n one_pid (front_bytes A B 6 h)))
      (λ (h : take 6 a ≡ take 6 b). bytes_front A B 6 (omega (arith, m.packet.whole)) (omega (arith, n.packet.whole)) (sent_equal a b A B pid k l m n one_pid (front_bytes a b 6 h)))

  backs : bytes_eq (drop 12 (rewritten a pid d)) (drop 12 (rewritten b pid e)) ≡ bytes_eq (drop 12 a) (drop 12 b)
  backs =
      let x = back_same a (rewritten a pid d) pid k (moved a pid d small k) in
      let y = back_same b (rewritten b pid e) pid l (moved b pid e small l) in
      rw (x, y) refl

  -- without a PCR in both, equal packets are sent as equal ones, and no others
  wholes : (pcr_flag_of a && pcr_flag_of b) ≡ false → bytes_eq (rewritten a pid d) (rewritten b pid e) ≡ bytes_eq a b
  wholes off =
      let A = rewritten a pid d in
      let B = rewritten b pid e in
      let m = moved a pid d small k in
      let n = moved b pid e small l in
      same_answer (bytes_eq A B) (bytes_eq a b) (bytes_eq-Decides A B) (bytes_eq-Decides a b)
      (λ (h : A ≡ B).
      let flags : pcr_flag_of a ≡ pcr_flag_of b = sym (same_pcr_flag a A m.head) ∙ ap pcr_flag_of h ∙ same_pcr_flag b B n.head in
      let none : pcr_flag_of a ≡ false = both_false (pcr_flag_of a) (pcr_flag_of b) flags off in
      let wa : HasPid a pid (with_pid a pid) = has_pid a pid (omega (arith, k.whole)) small in
      let wb : HasPid b pid (with_pid b pid) = has_pid b pid (omega (arith, l.whole)) small in
      let plain : with_pid a pid ≡ with_pid b pid = sym (rewritten_plain a pid d none) ∙ h ∙ rewritten_plain b pid e (sym flags ∙ none) in
      ext_get_or 0 a b (k.whole ∙ sym l.whole)
      (λ j _.
      ⊎_elim
      (λ (x : j < 6). taken_equal a b A B pid k l m n one_pid (λ i _. ap (λ (q : List ℕ). get_or q i 0) h) j x)
      (λ (x : 6 ≤ j). sym (wa.others j (omega arith) (omega arith)) ∙ ap (λ (q : List ℕ). get_or q j 0) plain ∙ wb.others j (omega arith) (omega arith))
      (cases_lt j 6)))
      (λ (h : a ≡ b).
      let flags : pcr_flag_of a ≡ pcr_flag_of b = ap pcr_flag_of h in
      let none : pcr_flag_of a ≡ false = both_false (pcr_flag_of a) (pcr_flag_of b) flags off in
      rewritten_plain a pid d none ∙ ap (λ (q : List ℕ). with_pid q pid) h ∙ sym (rewritten_plain b pid e (sym flags ∙ none)))

  pub is_equal_but_pcr-rewritten : is_equal_but_pcr (rewritten a pid d) (rewritten b pid e) ≡ is_equal_but_pcr a b
  unfolding is_equal_but_pcr
  is_equal_but_pcr-rewritten =
      let x = same_pcr_flag a (rewritten a pid d) (moved a pid d small k).head in
      let y = same_pcr_flag b (rewritten b pid e) (moved b pid e small l).head in
      ⊎_elim
      (λ (t : (pcr_flag_of a && pcr_flag_of b) ≡ true). let f = fronts in let g = backs in rw (x, y, t, f, g) refl)
      (λ (f : (pcr_flag_of a && pcr_flag_of b) ≡ false). let w = wholes f in rw (x, y, f, w) refl)
      (cases_Bool (pcr_flag_of a && pcr_flag_of b))

-- ---- the counter rule

same_payload : (p q : List ℕ) → SameHead p q → has_payload_of q ≡ has_payload_of p
same_payload p q h = let e : field q 27 1 ≡ field p 27 1 = omega (arith, h.control, payload_at p, payload_at q) in rw e refl

same_counter : (p q : List ℕ) → SameHead p q → continuity_counter_of q ≡ continuity_counter_of p
same_counter p q h = omega (arith, h.control, counter_at p, counter_at q)

same_discontinuity : (p q : List ℕ) → SameHead p q → discontinuity_indicator_of q ≡ discontinuity_indicator_of p
same_discontinuity p q h =
    let a : field q 26 1 ≡ field p 26 1 = omega (arith, h.control, adaptation_at p, adaptation_at q) in
    let b : field q 32 8 ≡ field p 32 8 = omega (arith, h.length, length_at p, length_at q) in
    let c : field q 40 1 ≡ field p 40 1 = omega (arith, h.flags, discontinuity_at p, discontinuity_at q) in
    rw (a, b, c) refl

-- q is sent on the PID `to` in place of p, which was of the PID `from`
pub record IsRewritten (from to : ℕ) (p q : List ℕ) : Type 0 where
  pub packet : IsPacket p
  pub pid : pid_of p ≡ from
  pub delay : ℕ
  pub sent : q ≡ rewritten p to delay

pub is_copy-rewritten : (from to : ℕ) (a b A B : List ℕ) → to < 8192 → IsRewritten from to a A → IsRewritten from to b B → is_copy A B ≡ is_copy a b
unfolding is_copy
is_copy-rewritten from to a b A B small m n =
    let x = moved a to m.delay small m.packet in
    let y = moved b to n.delay small n.packet in
    let p = same_payload a (rewritten a to m.delay) x.head in
    let q = same_payload b (rewritten b to n.delay) y.head in
    let r = same_counter a (rewritten a to m.delay) x.head in
    let s = same_counter b (rewritten b to n.delay) y.head in
    let e = is_equal_but_pcr-rewritten a b to m.delay n.delay small m.packet n.packet (m.pid ∙ sym n.pid) in
    rw (m.sent, n.sent, p, q, r, s, e) refl

-- the same of the packet before the last, where there is one
abbrev pub IsRewrittenOption : ℕ → ℕ → Option (List ℕ) → Option (List ℕ) → Type 0
IsRewrittenOption from to None None = Unit {0}
IsRewrittenOption from to None (Some q) = ⊥
IsRewrittenOption from to (Some p) None = ⊥
IsRewrittenOption from to (Some p) (Some q) = IsRewritten from to p q

same_second : (from to : ℕ) (before sent : Option (List ℕ)) (p q : List ℕ) → to < 8192 → IsRewrittenOption from to before sent → IsRewritten from to p q → is_second_copy sent q ≡ is_second_copy before p
unfolding is_second_copy
same_second from to None None p q small b m = refl
same_second from to None (Some y) p q small b m = absurd b
same_second from to (Some x) None p q small b m = absurd b
same_second from to (Some x) (Some y) p q small b m = is_copy-rewritten from to x p y q small b m

pub follows_of-rewritten : (from to : ℕ) (before sent : Option (List ℕ)) (a b A B : List ℕ) → to < 8192 → IsRewrittenOption from to before sent → IsRewritten from to a A → IsRewritten from to b B → follows_of sent A B ≡ follows_of before a b
unfolding follows_of
follows_of-rewritten from to before sent a b A B small o m n =
    let x = moved a to m.delay small m.packet in
    let y = moved b to n.delay small n.packet in
    let c = is_copy-rewritten from to a b A B small m n in
    let s = same_second from to before sent a A small o m in
    let d : discontinuity_indicator_of B ≡ discontinuity_indicator_of b = ap discontinuity_indicator_of n.sent ∙ same_discontinuity b (rewritten b to n.delay) y.head in
    let p : has_payload_of B ≡ has_payload_of b = ap has_payload_of n.sent ∙ same_payload b (rewritten b to n.delay) y.head in
    let q : continuity_counter_of B ≡ continuity_counter_of b = ap continuity_counter_of n.sent ∙ same_counter b (rewritten b to n.delay) y.head in
    let r : continuity_counter_of A ≡ continuity_counter_of a = ap continuity_counter_of m.sent ∙ same_counter a (rewritten a to m.delay) x.head in
    rw (c, s, d, p, q, r) refl

-- the packets of qs are sent on the PID `to` in place of those of ps, in order
abbrev pub AreRewritten : ℕ → ℕ → List (List ℕ) → List (List ℕ) → Type 0
AreRewritten from to [] [] = Unit {0}
AreRewritten from to [] (q ∷ qs) = ⊥
AreRewritten from to (p ∷ ps) [] = ⊥
AreRewritten from to (p ∷ ps) (q ∷ qs) = IsRewritten from to p q × AreRewritten from to ps qs

lawful_behind-rewritten : (from to : ℕ) (before sent : Option (List ℕ)) (a A : List ℕ) (ps qs : List (List ℕ)) → to < 8192 → IsRewrittenOption from to before sent → IsRewritten from to a A → AreRewritten from to ps qs → lawful_behind sent A qs ≡ lawful_behind before a ps
lawful_behind-rewritten from to before sent a A [] [] small o m h = refl
lawful_behind-rewritten from to before sent a A [] (q ∷ qs) small o m h = absurd h
lawful_behind-rewritten from to before sent a A (p ∷ ps) [] small o m h = absurd h
lawful_behind-rewritten from to before sent a A (p ∷ ps) (q ∷ qs) small o m h =
    let one = follows_of-rewritten from to before sent a p A q small o m h.0 in
    let rest = lawful_behind-rewritten from to (Some a) (Some A) p q ps qs small m h.0 h.1 in
    rw (one, rest) refl

-- each packet that is sent is lawful exactly where the one that was taken is
pub lawful_of-rewritten : (from to : ℕ) (ps qs : List (List ℕ)) → to < 8192 → AreRewritten from to ps qs → lawful_of qs ≡ lawful_of ps
lawful_of-rewritten from to [] [] small h = refl
lawful_of-rewritten from to [] (q ∷ qs) small h = absurd h
lawful_of-rewritten from to (p ∷ ps) [] small h = absurd h
lawful_of-rewritten from to (p ∷ ps) (q ∷ qs) small h = ap (λ (l : List Bool). true ∷ l) (lawful_behind-rewritten from to None None p q ps qs small tt h.0 h.1)
