-- One step of framing.
use Rattle.std.proofs.Common.{◌≡◌, ℕ, zero, suc, ◌+◌, ◌-◌, ◌*◌, ◌<◌, ◌≤◌, List, [], ◌∷◌, ◌++◌, length, take, drop, get_or, refl, sym, ◌∙◌, ap, subst, arith, Bool, true, false, if◌then◌else◌, ⊎_elim, ltb, leb, ◌&&◌, ◌||◌, ◌==◌}
use Rattle.std.proofs.lemmas.List.{get_or_past, drop_all, append_assoc, length-drop, length-append, take-append-le, drop-append-le, drop-drop, get_or-drop, get_or_append_left, append-nil, take-take, take_all, length-take-le}
use Rattle.std.proofs.lemmas.Bool.{cases_lt}
use Rattle.std.proofs.lemmas.Bool.Decides.{nat_tests}
use Rattle.std.specs.Prelude.{Result, Ok, Err, OnErr}
use Rattle.tspkt.specs.Framed.{framed, framed_from, is_sync, acquires_sync, keeps_sync, lost, packets_of, FramerState, still_to_tell, TakesPiece, WantsRoom, IsFramedSoFar}
use Rattle.tspkt.specs.Stepping.{told_of_last, told_at_end, IsWaiting, TellsSame, FindsNoRoom}
use Rattle.tspkt.specs.declared.item.Item.{Item}
use Rattle.tspkt.specs.declared.item.Item.TheVariants.{Packet, Bad, SyncLoss, Lost}
use Rattle.tspkt.specs.declared.mode.Mode.{Mode}
use Rattle.tspkt.specs.declared.mode.Mode.TheVariants.{Hunting, Synced}

same_place : (stride k k' p p' : ℕ) (bytes : List ℕ) → k ≡ k' → p ≡ p' → framed_from stride (Synced k) p bytes ≡ framed_from stride (Synced k') p' bytes
same_place stride k k' p p' bytes e f = ap (λ (n : ℕ). framed_from stride (Synced n) p bytes) e ∙ ap (λ (n : ℕ). framed_from stride (Synced k') n bytes) f

-- in sync, j bytes are passed over
pub passed : (stride skip j p : ℕ) (bytes : List ℕ) → j ≤ skip → j ≤ length bytes → framed_from stride (Synced skip) p bytes ≡ framed_from stride (Synced (skip - j)) (p + j) (drop j bytes)
unfolding framed_from
passed stride skip zero p bytes a b = same_place stride skip (skip - 0) p (p + 0) bytes (omega arith) (omega arith)
passed stride zero (suc j) p bytes a b = absurd (omega arith)
passed stride (suc skip) (suc j) p [] a b = absurd (omega arith)
passed stride (suc skip) (suc j) p (x ∷ bytes) a b =
    passed stride skip j (p + 1) bytes (omega arith) (omega arith)
    ∙ same_place stride (skip - j) (suc skip - suc j) (p + 1 + j) (p + suc j) (drop j bytes) (omega arith) (omega arith)

stays_by_sync : (stride : ℕ) (bytes : List ℕ) → is_sync bytes stride ≡ true → keeps_sync stride bytes ≡ true
stays_by_sync stride bytes t = rw t (elim (leb (length bytes) stride) as (λ v. (v || true) ≡ true) [ true ↦ refl | false ↦ refl ])

stays_at_end : (stride : ℕ) (bytes : List ℕ) → length bytes ≤ stride → keeps_sync stride bytes ≡ true
stays_at_end stride bytes l = let n : leb (length bytes) stride ≡ true = grind (arith, nat_tests) in rw n refl

leaves : (stride : ℕ) (bytes : List ℕ) → stride < length bytes → is_sync bytes stride ≡ false → keeps_sync stride bytes ≡ false
leaves stride bytes l t = let n : leb (length bytes) stride ≡ false = grind (arith, nat_tests) in rw (n, t) refl

-- past the end there is no sync byte
pub short : (stride : ℕ) (bytes : List ℕ) → length bytes ≤ 4 * stride → acquires_sync stride bytes ≡ false
short stride bytes l =
    let past : get_or bytes (4 * stride) 0 ≡ 0 = get_or_past bytes (4 * stride) 0 l in
    let none : is_sync bytes (4 * stride) ≡ false = rw past refl in
    rw none (elim (((is_sync bytes 0 && is_sync bytes stride) && is_sync bytes (2 * stride)) && is_sync bytes (3 * stride)) as (λ v. (v && false) ≡ false) [ true ↦ refl | false ↦ refl ])

-- past a whole packet
over_packet : (stride p : ℕ) (bytes : List ℕ) → 188 ≤ stride → 187 ≤ length bytes → framed_from stride (Synced (stride - 1)) (p + 1) bytes ≡ framed_from stride (Synced (stride - 188)) (p + 188) (drop 187 bytes)
over_packet stride p bytes h l =
    passed stride (stride - 1) 187 (p + 1) bytes (omega arith) l
    ∙ same_place stride (stride - 1 - 187) (stride - 188) (p + 1 + 187) (p + 188) (drop 187 bytes) (omega arith) (omega arith)

pub told_packet : (stride p : ℕ) (bytes : List ℕ) → 188 ≤ stride → 188 ≤ length bytes → is_sync bytes 0 ≡ true → framed_from stride (Synced 0) p bytes ≡ Packet p (take 188 bytes) ∷ framed_from stride (Synced (stride - 188)) (p + 188) (drop 188 bytes)
unfolding framed_from
told_packet stride p [] h l s = absurd (omega arith)
told_packet stride p (b ∷ bytes) h l s =
    let n : ltb (suc (length bytes)) 188 ≡ false = grind (arith, nat_tests) in
    rw (n, s) (ap (λ (rest : List Item). Packet p (b ∷ take 187 bytes) ∷ rest) (over_packet stride p bytes h (omega arith)))

-- past a whole packet and the bytes behind it
over_whole : (stride p : ℕ) (bytes : List ℕ) → 188 ≤ stride → stride ≤ length bytes → framed_from stride (Synced (stride - 188)) (p + 188) (drop 188 bytes) ≡ framed_from stride (Synced 0) (p + stride) (drop stride bytes)
over_whole stride p bytes h l =
    let whole : 188 + (stride - 188) ≡ stride = omega arith in
    passed stride (stride - 188) (stride - 188) (p + 188) (drop 188 bytes) (omega arith) (simp length-drop (omega arith))
    ∙ same_place stride (stride - 188 - (stride - 188)) 0 (p + 188 + (stride - 188)) (p + stride) (drop (stride - 188) (drop 188 bytes)) (omega arith) (omega arith)
    ∙ ap (framed_from stride (Synced 0) (p + stride)) (drop-drop (stride - 188) 188 bytes ∙ ap (λ (n : ℕ). drop n bytes) whole)

pub told_whole : (stride p : ℕ) (bytes : List ℕ) → 188 ≤ stride → stride ≤ length bytes → is_sync bytes 0 ≡ true → framed_from stride (Synced 0) p bytes ≡ Packet p (take 188 bytes) ∷ framed_from stride (Synced 0) (p + stride) (drop stride bytes)
told_whole stride p bytes h l s =
    told_packet stride p bytes h (omega arith) s ∙ ap (λ (rest : List Item). Packet p (take 188 bytes) ∷ rest) (over_whole stride p bytes h l)

pub told_bad : (stride p : ℕ) (bytes : List ℕ) → 188 ≤ stride → stride < length bytes → is_sync bytes 0 ≡ false → is_sync bytes stride ≡ true → framed_from stride (Synced 0) p bytes ≡ Bad p ∷ framed_from stride (Synced 0) (p + stride) (drop stride bytes)
unfolding framed_from
told_bad stride p [] h l s t = absurd (omega arith)
told_bad stride p (b ∷ bytes) h l s t =
    let n : ltb (suc (length bytes)) 188 ≡ false = grind (arith, nat_tests) in
    let st : keeps_sync stride (b ∷ bytes) ≡ true = stays_by_sync stride (b ∷ bytes) t in
    let whole : stride ≡ suc (stride - 1) = omega arith in
    let past = passed stride (stride - 1) (stride - 1) (p + 1) bytes (omega arith) (omega arith) ∙ same_place stride (stride - 1 - (stride - 1)) 0 (p + 1 + (stride - 1)) (p + stride) (drop (stride - 1) bytes) (omega arith) (omega arith) in
    rw (n, s, st) (ap (λ (rest : List Item). Bad p ∷ rest) (past ∙ ap (λ (k : ℕ). framed_from stride (Synced 0) (p + stride) (drop k (b ∷ bytes))) (sym whole)))

pub told_loss : (stride p : ℕ) (bytes : List ℕ) → 188 ≤ stride → stride < length bytes → is_sync bytes 0 ≡ false → is_sync bytes stride ≡ false → framed_from stride (Synced 0) p bytes ≡ SyncLoss p ∷ framed_from stride (Hunting p) (p + 1) (drop 1 bytes)
unfolding framed_from
told_loss stride p [] h l s t = absurd (omega arith)
told_loss stride p (b ∷ bytes) h l s t =
    let n : ltb (suc (length bytes)) 188 ≡ false = grind (arith, nat_tests) in
    let st : keeps_sync stride (b ∷ bytes) ≡ false = leaves stride (b ∷ bytes) l t in
    rw (n, s, st) refl

pub told_acquired : (stride a p : ℕ) (bytes : List ℕ) → 188 ≤ stride → 4 * stride < length bytes → acquires_sync stride bytes ≡ true → framed_from stride (Hunting a) p bytes ≡ lost a p ++ Packet p (take 188 bytes) ∷ framed_from stride (Synced (stride - 188)) (p + 188) (drop 188 bytes)
unfolding framed_from
told_acquired stride a p [] h l s = absurd (omega arith)
told_acquired stride a p (b ∷ bytes) h l s =
    rw s (ap (λ (rest : List Item). lost a p ++ Packet p (b ∷ take 187 bytes) ∷ rest) (over_packet stride p bytes h (omega arith)))

pub acquired_whole : (stride a p : ℕ) (bytes : List ℕ) → 188 ≤ stride → 4 * stride < length bytes → acquires_sync stride bytes ≡ true → framed_from stride (Hunting a) p bytes ≡ lost a p ++ Packet p (take 188 bytes) ∷ framed_from stride (Synced 0) (p + stride) (drop stride bytes)
acquired_whole stride a p bytes h l s =
    told_acquired stride a p bytes h l s ∙ ap (λ (rest : List Item). lost a p ++ Packet p (take 188 bytes) ∷ rest) (over_whole stride p bytes h (omega arith))

pub told_nothing : (stride a p : ℕ) (bytes : List ℕ) → 0 < length bytes → acquires_sync stride bytes ≡ false → framed_from stride (Hunting a) p bytes ≡ framed_from stride (Hunting a) (p + 1) (drop 1 bytes)
unfolding framed_from
told_nothing stride a p [] l s = absurd (omega arith)
told_nothing stride a p (b ∷ bytes) l s = rw s refl

-- at the end
pub hunting_ends : (stride a p : ℕ) (bytes : List ℕ) → length bytes ≤ 4 * stride → framed_from stride (Hunting a) p bytes ≡ lost a (p + length bytes)
unfolding framed_from
hunting_ends stride a p [] l = ap (lost a) (omega arith)
hunting_ends stride a p (b ∷ bytes) l =
    let none : acquires_sync stride (b ∷ bytes) ≡ false = short stride (b ∷ bytes) l in
    rw none (hunting_ends stride a (p + 1) bytes (omega arith) ∙ ap (lost a) (omega arith))

-- in sync, with less than a packet
pub synced_ends : (stride p : ℕ) (bytes : List ℕ) → 0 < length bytes → length bytes < 188 → framed_from stride (Synced 0) p bytes ≡ Lost (length bytes) ∷ []
unfolding framed_from
synced_ends stride p [] h l = absurd (omega arith)
synced_ends stride p (b ∷ bytes) h l =
    let n : ltb (suc (length bytes)) 188 ≡ true = grind (arith, nat_tests) in
    rw n refl

-- a bad packet at the end
pub bad_ends : (stride p : ℕ) (bytes : List ℕ) → 188 ≤ length bytes → length bytes ≤ stride → is_sync bytes 0 ≡ false → framed_from stride (Synced 0) p bytes ≡ Bad p ∷ []
unfolding framed_from
bad_ends stride p [] h l s = absurd (omega arith)
bad_ends stride p (b ∷ bytes) h l s =
    let n : ltb (suc (length bytes)) 188 ≡ false = grind (arith, nat_tests) in
    let st : keeps_sync stride (b ∷ bytes) ≡ true = stays_at_end stride (b ∷ bytes) l in
    let past = passed stride (stride - 1) (length bytes) (p + 1) bytes (omega arith) (omega arith) ∙ ap (framed_from stride (Synced (stride - 1 - length bytes)) (p + 1 + length bytes)) (drop_all (length bytes) bytes (omega arith)) in
    rw (n, s, st) (ap (λ (rest : List Item). Bad p ∷ rest) past)

-- ---- steps over a front of the stream

-- what w has from place `at` on, and whatever comes after
module _ (w : List ℕ) (at : ℕ) (more : List ℕ) where
  front_get : (i : ℕ) → at + i < length w → get_or (drop at w ++ more) i 0 ≡ get_or w (at + i) 0
  front_get i h = get_or_append_left (drop at w) more 0 i (simp length-drop (omega arith)) ∙ get_or-drop at w i 0

  front_long : length (drop at w ++ more) ≡ length w - at + length more
  front_long = length-append (drop at w) more ∙ ap (λ (n : ℕ). n + length more) (length-drop at w)

  front_take : (n : ℕ) → at + n ≤ length w → take n (drop at w ++ more) ≡ take n (drop at w)
  front_take n h = take-append-le n (drop at w) more (simp length-drop (omega arith))

  front_drop : (n : ℕ) → at + n ≤ length w → drop n (drop at w ++ more) ≡ drop (at + n) w ++ more
  front_drop n h = drop-append-le n (drop at w) more (simp length-drop (omega arith)) ∙ ap (λ (l : List ℕ). l ++ more) (drop-drop n at w)

  front_test : (i : ℕ) → at + i < length w → is_sync (drop at w ++ more) i ≡ (get_or w (at + i) 0 == 71)
  front_test i h = ap (λ (n : ℕ). n == 71) (front_get i h)

  front_first : (v : Bool) → (get_or w at 0 == 71) ≡ v → at < length w → is_sync (drop at w ++ more) 0 ≡ v
  front_first v e h = let same : at + 0 ≡ at = omega arith in front_test 0 (omega arith) ∙ ap (λ (n : ℕ). get_or w n 0 == 71) same ∙ e

  front_same : (i : ℕ) → at + i < length w → is_sync (drop at w ++ more) i ≡ is_sync (drop at w) i
  front_same i h = ap (λ (n : ℕ). n == 71) (get_or_append_left (drop at w) more 0 i (simp length-drop (omega arith)))

  front_acquires : (stride : ℕ) → at + 4 * stride < length w → acquires_sync stride (drop at w ++ more) ≡ acquires_sync stride (drop at w)
  front_acquires stride h =
      let a = front_same 0 (omega arith) in
      let b = front_same stride (omega arith) in
      let c = front_same (2 * stride) (omega arith) in
      let d = front_same (3 * stride) (omega arith) in
      let e = front_same (4 * stride) h in
      rw (a, b, c, d, e) refl

-- what was told, with one item more
push_item : (out told : List Item) (x : Item) (rest : List Item) → told ≡ out ++ x ∷ [] → told ++ rest ≡ out ++ x ∷ rest
push_item out told x rest e = ap (λ (l : List Item). l ++ rest) e ∙ append_assoc out (x ∷ []) rest

module _ (stride base : ℕ) (w : List ℕ) (out told : List Item) (at : ℕ) where
  pub goes_packet : (bytes : List ℕ) → 188 ≤ stride → at + 188 ≤ length w → (get_or w at 0 == 71) ≡ true → bytes ≡ take 188 (drop at w) → told ≡ out ++ Packet (base + at) bytes ∷ [] → TellsSame stride base w out (Synced 0) at told (Synced (stride - 188)) (at + 188)
  goes_packet bytes h l s b e = record {
    within = l;
    same = λ more.
        let v = drop at w ++ more in
        let long : 188 ≤ length v = omega (arith, front_long w at more) in
        let one = told_packet stride (base + at) v h long (front_first w at more true s (omega arith)) in
        push_item out told (Packet (base + at) bytes) _ e
        ∙ ap (λ (rest : List Item). out ++ rest) (
        ap (λ (l : List ℕ). Packet (base + at) l ∷ framed_from stride (Synced (stride - 188)) (base + (at + 188)) (drop (at + 188) w ++ more)) (b ∙ sym (front_take w at more 188 l))
        ∙ ap (λ (l : List ℕ). Packet (base + at) (take 188 v) ∷ framed_from stride (Synced (stride - 188)) (base + (at + 188)) l) (sym (front_drop w at more 188 l))
        ∙ ap (λ (n : ℕ). Packet (base + at) (take 188 v) ∷ framed_from stride (Synced (stride - 188)) n (drop 188 v)) (omega arith)
        ∙ sym one);
  }

  pub goes_bad : 188 ≤ stride → at + stride < length w → (get_or w at 0 == 71) ≡ false → (get_or w (at + stride) 0 == 71) ≡ true → told ≡ out ++ Bad (base + at) ∷ [] → TellsSame stride base w out (Synced 0) at told (Synced 0) (at + stride)
  goes_bad h l s t e = record {
    within = omega arith;
    same = λ more.
        let v = drop at w ++ more in
        let long : stride < length v = omega (arith, front_long w at more) in
        let one = told_bad stride (base + at) v h long (front_first w at more false s (omega arith)) (front_test w at more stride l ∙ t) in
        push_item out told (Bad (base + at)) _ e
        ∙ ap (λ (rest : List Item). out ++ rest) (
        ap (λ (l : List ℕ). Bad (base + at) ∷ framed_from stride (Synced 0) (base + (at + stride)) l) (sym (front_drop w at more stride (omega arith)))
        ∙ ap (λ (n : ℕ). Bad (base + at) ∷ framed_from stride (Synced 0) n (drop stride v)) (omega arith)
        ∙ sym one);
  }

  pub goes_loss : 188 ≤ stride → at + stride < length w → (get_or w at 0 == 71) ≡ false → (get_or w (at + stride) 0 == 71) ≡ false → told ≡ out ++ SyncLoss (base + at) ∷ [] → TellsSame stride base w out (Synced 0) at told (Hunting (base + at)) (at + 1)
  goes_loss h l s t e = record {
    within = omega arith;
    same = λ more.
        let v = drop at w ++ more in
        let long : stride < length v = omega (arith, front_long w at more) in
        let one = told_loss stride (base + at) v h long (front_first w at more false s (omega arith)) (front_test w at more stride l ∙ t) in
        push_item out told (SyncLoss (base + at)) _ e
        ∙ ap (λ (rest : List Item). out ++ rest) (
        ap (λ (l : List ℕ). SyncLoss (base + at) ∷ framed_from stride (Hunting (base + at)) (base + (at + 1)) l) (sym (front_drop w at more 1 (omega arith)))
        ∙ ap (λ (n : ℕ). SyncLoss (base + at) ∷ framed_from stride (Hunting (base + at)) n (drop 1 v)) (omega arith)
        ∙ sym one);
  }

  pub goes_past : (skip j : ℕ) → j ≤ skip → at + j ≤ length w → told ≡ out → TellsSame stride base w out (Synced skip) at told (Synced (skip - j)) (at + j)
  goes_past skip j a l e = record {
    within = l;
    same = λ more.
        let v = drop at w ++ more in
        let long : j ≤ length v = omega (arith, front_long w at more) in
        ap (λ (l : List Item). l ++ framed_from stride (Synced (skip - j)) (base + (at + j)) (drop (at + j) w ++ more)) e
        ∙ ap (λ (rest : List Item). out ++ rest) (
        ap (λ (l : List ℕ). framed_from stride (Synced (skip - j)) (base + (at + j)) l) (sym (front_drop w at more j l))
        ∙ ap (λ (n : ℕ). framed_from stride (Synced (skip - j)) n (drop j v)) (omega arith)
        ∙ sym (passed stride skip j (base + at) v a long));
  }

  pub goes_on : (a : ℕ) → 188 ≤ stride → at + 4 * stride < length w → acquires_sync stride (drop at w) ≡ false → told ≡ out → TellsSame stride base w out (Hunting a) at told (Hunting a) (at + 1)
  goes_on a h l s e = record {
    within = omega arith;
    same = λ more.
        let v = drop at w ++ more in
        let long : 0 < length v = omega (arith, front_long w at more) in
        ap (λ (l : List Item). l ++ framed_from stride (Hunting a) (base + (at + 1)) (drop (at + 1) w ++ more)) e
        ∙ ap (λ (rest : List Item). out ++ rest) (
        ap (λ (l : List ℕ). framed_from stride (Hunting a) (base + (at + 1)) l) (sym (front_drop w at more 1 (omega arith)))
        ∙ ap (λ (n : ℕ). framed_from stride (Hunting a) n (drop 1 v)) (omega arith)
        ∙ sym (told_nothing stride a (base + at) v long (front_acquires w at more stride l ∙ s)));
  }

  pub goes_acquired : (a : ℕ) (bytes : List ℕ) (found : List Item) → 188 ≤ stride → at + 4 * stride < length w → acquires_sync stride (drop at w) ≡ true → bytes ≡ take 188 (drop at w) → found ≡ out ++ lost a (base + at) → told ≡ found ++ Packet (base + at) bytes ∷ [] → TellsSame stride base w out (Hunting a) at told (Synced (stride - 188)) (at + 188)
  goes_acquired a bytes found h l s b f e = record {
    within = omega arith;
    same = λ more.
        let v = drop at w ++ more in
        let long : 4 * stride < length v = omega (arith, front_long w at more) in
        let one = told_acquired stride a (base + at) v h long (front_acquires w at more stride l ∙ s) in
        let fits : at + 188 ≤ length w = omega arith in
        push_item found told (Packet (base + at) bytes) _ e
        ∙ ap (λ (l : List Item). l ++ Packet (base + at) bytes ∷ framed_from stride (Synced (stride - 188)) (base + (at + 188)) (drop (at + 188) w ++ more)) f
        ∙ append_assoc out (lost a (base + at)) (Packet (base + at) bytes ∷ framed_from stride (Synced (stride - 188)) (base + (at + 188)) (drop (at + 188) w ++ more))
        ∙ ap (λ (rest : List Item). out ++ rest) (
        ap (λ (l : List ℕ). lost a (base + at) ++ Packet (base + at) l ∷ framed_from stride (Synced (stride - 188)) (base + (at + 188)) (drop (at + 188) w ++ more)) (b ∙ sym (front_take w at more 188 fits))
        ∙ ap (λ (l : List ℕ). lost a (base + at) ++ Packet (base + at) (take 188 v) ∷ framed_from stride (Synced (stride - 188)) (base + (at + 188)) l) (sym (front_drop w at more 188 fits))
        ∙ ap (λ (n : ℕ). lost a (base + at) ++ Packet (base + at) (take 188 v) ∷ framed_from stride (Synced (stride - 188)) n (drop 188 v)) (omega arith)
        ∙ sym one);
  }

-- a step that would tell more items than there are places
pub no_room : (stride base : ℕ) (w : List ℕ) (out told : List Item) (mode after : Mode) (at next places : ℕ) → TellsSame stride base w out mode at told after next → places < length told
    → FindsNoRoom stride base w out mode at places
no_room stride base w out told mode after at next places goes full = record {
  decided = told;
  come = λ more. (framed_from stride after (base + next) (drop next w ++ more), goes.same more);
  full = full;
}

-- the same behind other steps
pub no_room_behind : (stride base : ℕ) (w : List ℕ) (out told : List Item) (mode after : Mode) (next places more_places : ℕ) → TellsSame stride base w out mode 0 told after next
    → FindsNoRoom stride base w told after next more_places → places ≤ more_places → FindsNoRoom stride base w out mode 0 places
no_room_behind stride base w out told mode after next places more_places goes none least = record {
  decided = none.decided;
  come = λ more. (let c = none.come more in (c.0, c.1 ∙ goes.same more));
  full = omega (arith, none.full, least);
}

-- the same of a framer that takes a piece
pub wants_room : (f : FramerState) (w piece : List ℕ) (out : List Item) (places : ℕ) → w ≡ f.kept ++ piece → FindsNoRoom f.stride f.position w out f.mode 0 places → WantsRoom f piece out places
wants_room f w piece out places is none =
    let same : f.position + 0 ≡ f.position = omega arith in
    record {
      decided = none.decided;
      come = λ more.
          (let c = none.come more in (
            c.0,
            c.1
                ∙ ap (λ (n : ℕ). out ++ framed_from f.stride f.mode n (w ++ more)) same
                ∙ ap (λ (l : List ℕ). out ++ framed_from f.stride f.mode f.position (l ++ more)) is
                ∙ ap (λ (l : List ℕ). out ++ framed_from f.stride f.mode f.position l) (append_assoc f.kept piece more),
          ));
      full = none.full;
    }

-- a front of what stays stays
pub front_kept : {X : Type 0} (n m : ℕ) (xs ys : List X) → n ≤ m → take m xs ≡ take m ys → take n xs ≡ take n ys
front_kept n m xs ys h e = sym (take-take n m xs h) ∙ ap (take n) e ∙ take-take n m ys h

-- what was told before stays in front of what is told
pub told_before : {X : Type 0} (n m : ℕ) (xs ys : List X) → n ≤ m → n ≤ length ys → take n xs ≡ take n ys → take (length (take n ys)) (take m xs) ≡ take n ys
told_before n m xs ys h l e = ap (λ (k : ℕ). take k (take m xs)) (length-take-le n ys l) ∙ take-take n m xs h ∙ e

-- the steps of a framer that takes a piece, and keeps what waits
pub takes_piece : (f old g : FramerState) (w piece : List ℕ) (out told : List Item) (mode : Mode) (done : ℕ) → f ≡ old → w ≡ f.kept ++ piece → TellsSame f.stride f.position w out f.mode 0 told mode done → take (length out) told ≡ out
    → g ≡ record { stride = f.stride; limit = f.limit; position = f.position + done; mode = mode; kept = drop done w } → TakesPiece old piece out g told
takes_piece f old g w piece out told mode done same is goes stay now =
    let zero_on : f.position + 0 ≡ f.position = omega arith in
    let after : FramerState = record { stride = f.stride; limit = f.limit; position = f.position + done; mode = mode; kept = drop done w } in
    let taken : TakesPiece f piece out after told = record {
      told_stay = stay;
      same_items = λ more.
          goes.same more
          ∙ ap (λ (n : ℕ). out ++ framed_from f.stride f.mode n (w ++ more)) zero_on
          ∙ ap (λ (l : List ℕ). out ++ framed_from f.stride f.mode f.position (l ++ more)) is
          ∙ ap (λ (l : List ℕ). out ++ framed_from f.stride f.mode f.position l) (append_assoc f.kept piece more);
      seen_is = omega (arith, goes.within, length-drop done w, ap length is, length-append f.kept piece);
      stride_is = refl;
      limit_is = refl;
    } in
    let P : FramerState → Type 0 = λ v. TakesPiece f piece out v told in
    let Q : FramerState → Type 0 = λ v. TakesPiece v piece out g told in
    subst Q same (subst P (sym now) taken)

-- the bytes that were copied to the front are those that wait
pub kept_bytes : (w copied room rest : List ℕ) (done left : ℕ) → done ≤ length w → left ≡ length w - done → left ≤ length room → copied ≡ take (length (take left room)) (drop done w) → take left (copied ++ rest) ≡ drop done w
kept_bytes w copied room rest done left within is fits copy =
    let size : length (drop done w) ≡ left = omega (arith, length-drop done w) in
    let whole : copied ≡ drop done w = copy ∙ take_all (length (take left room)) (drop done w) (omega (arith, length-take-le left room fits)) in
    take-append-le left copied rest (omega (arith, ap length whole)) ∙ ap (take left) whole ∙ take_all left (drop done w) (omega arith)

pub on_err_always : {T E P : Type 0} (result : Result T E) → P → OnErr result P
on_err_always (Ok x) h = tt
on_err_always (Err e) h = h

-- what is held fits four packets
pub waiting_short : (stride : ℕ) (mode : Mode) (held : List ℕ) → 188 ≤ stride → IsWaiting stride mode held → length held ≤ 4 * stride
waiting_short stride (Hunting a) held l h = h
waiting_short stride (Synced zero) held l h = ⊎_elim (λ (x : length held < 188). omega arith) (λ x. let short : length held ≤ stride = x.1 in omega arith) h
waiting_short stride (Synced (suc skip)) held l h = let none : length held ≡ 0 = ap length h in omega arith

-- what is told at the end
pub ends : (stride : ℕ) (mode : Mode) (p : ℕ) (held : List ℕ) → IsWaiting stride mode held → framed_from stride mode p (held ++ []) ≡ told_at_end mode p (length held)
unfolding framed_from
ends stride (Hunting a) p held h = ap (framed_from stride (Hunting a) p) (append-nil held) ∙ hunting_ends stride a p held h
ends stride (Synced zero) p [] h = refl
ends stride (Synced zero) p (b ∷ held) h =
    let some : (suc (length held) == 0) ≡ false = grind (arith, nat_tests) in
    ap (framed_from stride (Synced 0) p) (append-nil (b ∷ held))
    ∙ ⊎_elim
    (λ (x : length (b ∷ held) < 188).
    let n : ltb (suc (length held)) 188 ≡ true = grind (arith, nat_tests) in
    rw (n, some) refl)
    (λ (x : 188 ≤ length (b ∷ held)).
    let n : ltb (suc (length held)) 188 ≡ false = grind (arith, nat_tests) in
    let bad = ⊎_elim (λ (y : length (b ∷ held) < 188). absurd (omega arith)) (λ (y : (is_sync (b ∷ held) 0 ≡ false) × (length (b ∷ held) ≤ stride)). bad_ends stride p (b ∷ held) x y.1 y.0) h in
    bad ∙ sym (rw (some, n) refl))
    (cases_lt (length (b ∷ held)) 188)
ends stride (Synced (suc skip)) p held h = rw h refl

-- the end of the stream tells no packet
no_packet_lost : (a p : ℕ) → packets_of (lost a p) ≡ []
no_packet_lost a p = elim (ltb a p) as (λ v. packets_of (if v then Lost (p - a) ∷ [] else []) ≡ []) [ true ↦ refl | false ↦ refl ]

no_packet_last : (p n : ℕ) → packets_of (told_of_last p n) ≡ []
no_packet_last p n = elim (n == 0) as (λ v. packets_of (if v then [] else if ltb n 188 then Lost n ∷ [] else Bad p ∷ []) ≡ []) [
  | true ↦ refl
  | false ↦ elim (ltb n 188) as (λ v. packets_of (if v then Lost n ∷ [] else Bad p ∷ []) ≡ []) [ true ↦ refl | false ↦ refl ]
]

no_packet_end : (mode : Mode) (p n : ℕ) → packets_of (told_at_end mode p n) ≡ []
no_packet_end (Hunting a) p n = no_packet_lost a (p + n)
no_packet_end (Synced skip) p n = no_packet_last p n

pub no_packet_kept : (stride : ℕ) (mode : Mode) (p : ℕ) (held : List ℕ) → IsWaiting stride mode held → packets_of (framed_from stride mode p (held ++ [])) ≡ []
no_packet_kept stride mode p held h = ap packets_of (ends stride mode p held h) ∙ no_packet_end mode p (length held)

pub packets_of-append : (xs ys : List Item) → packets_of (xs ++ ys) ≡ packets_of xs ++ packets_of ys
packets_of-append [] ys = refl
packets_of-append (Packet p b ∷ xs) ys = ap (λ l. (p, b) ∷ l) (packets_of-append xs ys)
packets_of-append (Bad p ∷ xs) ys = packets_of-append xs ys
packets_of-append (SyncLoss p ∷ xs) ys = packets_of-append xs ys
packets_of-append (Lost n ∷ xs) ys = packets_of-append xs ys

-- where the rest has no packet, what was told has all of them
pub all_told : (told rest whole : List Item) → told ++ rest ≡ whole → packets_of rest ≡ [] → packets_of told ≡ packets_of whole
all_told told rest whole e n =
    sym (append-nil (packets_of told))
    ∙ sym (ap (λ l. packets_of told ++ l) n)
    ∙ sym (packets_of-append told rest)
    ∙ ap packets_of e

-- what was told to the end is the framing of the whole
pub whole_framed : {stride : ℕ} (f : FramerState) (told items : List Item) (bytes : List ℕ) → f.stride ≡ stride → IsFramedSoFar f told bytes → items ≡ told ++ still_to_tell f [] → items ≡ framed stride bytes
whole_framed f told items bytes s h e = e ∙ h [] ∙ ap (framed f.stride) (append-nil bytes) ∙ ap (λ (n : ℕ). framed n bytes) s

-- what was told so far begins the framing of whatever follows, and has the packets of the bytes so far
pub begins_framed : {stride : ℕ} (f : FramerState) (told : List Item) (bytes : List ℕ) → f.stride ≡ stride → IsFramedSoFar f told bytes → (more : List ℕ) → (later : List Item) × (told ++ later ≡ framed stride (bytes ++ more))
begins_framed f told bytes s h = λ more. (still_to_tell f more, h more ∙ ap (λ (n : ℕ). framed n (bytes ++ more)) s)

pub packets_framed : {stride : ℕ} (f : FramerState) (told : List Item) (bytes : List ℕ) → f.stride ≡ stride → IsFramedSoFar f told bytes → packets_of (still_to_tell f []) ≡ [] → packets_of told ≡ packets_of (framed stride bytes)
packets_framed {stride} f told bytes s h n = all_told told (still_to_tell f []) (framed stride bytes) (h [] ∙ ap (framed f.stride) (append-nil bytes) ∙ ap (λ (k : ℕ). framed k bytes) s) n

-- a framer that has something left to tell was given bytes
pub left_of_bytes : (f : FramerState) (told : List Item) (bytes : List ℕ) → IsFramedSoFar f told bytes → 0 < length (still_to_tell f []) → 0 < length bytes
unfolding framed_from
left_of_bytes f told [] h some =
    let none : length told + length (still_to_tell f []) ≡ 0 = sym (length-append told (still_to_tell f [])) ∙ ap length (h []) in
    absurd (omega (arith, none, some))
left_of_bytes f told (b ∷ bytes) h some = omega arith
