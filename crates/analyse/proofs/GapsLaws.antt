-- The gap watches of all PIDs, behind one more number of slots.
use Rattle.std.proofs.Common.{◌≡◌, ◌≢◌, ℕ, zero, suc, ◌+◌, ◌-◌, ◌<◌, ◌≤◌, List, [], ◌++◌, length, get_or, refl, sym, ◌∙◌, ap, subst, arith, append_assoc, Option, Some, None, Bool, true, false, ◌&&◌, ◌||◌, ◌⊎◌, inl, inr, ⊎_elim}
use Rattle.std.specs.Prelude.{◌==◌, not, set}
use Rattle.std.specs.Option.{ForSome}
use Rattle.std.specs.List.{flat_map, range_with_len}
use Rattle.std.proofs.lemmas.Bool.{cases_eq, false_from_ne_true}
use Rattle.std.proofs.lemmas.Bool.Decides.{Decides-eqb, nat_tests}
use Rattle.std.proofs.lemmas.List.{get_or-set_same, get_or-set_other, get_or_default, append-nil}
use Rattle.tspkt.specs.Packet.{pid_of}
use Rattle.analyse.specs.Gaps.{is_gap_at}
use Rattle.analyse.specs.Faults.{told_if}
use Rattle.analyse.specs.GapWatching.{IsSince, since_behind, is_long}
use Rattle.analyse.specs.GapsWatching.{GapsState, is_watched, since_of, is_of_packet, has_mark, changed, ChangesTo, IsChangedAt, IsChangedBelow, HaveSeenNumbers, OnlyMarked, IsLowered, IsDue, is_also, told_also, gaps_at, long_gaps}
use Rattle.analyse.specs.declared.fault_kind.FaultKind.{FaultKind}
use Rattle.analyse.specs.declared.fault.Fault.{Fault}
use Rattle.analyse.proofs.RangeLaws.{flat_more}
use Rattle.analyse.proofs.GapLaws.{since_more, since_quiet, since_agree, told_now}

-- a number at which no watched PID has a mark
quiet_pid : (w : GapsState) (watched mark : ℕ → ℕ → Bool) (count pid : ℕ) (packet : Option (List ℕ)) → HaveSeenNumbers w watched mark count → OnlyMarked w watched mark count packet → pid < 8192 → mark pid count ≡ false → IsSince (watched pid) (mark pid) (count + 1) (since_of w pid)
quiet_pid w watched mark count pid packet s o h q =
    since_quiet (watched pid) (mark pid) count (since_of w pid) (λ off. s.closed pid h (sym (o.same pid h) ∙ off)) q (s.since pid h)

due_stays : (w : GapsState) (watched mark : ℕ → ℕ → Bool) (count : ℕ) → HaveSeenNumbers w watched mark count → IsDue w (count + 1 - 1) w.due
due_stays w watched mark count s = λ pid since h e le. s.due pid since h e (omega arith)

pub pass_none : (w : GapsState) (watched mark : ℕ → ℕ → Bool) (count : ℕ) → HaveSeenNumbers w watched mark count → OnlyMarked w watched mark count None → HaveSeenNumbers w watched mark (count + 1)
pass_none w watched mark count s o = record {
  since = λ pid h. quiet_pid w watched mark count pid None s o h (o.only pid h);
  closed = s.closed;
  due = due_stays w watched mark count s;
}

-- the marked PID isn't watched
pub pass_unwatched : (w : GapsState) (watched mark : ℕ → ℕ → Bool) (count : ℕ) (packet : List ℕ) → pid_of packet < 8192 → is_watched w (pid_of packet) ≡ false → HaveSeenNumbers w watched mark count → OnlyMarked w watched mark count (Some packet) → HaveSeenNumbers w watched mark (count + 1)
pass_unwatched w watched mark count packet small off s o = record {
  since = λ pid h.
      ⊎_elim
      (λ (same : pid ≡ pid_of packet).
      let none : since_of w pid ≡ None = s.closed pid h (ap (is_watched w) same ∙ off) in
      let unwatched : watched pid count ≡ false = o.same pid h ∙ ap (is_watched w) same ∙ off in
      let marked : mark pid count ≡ true = o.only pid h ∙ (Decides-eqb (pid_of packet) pid).1 (sym same) in
      rw none (since_more (watched pid) (mark pid) count (since_of w pid) false true unwatched marked (s.since pid h)))
      (λ (differ : pid ≢ pid_of packet).
      quiet_pid w watched mark count pid (Some packet) s o h
      (o.only pid h ∙ false_from_ne_true (pid_of packet == pid) (λ t. differ (sym ((Decides-eqb (pid_of packet) pid).0 t)))))
      (cases_eq pid (pid_of packet));
  closed = s.closed;
  due = due_stays w watched mark count s;
}

-- the marked PID is watched
pub pass_watched : (w : GapsState) (watched mark : ℕ → ℕ → Bool) (count due : ℕ) (packet : List ℕ) → pid_of packet < length w.since → is_watched w (pid_of packet) ≡ true → due ≤ w.due → due ≤ count + w.limit → HaveSeenNumbers w watched mark count → OnlyMarked w watched mark count (Some packet) → HaveSeenNumbers (record { limit = w.limit; watched = w.watched; since = set w.since (pid_of packet) (Some count); due = due }) watched mark (count + 1)
pass_watched w watched mark count due packet small on below at_mark s o = record {
  since = λ pid h.
      ⊎_elim
      (λ (same : pid ≡ pid_of packet).
      let now : get_or (set w.since (pid_of packet) (Some count)) pid None ≡ Some count = ap (λ (k : ℕ). get_or (set w.since (pid_of packet) (Some count)) k None) same ∙ get_or-set_same w.since (pid_of packet) (Some count) None small in
      let is_on : watched pid count ≡ true = o.same pid h ∙ ap (is_watched w) same ∙ on in
      let marked : mark pid count ≡ true = o.only pid h ∙ (Decides-eqb (pid_of packet) pid).1 (sym same) in
      rw now (since_more (watched pid) (mark pid) count (since_of w pid) true true is_on marked (s.since pid h)))
      (λ (differ : pid ≢ pid_of packet).
      let stays : get_or (set w.since (pid_of packet) (Some count)) pid None ≡ since_of w pid = get_or-set_other w.since (pid_of packet) pid (Some count) None differ in
      rw stays (quiet_pid w watched mark count pid (Some packet) s o h
      (o.only pid h ∙ false_from_ne_true (pid_of packet == pid) (λ t. differ (sym ((Decides-eqb (pid_of packet) pid).0 t))))))
      (cases_eq pid (pid_of packet));
  closed = λ pid h off.
      let differ : pid ≢ pid_of packet = λ same. absurd (cc (ap (is_watched w) same, on, off)) in
      get_or-set_other w.since (pid_of packet) pid (Some count) None differ ∙ s.closed pid h off;
  due = λ pid since h e le.
      ⊎_elim
      (λ (same : pid ≡ pid_of packet).
      let now : get_or (set w.since (pid_of packet) (Some count)) pid None ≡ Some count = ap (λ (k : ℕ). get_or (set w.since (pid_of packet) (Some count)) k None) same ∙ get_or-set_same w.since (pid_of packet) (Some count) None small in
      let first : count ≡ since = cc in
      omega arith)
      (λ (differ : pid ≢ pid_of packet).
      let stays : get_or (set w.since (pid_of packet) (Some count)) pid None ≡ since_of w pid = get_or-set_other w.since (pid_of packet) pid (Some count) None differ in
      let old = s.due pid since h (sym stays ∙ e) (omega arith) in
      omega arith)
      (cases_eq pid (pid_of packet));
}

-- the same, where the list of those that are watched was read at the packet's PID
module _ (limit : ℕ) (ws : List Bool) (since : List (Option ℕ)) (due : ℕ) (watched mark : ℕ → ℕ → Bool) (count at : ℕ) (packet : List ℕ) (on : Bool) (e : at ≡ pid_of packet) (small : at < 8192) (whole : length ws ≡ 8192) (sinces : length since ≡ 8192) (on_is : on ≡ get_or ws at on) where
  watched_at : get_or ws (pid_of packet) false ≡ on
  watched_at = ap (λ (k : ℕ). get_or ws k false) (sym e) ∙ get_or_default ws at false on (omega arith) ∙ sym on_is

  pub pass_on : (lower : ℕ) → lower ≤ due → lower ≤ count + limit → on ≡ true → HaveSeenNumbers (record { limit = limit; watched = ws; since = since; due = due }) watched mark count → OnlyMarked (record { limit = limit; watched = ws; since = since; due = due }) watched mark count (Some packet) → HaveSeenNumbers (record { limit = limit; watched = ws; since = set since at (Some count); due = lower }) watched mark (count + 1)
  pass_on lower below at_mark t s o =
      subst (λ (k : ℕ). HaveSeenNumbers (record { limit = limit; watched = ws; since = set since k (Some count); due = lower }) watched mark (count + 1)) (sym e)
      (pass_watched (record { limit = limit; watched = ws; since = since; due = due }) watched mark count lower packet (omega arith) (watched_at ∙ t) below at_mark s o)

  pub pass_off : on ≡ false → HaveSeenNumbers (record { limit = limit; watched = ws; since = since; due = due }) watched mark count → OnlyMarked (record { limit = limit; watched = ws; since = since; due = due }) watched mark count (Some packet) → HaveSeenNumbers (record { limit = limit; watched = ws; since = since; due = due }) watched mark (count + 1)
  pass_off t s o = pass_unwatched (record { limit = limit; watched = ws; since = since; due = due }) watched mark count packet (omega arith) (watched_at ∙ t) s o

-- the tests of the PIDs of a range agree
pub told_same : (s t : ℕ → Bool) (kind : FaultKind) (m first n : ℕ) → ((pid : ℕ) → first ≤ pid → pid < first + n → s pid ≡ t pid) → flat_map (λ pid. told_if (s pid) kind m (Some pid)) (range_with_len first n) ≡ flat_map (λ pid. told_if (t pid) kind m (Some pid)) (range_with_len first n)
told_same s t kind m first zero e = refl
told_same s t kind m first (suc n) e =
    let one = e first (omega arith) (omega arith) in
    let rest = told_same s t kind m (first + 1) n (λ pid p q. e pid (omega arith) (omega arith)) in
    ap (λ (b : Bool). told_if b kind m (Some first) ++ flat_map (λ pid. told_if (s pid) kind m (Some pid)) (range_with_len (first + 1) n)) one
    ∙ ap (λ (l : List Fault). told_if (t first) kind m (Some first) ++ l) rest

pub told_none : (w : GapsState) (also : Option ℕ) (kind : FaultKind) (count : ℕ) (old : List Fault) → old ≡ old ++ long_gaps w also kind count 0
unfolding long_gaps
told_none w also kind count old = sym (append-nil old)

pub told_more : (w : GapsState) (also : Option ℕ) (kind : FaultKind) (count pid : ℕ) (old before after : List Fault) → before ≡ old ++ long_gaps w also kind count pid → after ≡ before ++ told_if (is_long w.limit count (since_of w pid) || is_also also pid) kind count (Some pid) → after ≡ old ++ long_gaps w also kind count (pid + 1)
unfolding long_gaps
told_more w also kind count pid old before after p q =
    let f = λ (k : ℕ). told_if (is_long w.limit count (since_of w k) || is_also also k) kind count (Some k) in
    let size : pid + 1 ≡ suc pid = omega arith in
    let e : 0 + pid ≡ pid = omega arith in
    q ∙ ap (λ (l : List Fault). l ++ f pid) p ∙ append_assoc old (flat_map f (range_with_len 0 pid)) (f pid)
    ∙ sym (ap (λ (k : ℕ). old ++ flat_map f (range_with_len 0 k)) size ∙ ap (λ (l : List Fault). old ++ l) (flat_more f 0 pid ∙ ap (λ (k : ℕ). flat_map f (range_with_len 0 pid) ++ f k) e))

gaps_to : (w : GapsState) (watched mark : ℕ → ℕ → Bool) (also : Option ℕ) (kind : FaultKind) (count end : ℕ) → end ≤ 8192 → HaveSeenNumbers w watched mark (count + 1) → long_gaps w also kind count end ≡ flat_map (λ pid. told_if (is_gap_at w.limit (watched pid) (mark pid) count || is_also also pid) kind count (Some pid)) (range_with_len 0 end)
unfolding long_gaps
gaps_to w watched mark also kind count end small s =
    told_same (λ pid. is_long w.limit count (since_of w pid) || is_also also pid) (λ pid. is_gap_at w.limit (watched pid) (mark pid) count || is_also also pid) kind count 0 end
    (λ pid p h. ap (λ (b : Bool). b || is_also also pid) (told_now w.limit (watched pid) (mark pid) count (since_of w pid) (s.since pid (omega arith))))

gaps_are : (limit : ℕ) (watched mark : ℕ → ℕ → Bool) (also : Option ℕ) (kind : FaultKind) (count end : ℕ) → end ≡ 8192 → flat_map (λ pid. told_if (is_gap_at limit (watched pid) (mark pid) count || is_also also pid) kind count (Some pid)) (range_with_len 0 end) ≡ gaps_at limit watched mark also kind count
unfolding gaps_at
gaps_are limit watched mark also kind count end e = ap (λ (n : ℕ). flat_map (λ pid. told_if (is_gap_at limit (watched pid) (mark pid) count || is_also also pid) kind count (Some pid)) (range_with_len 0 n)) e

pub gaps_told : (w : GapsState) (watched mark : ℕ → ℕ → Bool) (also : Option ℕ) (kind : FaultKind) (count end : ℕ) → end ≡ 8192 → HaveSeenNumbers w watched mark (count + 1) → long_gaps w also kind count end ≡ gaps_at w.limit watched mark also kind count
gaps_told w watched mark also kind count end e s = gaps_to w watched mark also kind count end (omega arith) s ∙ gaps_are w.limit watched mark also kind count end e

-- ---- a slot at which no gap falls due

not_long : (limit count due : ℕ) (o : Option ℕ) → count < due → ((since : ℕ) → o ≡ Some since → count ≤ since + limit → due ≤ since + limit) → is_long limit count o ≡ false
not_long limit count due None h d = refl
not_long limit count due (Some since) h d =
    false_from_ne_true (is_long limit count (Some since)) (λ t.
    let at : since + limit ≡ count = grind (arith, nat_tests) in
    let late = d since refl (omega arith) in
    absurd (omega arith))

none_told : (test : ℕ → Bool) (kind : FaultKind) (m first n : ℕ) → ((pid : ℕ) → first ≤ pid → test pid ≡ false) → flat_map (λ pid. told_if (test pid) kind m (Some pid)) (range_with_len first n) ≡ []
none_told test kind m first zero e = refl
none_told test kind m first (suc n) e =
    ap (λ (b : Bool). told_if b kind m (Some first) ++ flat_map (λ pid. told_if (test pid) kind m (Some pid)) (range_with_len (first + 1) n)) (e first (omega arith))
    ∙ none_told test kind m (first + 1) n (λ pid h. e pid (omega arith))

one_told : (also : ℕ) (kind : FaultKind) (m first n : ℕ) → first ≤ also → also < first + n → flat_map (λ pid. told_if (also == pid) kind m (Some pid)) (range_with_len first n) ≡ told_if true kind m (Some also)
one_told also kind m first zero p q = absurd (omega arith)
one_told also kind m first (suc n) p q =
    let rest = flat_map (λ pid. told_if (also == pid) kind m (Some pid)) (range_with_len (first + 1) n) in
    ⊎_elim
    (λ (same : first ≡ also).
    let t : (also == first) ≡ true = (Decides-eqb also first).1 (sym same) in
    let later = none_told (λ pid. also == pid) kind m (first + 1) n (λ pid h. false_from_ne_true (also == pid) (λ t. let e = (Decides-eqb also pid).0 t in absurd (omega arith))) in
    ap (λ (b : Bool). told_if b kind m (Some first) ++ rest) t ∙ ap (λ (l : List Fault). told_if true kind m (Some first) ++ l) later ∙ ap (λ (k : ℕ). told_if true kind m (Some k)) same)
    (λ (differ : first ≢ also).
    let t : (also == first) ≡ false = false_from_ne_true (also == first) (λ t. differ (sym ((Decides-eqb also first).0 t))) in
    ap (λ (b : Bool). told_if b kind m (Some first) ++ rest) t ∙ one_told also kind m (first + 1) n (omega arith) (omega arith))
    (cases_eq first also)

also_told : (also : Option ℕ) (kind : FaultKind) (m n : ℕ) → ForSome also (λ pid. pid < n) → flat_map (λ pid. told_if (is_also also pid) kind m (Some pid)) (range_with_len 0 n) ≡ told_also also kind m
also_told None kind m n h = none_told (λ pid. false) kind m 0 n (λ pid p. refl)
also_told (Some pid) kind m n h = let small : pid < n = h pid refl in one_told pid kind m 0 n (omega arith) (omega arith)

pub none_due : (w : GapsState) (watched mark : ℕ → ℕ → Bool) (also : Option ℕ) (kind : FaultKind) (count end : ℕ) → end ≡ 8192 → ForSome also (λ pid. pid < end) → count < w.due → HaveSeenNumbers w watched mark (count + 1) → gaps_at w.limit watched mark also kind count ≡ told_also also kind count
none_due w watched mark also kind count end e small early s =
    sym (gaps_told w watched mark also kind count end e s)
    ∙ unfold long_gaps in told_same (λ pid. is_long w.limit count (since_of w pid) || is_also also pid) (is_also also) kind count 0 end
    (λ pid p h. ap (λ (b : Bool). b || is_also also pid) (not_long w.limit count w.due (since_of w pid) early (λ since at le. s.due pid since (omega arith) at (omega arith))))
    ∙ also_told also kind count end small

-- the due slot found anew
pub due_anew : (w : GapsState) (watched mark : ℕ → ℕ → Bool) (count due : ℕ) → IsDue w count due → HaveSeenNumbers w watched mark (count + 1) → HaveSeenNumbers (record { limit = w.limit; watched = w.watched; since = w.since; due = due }) watched mark (count + 1)
due_anew w watched mark count due d s = record {
  since = s.since;
  closed = s.closed;
  due = λ pid since h e le. d pid since h e (omega arith);
}

-- ---- a change

-- the due slot lowered
pub lowered_seen : (w new : GapsState) (watched mark : ℕ → ℕ → Bool) (count : ℕ) → IsLowered w new count → HaveSeenNumbers w watched mark count → HaveSeenNumbers new watched mark count
lowered_seen w new watched mark count l s = record {
  since = λ pid h. subst (λ (o : List (Option ℕ)). IsSince (watched pid) (mark pid) count (get_or o pid None)) (sym l.since) (s.since pid h);
  closed = λ pid h off. ap (λ (o : List (Option ℕ)). get_or o pid None) l.since ∙ s.closed pid h (sym (ap (λ (o : List Bool). get_or o pid false) l.watched) ∙ off);
  due = λ pid since h e le.
      let at : since_of w pid ≡ Some since = sym (ap (λ (o : List (Option ℕ)). get_or o pid None) l.since) ∙ e in
      let limit = l.limit in
      let old = s.due pid since h at (omega arith) in
      let lower = l.due in
      omega arith;
}

pub lowered_changes : (w new : GapsState) (set : List Bool) (watched mark : ℕ → ℕ → Bool) (count : ℕ) (packet : Option (List ℕ)) → IsLowered w new count → ChangesTo w set watched mark count packet → ChangesTo new set watched mark count packet
lowered_changes w new set watched mark count packet l o = record {
  now = o.now;
  marks = λ pid h. o.marks pid h ∙ ap (λ (b : Bool). is_of_packet packet pid || (get_or set pid false && not b)) (sym (ap (λ (o : List Bool). get_or o pid false) l.watched));
}

pub changed_none : (w : GapsState) (set : List Bool) (packet : Option (List ℕ)) (count : ℕ) → IsChangedBelow w w set packet count 0
changed_none w set packet count = record {
  limit = refl;
  due = refl;
  since = λ pid h. absurd (omega arith);
  watched = λ pid h. absurd (omega arith);
  other_since = λ pid h. refl;
  other_watched = λ pid h. refl;
}

pub changed_more : (w old new : GapsState) (set : List Bool) (packet : Option (List ℕ)) (count pid : ℕ) (now marked : Bool) → now ≡ get_or set pid false → marked ≡ is_of_packet packet pid → IsChangedBelow w old set packet count pid → IsChangedAt old new count pid now marked → IsChangedBelow w new set packet count (pid + 1)
changed_more w old new set packet count pid now marked n m s a =
    let here : since_of new pid ≡ changed w set packet count pid =
    a.since
    ∙ ap (λ (o : Option ℕ). since_behind o count now (marked || (now && not (is_watched old pid)))) (s.other_since pid (omega arith))
    ∙ ap (λ (b : Bool). since_behind (since_of w pid) count now (marked || (now && not b))) (s.other_watched pid (omega arith))
    ∙ ap (λ (b : Bool). since_behind (since_of w pid) count b (marked || (b && not (is_watched w pid)))) n
    ∙ ap (λ (b : Bool). since_behind (since_of w pid) count (get_or set pid false) (b || (get_or set pid false && not (is_watched w pid)))) m in
    record {
      limit = a.limit ∙ s.limit;
      due = a.due ∙ s.due;
      since = λ q h.
          ⊎_elim
          (λ (same : q ≡ pid). ap (since_of new) same ∙ here ∙ ap (changed w set packet count) (sym same))
          (λ (differ : q ≢ pid). a.other_since q differ ∙ s.since q (omega arith))
          (cases_eq q pid);
      watched = λ q h.
          ⊎_elim
          (λ (same : q ≡ pid). ap (is_watched new) same ∙ a.watched ∙ n ∙ ap (λ (k : ℕ). get_or set k false) (sym same))
          (λ (differ : q ≢ pid). a.other_watched q differ ∙ s.watched q (omega arith))
          (cases_eq q pid);
      other_since = λ q h. let differ : q ≢ pid = λ e. omega arith in a.other_since q differ ∙ s.other_since q (omega arith);
      other_watched = λ q h. let differ : q ≢ pid = λ e. omega arith in a.other_watched q differ ∙ s.other_watched q (omega arith);
    }

since_is : (o : Option ℕ) (count : ℕ) (now marked : Bool) (since : ℕ) → since_behind o count now marked ≡ Some since → (count ≡ since) ⊎ (o ≡ Some since)
since_is o count false marked since e = absurd (cc)
since_is o count true true since e = inl (cc)
since_is o count true false since e = inr e

pub changed_all : (w new : GapsState) (set : List Bool) (packet : Option (List ℕ)) (watched mark : ℕ → ℕ → Bool) (count end : ℕ) → 8192 ≤ end → w.due ≤ count + w.limit → IsChangedBelow w new set packet count end → HaveSeenNumbers w watched mark count → ChangesTo w set watched mark count packet → HaveSeenNumbers new watched mark (count + 1)
changed_all w new set packet watched mark count end all at_mark s h o = record {
  since = λ pid below.
      let e = s.since pid (omega arith) in
      rw e (since_more (watched pid) (mark pid) count (since_of w pid) (get_or set pid false) (has_mark w set packet pid) (o.now pid below) (o.marks pid below) (h.since pid below));
  closed = λ pid below off.
      let out : get_or set pid false ≡ false = sym (s.watched pid (omega arith)) ∙ off in
      s.since pid (omega arith) ∙ ap (λ (b : Bool). since_behind (since_of w pid) count b (has_mark w set packet pid)) out;
  due = λ pid since below e le.
      let limit = s.limit in
      let due = s.due in
      let at : changed w set packet count pid ≡ Some since = sym (s.since pid (omega arith)) ∙ e in
      ⊎_elim
      (λ (x : count ≡ since). omega arith)
      (λ (x : since_of w pid ≡ Some since). let old = h.due pid since below x (omega arith) in omega arith)
      (since_is (since_of w pid) count (get_or set pid false) (has_mark w set packet pid) since at);
}

-- what was seen depends on the numbers that were seen alone
pub numbers_agree : (w : GapsState) (watched seen mark other : ℕ → ℕ → Bool) (count : ℕ) → ((pid k : ℕ) → k < count → watched pid k ≡ seen pid k) → ((pid k : ℕ) → k < count → mark pid k ≡ other pid k) → HaveSeenNumbers w watched mark count → HaveSeenNumbers w seen other count
numbers_agree w watched seen mark other count agree marks s = record {
  since = λ pid h. since_agree (watched pid) (seen pid) (mark pid) (other pid) count (since_of w pid) (agree pid) (marks pid) (s.since pid h);
  closed = s.closed;
  due = s.due;
}
