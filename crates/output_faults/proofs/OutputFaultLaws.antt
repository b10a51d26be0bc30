-- What the analyser tells of packets that are sound, and of counters.
use Rattle.std.proofs.Common.{◌≡◌, ◌≤◌, ◌≢◌, ℕ, zero, suc, ◌+◌, ◌<◌, ◌==◌, List, [], ◌∷◌, ◌++◌, length, take, drop, get_or, refl, sym, ◌∙◌, ap, subst, arith, add-one, append_assoc, Option, Some, Bool, true, false, ◌&&◌}
use Rattle.std.specs.Prelude.{not}
use Rattle.std.specs.List.{All, Contains, slice_get}
use Rattle.std.proofs.lemmas.Bool.{and_parts, eq-eqb, ne_eqb}
use Rattle.std.proofs.lemmas.List.{take-append-drop}
use Rattle.std.proofs.lemmas.List.Elements.{All-weaker, All-take, filter-append}
use Rattle.std.proofs.lemmas.Option.{slice_get_within, slice_get-get_or, get_or_from_slice_get}
use Rattle.tspkt.specs.Packet.{pid_of}
use Rattle.tspkt.specs.Counters.{lawful_of}
use Rattle.request.specs.declared.stream.Stream.{Stream}
use Rattle.emission.specs.Emission.{of_pid}
use Rattle.analyse.specs.Slots.{slot_at, is_packet, packets_of_pid, is_sync_lost_at, is_sync_byte_bad_at}
use Rattle.analyse.specs.Faults.{is_counter_bad_at, last_is_lawful, faults}
use Rattle.analyse.specs.declared.fault_kind.FaultKind.{FaultKind}
use Rattle.analyse.specs.declared.fault_kind.FaultKind.TheVariants.{TsSyncLoss, SyncByteError, ContinuityCountError}
use Rattle.analyse.specs.declared.fault.Fault.{Fault}
use Rattle.output_faults.specs.ToldFaults.{TellsNo, TellsNoSyncFault, IsOfStream, IsUnlawful, UnlawfulWentOut, counter_fault, CounterFaultsAreOfStreams, AreLawfulAsTaken, UnlawfulWasTaken, CounterFaultsAreAsTaken}
use Rattle.output_faults.proofs.ToldLaws.{PassesKind, Passes, all_pass, counter_told, lawful_there}
use Rattle.emission.proofs.CycleLaws.{filter_yes}
use Rattle.output_faults.proofs.ReadLaws.{all_kept}
use Rattle.output_faults.proofs.EmittedLaws.{IsSound}

-- a kind of which no test passes isn't told
pub none_told : (rate period : ℕ) (out : List (List ℕ)) (kind : FaultKind) → ((m : ℕ) (pid : Option ℕ) → m < length out → PassesKind rate period out kind m pid → ⊥) → TellsNo kind (faults rate period out)
none_told rate period out kind h =
    All-weaker (Passes rate period out) (λ (f : Fault). f.kind ≢ kind)
    (λ f passes is. h f.slot f.pid passes.0 (subst (λ (k : FaultKind). PassesKind rate period out k f.slot f.pid) is passes.1)) (faults rate period out) (all_pass rate period out)

-- What is asked of packets that went out for what is told of them: they are sound, and one that is unlawful at its place among those of its
-- PID is on the PID of one of these streams.
pub record AreJudged (streams : List Stream) (out : List (List ℕ)) : Type 0 where
  pub sound : All IsSound out
  pub of_stream : (m : ℕ) (q : List ℕ) → slice_get out m ≡ Some q → (pid_of q == 0x1FFF) ≡ false → IsUnlawful out m q → IsOfStream streams q
  pub range : All (λ (st : Stream). st.output_pid ≤ 0x1FFE) streams

-- ---- sync

byte_good : (out : List (List ℕ)) (m : ℕ) → All IsSound out → m < length out → is_sync_byte_bad_at out m ≡ true → ⊥
byte_good out m sound l t =
    let here = (sound m [] l).good in
    let clash : false ≡ true = sym (ap not here) ∙ t in absurd cc

sync_kept : (out : List (List ℕ)) (m : ℕ) → All IsSound out → m < length out → is_sync_lost_at out m ≡ true → ⊥
unfolding is_sync_lost_at
sync_kept out m sound l t = byte_good out m sound l (and_parts _ _ (and_parts _ _ t).0).1

pub sync_stands : (rate period : ℕ) (out : List (List ℕ)) → All IsSound out → TellsNoSyncFault (faults rate period out)
sync_stands rate period out sound = record {
  sync = none_told rate period out TsSyncLoss (λ m pid l t. sync_kept out m sound l t);
  sync_byte = none_told rate period out SyncByteError (λ m pid l t. byte_good out m sound l t);
}

-- ---- counters

-- what the analyser looks at for a packet
abbrev lawful_now : List (List ℕ) → ℕ → List ℕ → Bool
lawful_now out m q = last_is_lawful (lawful_of (packets_of_pid (pid_of q) (take (m + 1) out)))

next_kept : (pid : ℕ) (out : List (List ℕ)) (m : ℕ) (q : List ℕ) → All IsSound out → slice_get out m ≡ Some q → pid_of q ≡ pid → packets_of_pid pid (take (m + 1) out) ≡ of_pid pid (take m out) ++ q ∷ []
next_kept pid out m q sound e on =
    let some : All (λ r. is_packet r ≡ true) (take (m + 1) out) = All-take (λ r. is_packet r ≡ true) (m + 1) out (All-weaker IsSound (λ r. is_packet r ≡ true) (λ r i. i.whole) out sound) in
    ap (of_pid pid) (all_kept (take (m + 1) out) some)
    ∙ ap (λ n. of_pid pid (take n out)) (add-one m)
    ∙ filter_yes (λ r. pid_of r == pid) out m q e (eq-eqb _ _ on)

-- the packets of its PID: those before it, it, and those behind it
parted : (pid : ℕ) (out : List (List ℕ)) (m : ℕ) (q : List ℕ) → slice_get out m ≡ Some q → pid_of q ≡ pid → of_pid pid out ≡ of_pid pid (take m out) ++ q ∷ of_pid pid (drop (suc m) out)
parted pid out m q e on =
    let rest = of_pid pid (drop (suc m) out) in
    ap (of_pid pid) (sym (take-append-drop (suc m) out))
    ∙ filter-append (λ r. pid_of r == pid) (take (suc m) out) (drop (suc m) out)
    ∙ ap (λ l. l ++ rest) (filter_yes (λ r. pid_of r == pid) out m q e (eq-eqb _ _ on))
    ∙ append_assoc (of_pid pid (take m out)) (q ∷ []) rest

there : (out : List (List ℕ)) (m : ℕ) (q : List ℕ) → All IsSound out → slice_get out m ≡ Some q → slice_get (lawful_of (of_pid (pid_of q) out)) (length (of_pid (pid_of q) (take m out))) ≡ Some (lawful_now out m q)
there out m q sound e =
    let pid = pid_of q in
    ap (λ l. slice_get (lawful_of l) (length (of_pid pid (take m out)))) (parted pid out m q e refl)
    ∙ lawful_there (of_pid pid (take m out)) q (of_pid pid (drop (suc m) out))
    ∙ ap (λ l. Some (last_is_lawful (lawful_of l))) (sym (next_kept pid out m q sound e refl))

-- what passes at a slot, and what has to
bad_parts : (out : List (List ℕ)) (m : ℕ) → is_counter_bad_at out m ≡ true → ((pid_of (slot_at out m) == 0x1FFF) ≡ false) × (lawful_now out m (slot_at out m) ≡ false)
unfolding is_counter_bad_at
bad_parts out m t =
    let q = slot_at out m in
    let outer = and_parts (is_packet q) (not (pid_of q == 0x1FFF) && not (lawful_now out m q)) t in
    let inner = and_parts (not (pid_of q == 0x1FFF)) (not (lawful_now out m q)) outer.1 in
    (not_true (pid_of q == 0x1FFF) inner.0, not_true (lawful_now out m q) inner.1)
  where
    not_true : (b : Bool) → not b ≡ true → b ≡ false
    not_true true e = sym e
    not_true false e = refl

bad_from : (out : List (List ℕ)) (m : ℕ) → is_packet (slot_at out m) ≡ true → (pid_of (slot_at out m) == 0x1FFF) ≡ false → lawful_now out m (slot_at out m) ≡ false → is_counter_bad_at out m ≡ true
unfolding is_counter_bad_at
bad_from out m packet pid lawful = rw (packet, pid, lawful) refl

pub all_at : (bs : List Bool) (k : ℕ) → All (λ (b : Bool). b ≡ true) bs → slice_get bs k ≡ Some false → ⊥
all_at bs k all e =
    let here : get_or bs k false ≡ true = all k false (slice_get_within bs k false e) in
    let same : get_or bs k false ≡ false = get_or_from_slice_get bs k false false e in
    let clash : false ≡ true = sym same ∙ here in absurd cc

bad_of_stream : (streams : List Stream) (out : List (List ℕ)) (m : ℕ) → AreJudged streams out → m < length out → is_counter_bad_at out m ≡ true → UnlawfulWentOut streams out m (slot_at out m)
bad_of_stream streams out m are l t =
    let q = slot_at out m in
    let e : slice_get out m ≡ Some q = slice_get-get_or out m [] l in
    let parts = bad_parts out m t in
    let bad : IsUnlawful out m q = there out m q are.sound e ∙ ap (λ b. Some b) parts.1 in
    record { went_out = e; of_stream = are.of_stream m q e parts.0 bad; unlawful = bad }

stream_bad : (streams : List Stream) (out : List (List ℕ)) (m : ℕ) (q : List ℕ) → AreJudged streams out → UnlawfulWentOut streams out m q → is_counter_bad_at out m ≡ true
stream_bad streams out m q are u =
    let l = slice_get_within out m q u.went_out in
    let same : slot_at out m ≡ q = get_or_from_slice_get out m q [] u.went_out in
    let st = u.of_stream in
    let range = are.range st.0 st.1 st.2 in
    let on : pid_of q ≡ (get_or streams st.0 st.1).output_pid = st.4 ∙ ap (λ (s : Stream). s.output_pid) (sym st.3) in
    let pid : (pid_of q == 0x1FFF) ≡ false = ne_eqb _ _ (λ z. omega (arith, range, on, z)) in
    let both : Some (lawful_now out m q) ≡ Some false = sym (there out m q are.sound u.went_out) ∙ u.unlawful in
    let lawful : lawful_now out m q ≡ false = cc in
    bad_from out m (are.sound m [] l).whole (ap (λ s. pid_of s == 0x1FFF) same ∙ pid) (ap (lawful_now out m) same ∙ lawful)

pub counters_judged : (streams : List Stream) (rate period : ℕ) (out : List (List ℕ)) → AreJudged streams out → CounterFaultsAreOfStreams streams out (faults rate period out)
counters_judged streams rate period out are = record {
  only = All-weaker (Passes rate period out) (λ (f : Fault). f.kind ≡ ContinuityCountError → (q : List ℕ) × (f ≡ counter_fault f.slot q) × UnlawfulWentOut streams out f.slot q)
      (λ f passes kind.
      let here : PassesKind rate period out ContinuityCountError f.slot f.pid = subst (λ (k : FaultKind). PassesKind rate period out k f.slot f.pid) kind passes.1 in
      let q = slot_at out f.slot in
      let is_it : f ≡ counter_fault f.slot q = ap (λ (k : FaultKind). record { slot = f.slot; kind = k; pid = f.pid }) kind ∙ ap (λ (o : Option ℕ). record { slot = f.slot; kind = ContinuityCountError; pid = o }) here.1 in
      (q, is_it, bad_of_stream streams out f.slot are passes.0 here.0)) (faults rate period out) (all_pass rate period out);
  each = λ m q u.
      let l = slice_get_within out m q u.went_out in
      let same : slot_at out m ≡ q = get_or_from_slice_get out m q [] u.went_out in
      subst (λ (x : List ℕ). Contains (faults rate period out) (counter_fault m x)) same (counter_told rate period out m l (stream_bad streams out m q are u));
}

-- ---- by what was taken

get_taken : {X : Type 0} (n : ℕ) (xs : List X) (k : ℕ) (x : X) → slice_get (take n xs) k ≡ Some x → slice_get xs k ≡ Some x
get_taken zero xs k x e = cc
get_taken (suc n) [] k x e = cc
get_taken (suc n) (y ∷ xs) zero x e = e
get_taken (suc n) (y ∷ xs) (suc k) x e = get_taken n xs k x e

-- what stands at a packet's place among those of a PID, with the PID as another number
at_place : (out : List (List ℕ)) (m : ℕ) (q : List ℕ) (pid : ℕ) (b : Bool) → pid_of q ≡ pid → slice_get (lawful_of (of_pid (pid_of q) out)) (length (of_pid (pid_of q) (take m out))) ≡ Some b
    → slice_get (lawful_of (of_pid pid out)) (length (of_pid pid (take m out))) ≡ Some b
at_place out m q pid b on e = subst (λ (n : ℕ). slice_get (lawful_of (of_pid n out)) (length (of_pid n (take m out))) ≡ Some b) on e

among_taken : (streams : List Stream) (taken : Stream → List (List ℕ)) (out : List (List ℕ)) (st : Stream) (k : ℕ) (b : Bool) → AreLawfulAsTaken streams taken out → Contains streams st
    → slice_get (lawful_of (of_pid st.output_pid out)) k ≡ Some b → slice_get (lawful_of (taken st)) k ≡ Some b
among_taken streams taken out st k b same c e =
    let as_taken = same st c in
    get_taken as_taken.0 (lawful_of (taken st)) k b (sym (ap (λ l. slice_get l k) as_taken.1) ∙ e)

was_taken : (streams : List Stream) (taken : Stream → List (List ℕ)) (out : List (List ℕ)) (m : ℕ) (q : List ℕ) → AreLawfulAsTaken streams taken out → UnlawfulWentOut streams out m q → UnlawfulWasTaken streams taken out m q
was_taken streams taken out m q same u =
    let a = u.of_stream in
    let st = a.1 in
    let listed : Contains streams st = (a.0, a.2, a.3) in
    record {
      went_out = u.went_out;
      stream = st;
      listed = listed;
      on_pid = a.4;
      unlawful = among_taken streams taken out st (length (of_pid st.output_pid (take m out))) false same listed (at_place out m q st.output_pid false a.4 u.unlawful);
    }

went_out : (streams : List Stream) (taken : Stream → List (List ℕ)) (out : List (List ℕ)) (m : ℕ) (q : List ℕ) → All IsSound out → AreLawfulAsTaken streams taken out → UnlawfulWasTaken streams taken out m q → UnlawfulWentOut streams out m q
went_out streams taken out m q sound same u =
    let st = u.stream in
    let b = lawful_now out m q in
    let here = there out m q sound u.went_out in
    let both : Some b ≡ Some false = sym (among_taken streams taken out st (length (of_pid st.output_pid (take m out))) b same u.listed (at_place out m q st.output_pid b u.on_pid here)) ∙ u.unlawful in
    record { went_out = u.went_out; of_stream = (u.listed.0, st, u.listed.1, u.listed.2, u.on_pid); unlawful = here ∙ both }

pub taken_judged : (streams : List Stream) (rate period : ℕ) (out : List (List ℕ)) (taken : Stream → List (List ℕ)) → AreJudged streams out → AreLawfulAsTaken streams taken out
    → CounterFaultsAreAsTaken streams taken out (faults rate period out)
taken_judged streams rate period out taken are same =
    let f = counters_judged streams rate period out are in
    record {
      only = All-weaker (λ (x : Fault). x.kind ≡ ContinuityCountError → (q : List ℕ) × (x ≡ counter_fault x.slot q) × UnlawfulWentOut streams out x.slot q)
          (λ (x : Fault). x.kind ≡ ContinuityCountError → (q : List ℕ) × (x ≡ counter_fault x.slot q) × UnlawfulWasTaken streams taken out x.slot q)
          (λ x g kind. let a = g kind in (a.0, a.1, was_taken streams taken out x.slot a.0 same a.2)) (faults rate period out) f.only;
      each = λ m q u. f.each m q (went_out streams taken out m q are.sound same u);
    }
