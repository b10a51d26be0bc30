-- What the analyser reads on a PID, packet by packet: of each packet it is known which section it is a piece of, and that all pieces before
-- it were read.
use Rattle.std.proofs.Common.{◌≡◌, ℕ, zero, suc, ◌+◌, ◌%◌, ◌<◌, ◌≤◌, ◌==◌, ◌⊎◌, List, [], ◌∷◌, ◌++◌, length, take, get_or, refl, sym, ◌∙◌, ap, subst, arith, Some, Bool, true, false, cond, inl, inr}
use Rattle.std.specs.List.{All, slice_get, filter_map}
use Rattle.std.proofs.lemmas.Bool.{cases_Bool, cases_lt, eq-eqb, eqb-true}
use Rattle.std.proofs.lemmas.List.{append-nil}
use Rattle.std.proofs.lemmas.Nat.{mod_below}
use Rattle.std.proofs.lemmas.List.Elements.{All-nil, All-cons, All-head, All-tail, All-append, All-take, filter_map-append}
use Rattle.std.proofs.lemmas.Option.{slice_get-get_or}
use Rattle.tspkt.specs.Packet.{pid_of, transport_scrambling_control_of}
use Rattle.section.specs.Section.{IsGoodSection}
use Rattle.section.specs.Assembled.{assembled, packet_told, fresh, state_behind}
use Rattle.section.specs.Packetized.{packet_count_of}
use Rattle.section.specs.declared.told.Told.{Told}
use Rattle.tables.specs.OnPid.{packets_on, section_in, sections_on}
use Rattle.emission.specs.Emission.{of_pid}
use Rattle.emission.proofs.CycleLaws.{filter_yes, filter_no}
use Rattle.analyse.specs.Slots.{is_packet, packets_in}
use Rattle.output_faults.proofs.ReadingLaws.{IsPiece, IsBehind, tells}
use Rattle.section.proofs.AssembledLaws.{assembled_more}

-- a packet behind these of its PID: a piece of a good section, of which all earlier pieces were read
pub record IsRead (P : List ℕ → Type 0) (sent : List (List ℕ)) (q : List ℕ) : Type 0 where
  pub section : List ℕ
  pub is : P section
  pub good : IsGoodSection section
  pub small : length section ≤ 1024
  pub number : ℕ
  pub behind : IsBehind section number (length sent) (state_behind fresh sent)
  pub piece : IsPiece section (number % packet_count_of section) (length sent % 16) q

-- So is each packet on the PID; P is what holds of the section that a slot carries a packet of. All slots are packets, and those on the PID
-- aren't scrambled.
pub record Reads (P : ℕ → List ℕ → Type 0) (pid : ℕ) (slots : List (List ℕ)) : Type 0 where
  pub whole : All (λ q. is_packet q ≡ true) slots
  pub clear : All (λ q. pid_of q ≡ pid → transport_scrambling_control_of q ≡ 0) slots
  pub each : (m : ℕ) (q : List ℕ) → slice_get slots m ≡ Some q → pid_of q ≡ pid → IsRead (P m) (of_pid pid (take m slots)) q

-- ---- the sections that are read

pub all_kept : (slots : List (List ℕ)) → All (λ q. is_packet q ≡ true) slots → packets_in slots ≡ slots
all_kept [] h = refl
all_kept (q ∷ slots) h =
    let P : List ℕ → Type 0 = λ q. is_packet q ≡ true in
    ap (λ (b : Bool). cond b (q ∷ packets_in slots) (packets_in slots)) (All-head P q slots h)
    ∙ ap (λ (l : List (List ℕ)). q ∷ l) (all_kept slots (All-tail P q slots h))

clear_kept : (pid : ℕ) (slots : List (List ℕ)) → All (λ q. pid_of q ≡ pid → transport_scrambling_control_of q ≡ 0) slots → packets_on pid slots ≡ of_pid pid slots
clear_kept pid [] h = refl
clear_kept pid (q ∷ slots) h =
    let P : List ℕ → Type 0 = λ q. pid_of q ≡ pid → transport_scrambling_control_of q ≡ 0 in
    let rest = clear_kept pid slots (All-tail P q slots h) in
    elim (cases_Bool (pid_of q == pid)) [
      | inl y ↦
          let z : (transport_scrambling_control_of q == 0) ≡ true = eq-eqb _ _ (All-head P q slots h (eqb-true (pid_of q) pid y)) in
          rw (y, z) (ap (λ (l : List (List ℕ)). q ∷ l) rest)
      | inr n ↦ rw n rest
    ]

-- those of the first m slots
abbrev pub sections_to : ℕ → List (List ℕ) → ℕ → List (List ℕ)
sections_to pid slots m = sections_on pid (packets_in (take m slots))

sections_are : (P : ℕ → List ℕ → Type 0) (pid : ℕ) (slots : List (List ℕ)) (m : ℕ) → Reads P pid slots → sections_to pid slots m ≡ filter_map section_in (assembled (of_pid pid (take m slots)))
sections_are P pid slots m h =
    ap (sections_on pid) (all_kept (take m slots) (All-take (λ q. is_packet q ≡ true) m slots h.whole))
    ∙ ap (λ (l : List (List ℕ)). filter_map section_in (assembled l)) (clear_kept pid (take m slots) (All-take (λ q. pid_of q ≡ pid → transport_scrambling_control_of q ≡ 0) m slots h.clear))

-- a packet of another PID tells nothing there
sections_same : (P : ℕ → List ℕ → Type 0) (pid : ℕ) (slots : List (List ℕ)) (m : ℕ) (q : List ℕ) → Reads P pid slots → slice_get slots m ≡ Some q → (pid_of q == pid) ≡ false → sections_to pid slots (suc m) ≡ sections_to pid slots m
sections_same P pid slots m q h e other =
    sections_are P pid slots (suc m) h
    ∙ ap (λ (l : List (List ℕ)). filter_map section_in (assembled l)) (filter_no (λ r. pid_of r == pid) slots m q e other)
    ∙ sym (sections_are P pid slots m h)

sections_told : (P : ℕ → List ℕ → Type 0) (pid : ℕ) (slots : List (List ℕ)) (m : ℕ) (q : List ℕ) → Reads P pid slots → slice_get slots m ≡ Some q → pid_of q ≡ pid
    → sections_to pid slots (suc m) ≡ sections_to pid slots m ++ filter_map section_in (packet_told (state_behind fresh (of_pid pid (take m slots))) q).told
sections_told P pid slots m q h e on =
    let sent = of_pid pid (take m slots) in
    let more = (packet_told (state_behind fresh sent) q).told in
    sections_are P pid slots (suc m) h
    ∙ ap (λ (l : List (List ℕ)). filter_map section_in (assembled l)) (filter_yes (λ r. pid_of r == pid) slots m q e (eq-eqb _ _ on))
    ∙ ap (filter_map section_in) (assembled_more fresh sent q)
    ∙ filter_map-append section_in (assembled sent) more
    ∙ ap (λ (l : List (List ℕ)). l ++ filter_map section_in more) (sym (sections_are P pid slots m h))

-- its last piece tells the section, and any other nothing
pub told_last : (P : ℕ → List ℕ → Type 0) (pid : ℕ) (slots : List (List ℕ)) (m : ℕ) (q : List ℕ) → Reads P pid slots → slice_get slots m ≡ Some q → pid_of q ≡ pid → (r : IsRead (P m) (of_pid pid (take m slots)) q)
    → r.number % packet_count_of r.section + 1 ≡ packet_count_of r.section → sections_to pid slots (suc m) ≡ sections_to pid slots m ++ r.section ∷ []
told_last P pid slots m q h e on r last =
    let sent = of_pid pid (take m slots) in
    let t = tells r.section r.number (length sent) (state_behind fresh sent) q r.good r.small r.behind r.piece in
    sections_told P pid slots m q h e on ∙ ap (λ (ts : List Told). sections_to pid slots m ++ filter_map section_in ts) (t.some last)

told_part : (P : ℕ → List ℕ → Type 0) (pid : ℕ) (slots : List (List ℕ)) (m : ℕ) (q : List ℕ) → Reads P pid slots → slice_get slots m ≡ Some q → pid_of q ≡ pid → (r : IsRead (P m) (of_pid pid (take m slots)) q)
    → r.number % packet_count_of r.section + 1 < packet_count_of r.section → sections_to pid slots (suc m) ≡ sections_to pid slots m
told_part P pid slots m q h e on r part =
    let sent = of_pid pid (take m slots) in
    let t = tells r.section r.number (length sent) (state_behind fresh sent) q r.good r.small r.behind r.piece in
    sections_told P pid slots m q h e on ∙ ap (λ (ts : List Told). sections_to pid slots m ++ filter_map section_in ts) (t.none part) ∙ append-nil (sections_to pid slots m)

-- ---- slot by slot

-- what one slot more tells: nothing, or the section that it carries the last piece of
next_told : (P : ℕ → List ℕ → Type 0) (pid : ℕ) (slots : List (List ℕ)) (m : ℕ) → Reads P pid slots → m < length slots
    → (sections_to pid slots (suc m) ≡ sections_to pid slots m) ⊎ ((b : List ℕ) × P m b × (sections_to pid slots (suc m) ≡ sections_to pid slots m ++ b ∷ []))
next_told P pid slots m h l =
    let q = get_or slots m [] in
    let e : slice_get slots m ≡ Some q = slice_get-get_or slots m [] l in
    elim (cases_Bool (pid_of q == pid)) [
      | inl y ↦
          let on = eqb-true (pid_of q) pid y in
          let r = h.each m q e on in
          let c = packet_count_of r.section in
          let below = mod_below r.number c (omega arith) in
          elim (cases_lt (r.number % c + 1) c) [
            | inl part ↦ inl (told_part P pid slots m q h e on r part)
            | inr end ↦ inr (r.section, r.is, told_last P pid slots m q h e on r (omega (arith, below, end)))
          ]
      | inr n ↦ inl (sections_same P pid slots m q h e n)
    ]

-- each section that was read is that of a slot
abbrev pub IsOfSlot : (ℕ → List ℕ → Type 0) → List ℕ → Type 0
IsOfSlot P b = (m : ℕ) × P m b

pub all_of_slots : (P : ℕ → List ℕ → Type 0) (pid : ℕ) (slots : List (List ℕ)) (m : ℕ) → Reads P pid slots → m ≤ length slots → All (IsOfSlot P) (sections_to pid slots m)
all_of_slots P pid slots zero h l = All-nil (IsOfSlot P)
all_of_slots P pid slots (suc m) h l =
    let before = all_of_slots P pid slots m h (omega (arith, l)) in
    elim (next_told P pid slots m h (omega (arith, l))) [
      | inl same ↦ subst (All (IsOfSlot P)) (sym same) before
      | inr one ↦ subst (All (IsOfSlot P)) (sym one.2) (All-append (IsOfSlot P) (sections_to pid slots m) (one.0 ∷ []) before (All-cons (IsOfSlot P) one.0 [] (m, one.1) (All-nil (IsOfSlot P))))
    ]

-- the newest section that was read is this one
abbrev pub NewestIs : List ℕ → List (List ℕ) → Type 0
NewestIs b bs = (before : List (List ℕ)) × (bs ≡ before ++ b ∷ [])

-- it stays so while the slots carry no other
pub newest_stays : (P : ℕ → List ℕ → Type 0) (pid : ℕ) (slots : List (List ℕ)) (b : List ℕ) (from n : ℕ) → Reads P pid slots → from + n ≤ length slots → NewestIs b (sections_to pid slots from)
    → ((m : ℕ) → from ≤ m → m < from + n → (c : List ℕ) → P m c → c ≡ b) → NewestIs b (sections_to pid slots (from + n))
newest_stays P pid slots b from zero h l is same =
    let e : from ≡ from + 0 = omega arith in subst (λ (m : ℕ). NewestIs b (sections_to pid slots m)) e is
newest_stays P pid slots b from (suc n) h l is same =
    let e : suc (from + n) ≡ from + suc n = omega arith in
    let before = newest_stays P pid slots b from n h (omega (arith, l)) is (λ m low high. same m low (omega (arith, high))) in
    let N : List (List ℕ) → Type 0 = NewestIs b in
    subst (λ (m : ℕ). NewestIs b (sections_to pid slots m)) e
    (elim (next_told P pid slots (from + n) h (omega (arith, l))) [
      | inl kept ↦ subst N (sym kept) before
      | inr one ↦ (sections_to pid slots (from + n), one.2 ∙ ap (λ (c : List ℕ). sections_to pid slots (from + n) ++ c ∷ []) (same (from + n) (omega arith) (omega arith) one.0 one.1))
    ])

-- a slot that carries the last piece of a section on the PID
pub record EndsIn (P : ℕ → List ℕ → Type 0) (pid : ℕ) (slots : List (List ℕ)) (m : ℕ) : Type 0 where
  pub packet : List ℕ
  pub there : slice_get slots m ≡ Some packet
  pub on : pid_of packet ≡ pid
  pub read : IsRead (P m) (of_pid pid (take m slots)) packet
  pub last : read.number % packet_count_of read.section + 1 ≡ packet_count_of read.section

pub one_more : (P : ℕ → List ℕ → Type 0) (pid : ℕ) (slots : List (List ℕ)) (m : ℕ) → Reads P pid slots → (x : EndsIn P pid slots m) → sections_to pid slots (suc m) ≡ sections_to pid slots m ++ x.read.section ∷ []
one_more P pid slots m h x = told_last P pid slots m x.packet h x.there x.on x.read x.last
