-- What came out of a ring in one go, and is handed on one by one.
use Rattle.std.proofs.Common.{◌≡◌, ℕ, ◌+◌, ◌-◌, ◌<◌, ◌≤◌, List, [], ◌∷◌, ◌++◌, length, get_or, drop, take, ap, sym, ◌∙◌, subst, append_assoc, length-append, arith}
use Rattle.std.proofs.lemmas.List.{take_at, take_all, drop_all, drop_more, get_or-take, length-take-le}
use Rattle.rtrb.specs.Fifo.{Allowed}
use Rattle.port.specs.Arrivals.{CarriedValue, End, marks_of}
use Rattle.port.specs.Chunks.{handed_on, AreWaiting, IsLastOf}

-- all but those that wait was handed on
handed_of : (out waiting : List CarriedValue) → handed_on (out ++ waiting) waiting ≡ out
handed_of out waiting = take_at out waiting (length (out ++ waiting) - length waiting) (omega (arith, length-append out waiting))

-- the first of those that wait is handed on
one_on : (received waiting rest : List CarriedValue) (x : CarriedValue) → AreWaiting received waiting → waiting ≡ x ∷ rest
    → AreWaiting received rest × (handed_on received rest ≡ handed_on received waiting ++ x ∷ []) × (marks_of (handed_on received waiting) ≡ 0)
one_on received waiting rest x h e =
    let out : List CarriedValue = handed_on received waiting in
    let all : received ≡ (out ++ x ∷ []) ++ rest = h.last ∙ (ap (λ v. out ++ v) e ∙ sym (append_assoc out (x ∷ []) rest)) in
    let now : handed_on received rest ≡ out ++ x ∷ [] = ap (λ v. handed_on v rest) all ∙ handed_of (out ++ x ∷ []) rest in
    let P : List CarriedValue → List CarriedValue → Type 0 = Allowed (λ before _. marks_of before ≡ 0) in
    let allowed : P out (x ∷ rest) = subst (λ v. P out v) e h.unmarked in
    (record { last = all ∙ ap (λ v. v ++ rest) (sym now); unmarked = subst (λ v. P v rest) (sym now) allowed.1 }, now, allowed.0)

-- so it is of those that stand in an array
pub passed_one : (received chunk : List CarriedValue) (count passed : ℕ) (d : CarriedValue) → passed < count → count ≤ length chunk → AreWaiting received (drop passed (take count chunk))
    → AreWaiting received (drop (passed + 1) (take count chunk))
    × (handed_on received (drop (passed + 1) (take count chunk)) ≡ handed_on received (drop passed (take count chunk)) ++ get_or chunk passed d ∷ [])
    × (marks_of (handed_on received (drop passed (take count chunk))) ≡ 0)
passed_one received chunk count passed d within room h =
    let came = take count chunk in
    let size = length-take-le count chunk room in
    let first : drop passed came ≡ get_or chunk passed d ∷ drop (passed + 1) came =
    drop_more came passed d (omega (arith, size, within)) ∙ ap (λ v. v ∷ drop (passed + 1) came) (get_or-take count chunk passed d within) in
    one_on received (drop passed came) (drop (passed + 1) came) (get_or chunk passed d) h first

-- what is handed on is then the last
last_on : (chunk handed : List CarriedValue) (passed : ℕ) → IsLastOf chunk (passed + 1) (handed ++ get_or chunk passed End ∷ [])
last_on chunk handed passed =
    let place : passed + 1 - 1 ≡ passed = omega arith in
    record {
      none = λ e. absurd (omega (arith, e));
      last = λ _. (handed, ap (λ n. handed ++ get_or chunk n End ∷ []) (sym place));
    }

-- the next of a chunk is handed on
pub record HandsOne (received chunk : List CarriedValue) (count passed : ℕ) (before : List CarriedValue) : Type 0 where
  pub waiting : AreWaiting received (drop (passed + 1) (take count chunk))
  pub last : IsLastOf chunk (passed + 1) (handed_on received (drop (passed + 1) (take count chunk)))
  pub handed : handed_on received (drop (passed + 1) (take count chunk)) ≡ before ++ get_or chunk passed End ∷ []
  pub unmarked : marks_of before ≡ 0

pub hands_one : (received chunk : List CarriedValue) (count passed : ℕ) → passed < count → count ≤ length chunk → AreWaiting received (drop passed (take count chunk))
    → HandsOne received chunk count passed (handed_on received (drop passed (take count chunk)))
hands_one received chunk count passed within room h =
    let on = passed_one received chunk count passed End within room h in
    let before : List CarriedValue = handed_on received (drop passed (take count chunk)) in
    let P : List CarriedValue → Type 0 = IsLastOf chunk (passed + 1) in
    record { waiting = on.0; last = subst P (sym on.1) (last_on chunk before passed); handed = on.1; unmarked = on.2 }

-- where all of a chunk was handed on, all that came out of the ring was
pub all_handed : (received chunk : List CarriedValue) (count passed : ℕ) → count ≤ passed → count ≤ length chunk → handed_on received (drop passed (take count chunk)) ≡ received
all_handed received chunk count passed all room =
    let size = length-take-le count chunk room in
    let none : drop passed (take count chunk) ≡ [] = drop_all passed (take count chunk) (omega (arith, size, all)) in
    ap (handed_on received) none ∙ take_all (length received - 0) received (omega arith)

-- more came into a chunk of which all was handed on, and the first of it is handed on
pub hands_first : (received more chunk : List CarriedValue) (count : ℕ) → more ≡ received ++ take count chunk → 0 < count → count ≤ length chunk
    → Allowed (λ before _. marks_of before ≡ 0) received (take count chunk)
    → HandsOne more chunk count 0 received
hands_first received more chunk count all some room allowed =
    let now : handed_on more (take count chunk) ≡ received = ap (λ v. handed_on v (take count chunk)) all ∙ handed_of received (take count chunk) in
    let P : List CarriedValue → Type 0 = λ v. Allowed (λ before _. marks_of before ≡ 0) v (take count chunk) in
    let H : List CarriedValue → Type 0 = HandsOne more chunk count 0 in
    subst H now (hands_one more chunk count 0 some room (record { last = all ∙ ap (λ v. v ++ take count chunk) (sym now); unmarked = subst P (sym now) allowed }))
