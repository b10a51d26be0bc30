-- Which head goes first.
use Rattle.std.proofs.Common.{ℕ, ◌+◌, ◌*◌, ◌/◌, ◌<◌, ◌≤◌, ◌≡◌, List, length, get_or, arith, inl, inr, refl, ◌∙◌}
use Rattle.std.proofs.Math.Nat.{mul-div-le, lt-mul-div-succ}
use Rattle.std.proofs.lemmas.Bool.{cases_order, cases_lt}
use Rattle.mux.specs.declared.head.Head.{Head}
use Rattle.mux.specs.declared.first_head.FirstHead.{FirstHead}
use Rattle.mux.specs.declared.head_list.TheConstants.{UNRANKED}
use Rattle.mux.specs.HeadList.{IsNotBehind, IsRank, KeepsRanks, KeepsFirsts, IsFirst, head_at, first_at}

by_rank : (a b : Head) → a.time * 65536 + a.pid ≤ b.time * 65536 + b.pid → a.pid < 65536 → b.pid < 65536 → IsNotBehind a b
by_rank a b le p q =
    elim (cases_order a.time b.time) [
      | inl e ↦ inr (e, omega (arith, e))
      | inr o ↦ elim o [ inl l ↦ inl l | inr l ↦ absurd (omega arith) ]
    ]

-- of two heads the one of the less rank doesn't go behind the other
pub not_behind : (a b : Head) (r s : ℕ) → IsRank a r → IsRank b s → r ≤ s → r < 18446744073709551615 → IsNotBehind a b
not_behind a b r s p q le small =
    elim p [
      | inl m ↦ elim q [
        | inl n ↦ by_rank a b (omega (arith, m.2, n.2)) m.1 n.1
        | inr n ↦ let x = m.0 in let y = n.0 in inl (omega arith)
      ]
      | inr m ↦ absurd (omega (arith, m.1))
    ]

-- a head with the greatest number in place of a rank has none
pub unranked : (a : Head) (r : ℕ) → IsRank a r → 18446744073709551615 ≤ r → UNRANKED ≤ a.time
unranked a r p great =
    elim p [
      | inl m ↦ let x = m.0 in let y = m.1 in absurd (omega (arith, m.2))
      | inr m ↦ m.0
    ]

-- and another has one
pub ranked : (a : Head) (r : ℕ) → IsRank a r → r < 18446744073709551615 → a.time < UNRANKED
ranked a r p small =
    elim p [
      | inl m ↦ m.0
      | inr m ↦ absurd (omega (arith, m.1))
    ]

-- a rank below the greatest number is that of a head
pub is_head : {heads : List Head} {ranks : List ℕ} → KeepsRanks heads ranks → (i : ℕ) → i < length ranks → get_or ranks i 0 < 18446744073709551615 → i < length heads
is_head {heads} {ranks} kept i within small =
    elim (cases_lt i (length heads)) [ inl l ↦ l | inr l ↦ absurd (omega (arith, kept.behind i l within)) ]

-- this number is no greater than the ranks of the firsts of so many blocks
abbrev pub LeadsFirsts : List FirstHead → ℕ → ℕ → Type 0
LeadsFirsts firsts n rank = (b : ℕ) → b < n → rank ≤ (first_at firsts b).rank

-- and then it is no greater than any rank
pub leads_all : {ranks : List ℕ} {firsts : List FirstHead} → KeepsFirsts ranks firsts → (n rank : ℕ) → length firsts ≤ n → LeadsFirsts firsts n rank → (j : ℕ) → j < length ranks → rank ≤ get_or ranks j 0
leads_all {ranks} {firsts} kept n rank all leads j l =
    let lo : 8 * (j / 8) ≤ j = mul-div-le j 8 in
    let hi : j < 8 * (j / 8 + 1) = lt-mul-div-succ j (omega arith) in
    let covers = kept.covers in
    let m : j / 8 < length firsts = omega arith in
    let a = leads (j / 8) (omega arith) in
    let b = (kept.first (j / 8) m).least j lo (omega arith) in
    omega arith

-- the head of the least rank goes first
pub goes_first : {heads : List Head} {ranks : List ℕ} {firsts : List FirstHead} → KeepsRanks heads ranks → KeepsFirsts ranks firsts → (n i rank : ℕ) → length firsts ≤ n → LeadsFirsts firsts n rank
    → i < length ranks → rank ≡ get_or ranks i 0 → rank < 18446744073709551615 → IsFirst heads i (head_at heads i)
goes_first {heads} {ranks} {firsts} kept firsts_kept n i rank all leads within is small =
    let there : i < length heads = is_head kept i within (omega (arith, is)) in
    let of_i = kept.of_head i there in
    record {
      within = there;
      here = refl;
      first = λ j l.
          let all_ranks = kept.all in
          let le = leads_all firsts_kept n rank all leads j (omega arith) in
          not_behind (head_at heads i) (head_at heads j) (get_or ranks i 0) (get_or ranks j 0) of_i (kept.of_head j l) (omega (arith, is)) (omega (arith, is));
    }

-- the first of the block that has the least rank goes first of all
pub first_of_all : {heads : List Head} {ranks : List ℕ} {firsts : List FirstHead} → KeepsRanks heads ranks → KeepsFirsts ranks firsts → (n b rank : ℕ) → length firsts ≤ n → LeadsFirsts firsts n rank
    → b < length firsts → rank ≡ (first_at firsts b).rank → rank < 18446744073709551615 → IsFirst heads (first_at firsts b).place (head_at heads (first_at firsts b).place)
first_of_all {heads} {ranks} {firsts} kept firsts_kept n b rank all leads within is small =
    let least = firsts_kept.first b within in
    let to = least.to in
    let covers = firsts_kept.covers in
    goes_first kept firsts_kept n (first_at firsts b).place rank all leads (omega arith) (is ∙ least.here) small

-- where the greatest number leads, no head has a rank
pub all_unranked : {heads : List Head} {ranks : List ℕ} {firsts : List FirstHead} → KeepsRanks heads ranks → KeepsFirsts ranks firsts → (n : ℕ) → length firsts ≤ n → LeadsFirsts firsts n 18446744073709551615
    → (j : ℕ) → j < length heads → UNRANKED ≤ (head_at heads j).time
all_unranked {heads} {ranks} {firsts} kept firsts_kept n all leads j l =
    let all_ranks = kept.all in
    unranked (head_at heads j) (get_or ranks j 0) (kept.of_head j l) (leads_all firsts_kept n 18446744073709551615 all leads j (omega arith))
