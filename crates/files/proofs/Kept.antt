-- What a reader that keeps gives of what it kept.
use Rattle.std.proofs.Common.{◌≡◌, ◌≤◌, ℕ, ◌+◌, ◌-◌, List, ◌++◌, length, take, drop, sym, ap, ◌∙◌, arith}
use Rattle.std.proofs.Math.Seq.{take-add}
use Rattle.std.proofs.lemmas.List.{take_rest, take_at, length-take-le, length-drop, drop-drop, take-append-drop}

-- a buffer that begins with n bytes has in these what comes behind the first `at` of the kept bytes
abbrev pub Gives : (kept copied rest : List ℕ) (at n : ℕ) → Type 0
Gives kept copied rest at n =
    (take (at + n) kept ≡ take at kept ++ take n (copied ++ rest)) × (drop at kept ≡ take n (copied ++ rest) ++ drop (at + n) kept)

pub gives : (kept copied rest : List ℕ) (at n : ℕ) → n ≤ length kept - at → copied ≡ take n (take (length kept - at) (drop at kept)) → Gives kept copied rest at n
gives kept copied rest at n bound is =
    let same : copied ≡ take n (drop at kept) = is ∙ ap (take n) (take_rest kept at) in
    let long : length copied ≡ n = ap length same ∙ length-take-le n (drop at kept) (omega (arith, length-drop at kept)) in
    let front : take n (copied ++ rest) ≡ take n (drop at kept) = take_at copied rest n long ∙ same in
    let split = ap (λ l. take n (drop at kept) ++ l) (sym (drop-drop n at kept)) ∙ take-append-drop n (drop at kept) in
    (take-add at n kept ∙ ap (λ l. take at kept ++ l) (sym front), sym (ap (λ l. l ++ drop (at + n) kept) front ∙ split))
