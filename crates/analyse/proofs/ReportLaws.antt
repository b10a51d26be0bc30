-- The first faults, with one more.
use Rattle.std.proofs.Common.{◌≡◌, ℕ, ◌+◌, ◌<◌, ◌≤◌, List, [], ◌∷◌, ◌++◌, length, take, ap, ◌∙◌, sym, arith, length-append, slice_set}
use Rattle.std.proofs.lemmas.List.{take_more_set, take-append-le, length-take-le, length-take, take_all}
use Rattle.analyse.specs.declared.fault.Fault.{Fault}

-- so many of the places are taken, and one more has room
pub kept_one_more : (places told : List Fault) (kept : ℕ) (fault : Fault) → length places ≡ 10 → kept < 10 → take kept places ≡ take 10 told
    → take (kept + 1) (slice_set places kept fault) ≡ take 10 (told ++ fault ∷ [])
kept_one_more places told kept fault size few is =
    let first = length-take-le kept places (omega (arith, size, few)) in
    let all = ap length is ∙ length-take 10 told in
    let count : length told ≡ kept = omega (arith, first, all, few) in
    take_more_set places kept fault (omega (arith, size, few))
    ∙ ap (λ v. v ++ fault ∷ []) (is ∙ take_all 10 told (omega (arith, count, few)))
    ∙ sym (take_all 10 (told ++ fault ∷ []) (omega (arith, count, few, length-append told (fault ∷ []))))

-- all of them are taken
pub kept_all : (places told : List Fault) (kept : ℕ) (fault : Fault) → length places ≡ 10 → 10 ≤ kept → kept ≤ 10 → take kept places ≡ take 10 told
    → take kept places ≡ take 10 (told ++ fault ∷ [])
kept_all places told kept fault size many few is =
    let first = length-take-le kept places (omega (arith, size, few)) in
    let all = ap length is ∙ length-take 10 told in
    is ∙ sym (take-append-le 10 told (fault ∷ []) (omega (arith, first, all, many)))
