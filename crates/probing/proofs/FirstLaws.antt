-- The beginning of a source, as it is read.
use Rattle.std.proofs.Common.{◌≡◌, ◌⊎◌, ℕ, ◌+◌, ◌-◌, ◌<◌, ◌≤◌, List, [], ◌∷◌, ◌++◌, Option, Some, None, refl, ap, ◌∙◌, inl, inr, arith, length, take}
use Rattle.std.specs.Prelude.{option_map}
use Rattle.std.specs.Io.KnownBytes.{Consumes, IsAtEnd}
use Rattle.std.proofs.Math.Seq.{take-append-add, take-nil}

-- what a source gave of its bytes it gave of the first of them
pub first_consumed : (a b : Option (List ℕ)) (left : ℕ) (bs : List ℕ) → length bs ≤ left → Consumes a b bs → Consumes (option_map (take left) a) (option_map (take (left - length bs)) b) bs
first_consumed None b left bs few h = tt
first_consumed (Some xs) None left bs few h = absurd h
first_consumed (Some xs) (Some ys) left bs few h =
    let n : left ≡ length bs + (left - length bs) = omega (arith, few) in
    ap (take left) h ∙ (ap (λ (k : ℕ). take k (bs ++ ys)) n ∙ take-append-add bs ys (left - length bs))

-- there is no first byte where none is left to give, or the source is at its end
pub first_at_end : (b : Option (List ℕ)) (left : ℕ) → (left ≡ 0) ⊎ IsAtEnd b → IsAtEnd (option_map (take left) b)
first_at_end None left either = tt
first_at_end (Some ys) left (inl none) = ap (λ (k : ℕ). take k ys) none
first_at_end (Some ys) left (inr end) = ap (take left) end ∙ take-nil left

-- a read into no room had none left to give; any other one that gave nothing is at the source's end
pub none_or_end : (buf : List ℕ) (b : Option (List ℕ)) (left : ℕ) → (0 < length buf → IsAtEnd b) → (length buf ≡ 0 → left ≡ 0) → (left ≡ 0) ⊎ IsAtEnd b
none_or_end [] b left end none = inl (none refl)
none_or_end (x ∷ xs) b left end none = inr (end (omega arith))
