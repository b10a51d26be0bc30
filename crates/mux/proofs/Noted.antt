-- Whether something was noted of an input since the last slot or switch.
use Rattle.std.proofs.Common.{ℕ, suc, ◌<◌, ◌≡◌, Bool, true, false, List, [], ◌∷◌, length, map, set, get_or, refl, ap, ◌∙◌, sym, subst, arith, All}
use Rattle.std.specs.List.{range_with_len}
use Rattle.std.proofs.lemmas.Bool.{false≢true}
use Rattle.std.proofs.lemmas.List.Elements.{All-map, All-set}
use Rattle.mux.specs.declared.input_state.InputState.{InputState}
use Rattle.mux.specs.Keeping.{without_notes, KeepsNoted, new_state}

abbrev pub IsUnnoted : InputState → Type 0
IsUnnoted x = (x.full_noted ≡ false) × (x.early_noted ≡ false)

-- nothing is left to forget
pub already_cleared : (xs : List InputState) → All IsUnnoted xs → xs ≡ map without_notes xs
already_cleared [] all = refl
already_cleared (x ∷ xs) all =
    let here = all 0 x (omega arith) in
    ap (λ b. let y : InputState = record x { full_noted = b } in y ∷ xs) here.0
    ∙ ap (λ b. let y : InputState = record x { full_noted = false; early_noted = b } in y ∷ xs) here.1
    ∙ ap (λ ys. without_notes x ∷ ys) (already_cleared xs (λ k d l. all (suc k) d (omega arith)))

-- all is forgotten
pub noted_cleared : (is_noted : Bool) (xs ys : List InputState) → ys ≡ map without_notes xs → KeepsNoted is_noted ys
noted_cleared is_noted xs ys is =
    let P : List InputState → Type 0 = All IsUnnoted in
    record { unnoted = λ e. subst P (sym is) (All-map IsUnnoted without_notes xs (λ k d l. (refl, refl))) }

-- at the opening
pub noted_none : (is_noted : Bool) (n : ℕ) (xs : List InputState) → xs ≡ map new_state (range_with_len 0 n) → KeepsNoted is_noted xs
noted_none is_noted n xs is =
    let P : List InputState → Type 0 = All IsUnnoted in
    record { unnoted = λ e. subst P (sym is) (All-map IsUnnoted new_state (range_with_len 0 n) (λ k d l. (refl, refl))) }

-- something is noted
pub noted_now : (xs : List InputState) → KeepsNoted true xs
noted_now xs = record { unnoted = λ e. absurd (false≢true (sym e)) }

-- an input changes in something else
pub noted_same : {is_noted : Bool} {xs : List InputState} → KeepsNoted is_noted xs → (i : ℕ) (x y : InputState) → i < length xs → x ≡ get_or xs i x → y.full_noted ≡ x.full_noted → y.early_noted ≡ x.early_noted
    → KeepsNoted is_noted (set xs i y)
noted_same {is_noted} {xs} kept i x y l at full early = record {
  unnoted = λ e.
      let all = kept.unnoted e in
      let here = all i x l in
      All-set IsUnnoted xs i y (full ∙ ap (λ (z : InputState). z.full_noted) at ∙ here.0, early ∙ ap (λ (z : InputState). z.early_noted) at ∙ here.1) all;
}
