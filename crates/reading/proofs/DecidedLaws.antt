-- What a framer told is all that the bytes decide.
use Rattle.std.proofs.Common.{◌≡◌, ℕ, List, [], ◌∷◌, ◌++◌, get_or, drop, refl, sym, ◌∙◌, ap, append_assoc, ◌⊎◌, inl, inr}
use Rattle.std.proofs.lemmas.List.{append_cancel_left}
use Rattle.tspkt.specs.Framed.{FramerState, framed, still_to_tell, HasToldAll, IsFramedSoFar}
use Rattle.tspkt.specs.declared.item.Item.{Item}
use Rattle.tspkt.proofs.FramingLaws.{begins_framed}
use Rattle.reading.specs.StreamReading.{AreAllDecided}

-- of two beginnings of a list one begins the other
begins_or_passes : {X : Type 0} (xs ys us vs : List X) → xs ++ us ≡ ys ++ vs → ((later : List X) × (ys ≡ xs ++ later)) ⊎ ((x : X) × (rest : List X) × (xs ≡ ys ++ x ∷ rest))
begins_or_passes [] ys us vs e = inl (ys, refl)
begins_or_passes (x ∷ xs) [] us vs e = inr (x, xs, refl)
begins_or_passes (x ∷ xs) (y ∷ ys) us vs e =
    let first : x ≡ y = ap (λ l. get_or l 0 x) e in
    elim (begins_or_passes xs ys us vs (ap (drop 1) e)) [
      | inl b ↦ inl (b.0, ap (λ l. y ∷ l) b.1 ∙ ap (λ v. v ∷ (xs ++ b.0)) (sym first))
      | inr p ↦ inr (p.0, p.1, ap (λ l. x ∷ l) p.2 ∙ ap (λ v. v ∷ (ys ++ p.0 ∷ p.1)) first)
    ]

pub all_decided : (stride : ℕ) (f : FramerState) (told : List Item) (bytes : List ℕ) → f.stride ≡ stride → IsFramedSoFar f told bytes → HasToldAll f → AreAllDecided stride bytes told
all_decided stride f told bytes s same all items begins =
    let first = begins [] (λ e. refl) in
    let here = begins_framed f told bytes s same [] in
    elim (begins_or_passes items told first.0 here.0 (first.1 ∙ sym here.1)) [
      | inl b ↦ b
      | inr p ↦ absurd (all p.0 (λ more.
          let next = begins more (λ e. absurd e) in (
            p.1 ++ next.0,
            append_cancel_left told (still_to_tell f more) (p.0 ∷ p.1 ++ next.0)
                (same more ∙ ap (λ (n : ℕ). framed n (bytes ++ more)) s ∙ sym next.1 ∙ ap (λ l. l ++ next.0) p.2 ∙ append_assoc told (p.0 ∷ p.1) next.0),
          )))
    ]
