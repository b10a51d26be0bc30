-- One ring more.
use Rattle.std.proofs.Common.{◌≡◌, ℕ, ◌+◌, ◌<◌, List, [], ◌∷◌, ◌++◌, length, slice_get, Some, zero, suc, refl, subst, arith, sym, ◌⊎◌, inl, inr, ⊎_elim, ap, ◌∙◌, length-append}
use Rattle.std.proofs.lemmas.Option.{slice_get_within}
use Rattle.port.specs.Rings.{PortValue, RingEndValue, IsNewRing, AreNewRings}

pub get_snoc : {A : Type 0} (xs : List A) (x y : A) (i : ℕ) → slice_get (xs ++ x ∷ []) i ≡ Some y → (slice_get xs i ≡ Some y) ⊎ ((i ≡ length xs) × (x ≡ y))
get_snoc [] x y zero e = inr (refl, cc)
get_snoc [] x y (suc i) e = absurd (cc)
get_snoc (z ∷ xs) x y zero e = inl e
get_snoc (z ∷ xs) x y (suc i) e = ⊎_elim (λ h. inl h) (λ t. inr (ap suc t.0, t.1)) (get_snoc xs x y i e)

pub one_more : (n : ℕ) (ps : List PortValue) (es : List RingEndValue) (p : PortValue) (e : RingEndValue)
    → AreNewRings n ps es → IsNewRing n p e → AreNewRings (n + 1) (ps ++ p ∷ []) (es ++ e ∷ [])
one_more n ps es p e old new = record {
  ports_are = omega (arith, length-append ps (p ∷ []), old.ports_are);
  ends_are = omega (arith, length-append es (e ∷ []), old.ends_are);
  each = λ i q f at at'.
      ⊎_elim
      (λ a. ⊎_elim (λ b. old.each i q f a b) (λ (b : (i ≡ length es) × (e ≡ f)). let l : i < length ps = slice_get_within ps i q a in let k = b.0 in let m = old.ports_are in let m' = old.ends_are in absurd (omega arith)) (get_snoc es e f i at'))
      (λ (a : (i ≡ length ps) × (p ≡ q)).
      ⊎_elim
      (λ (b : slice_get es i ≡ Some f). let l : i < length es = slice_get_within es i f b in let k = a.0 in let m = old.ports_are in let m' = old.ends_are in absurd (omega arith))
      (λ (b : (i ≡ length es) × (e ≡ f)). subst (λ (z : ℕ × PortValue × RingEndValue). IsNewRing z.0 z.1 z.2) (λ j. (sym (a.0 ∙ old.ports_are) j, a.1 j, b.1 j)) new)
      (get_snoc es e f i at'))
      (get_snoc ps p q i at);
}
