use Rattle.std.proofs.Common.{ℕ, zero, suc, ◌<◌, ◌≤◌, ◌≡◌, ◌⊎◌, Bool, List, [], ◌∷◌, ◌++◌, drop, Some, refl, ap, ◌∙◌, sym, subst, arith, inl, inr}
use Rattle.std.specs.List.{slice_get, filter}
use Rattle.std.proofs.lemmas.Option.{same_Some}
use Rattle.std.proofs.lemmas.Bool.{cases_Bool}
use Rattle.tspkt.specs.declared.stamped.Stamped.{Stamped}

-- of two beginnings of one list, one begins the other
pub comparable : {X : Type 0} (xs ys r s : List X) → xs ++ r ≡ ys ++ s → ((e : List X) × (ys ≡ xs ++ e)) ⊎ ((e : List X) × (xs ≡ ys ++ e))
comparable [] ys r s h = inl (ys, refl)
comparable (x ∷ xs) [] r s h = inr (x ∷ xs, refl)
comparable (x ∷ xs) (y ∷ ys) r s h =
    let heads : x ≡ y = cc in
    let tails : xs ++ r ≡ ys ++ s = cc in
    elim (comparable xs ys r s tails) [
      | inl e ↦ inl (e.0, ap (λ z. z ∷ ys) (sym heads) ∙ ap (λ zs. x ∷ zs) e.1)
      | inr e ↦ inr (e.0, ap (λ z. z ∷ xs) heads ∙ ap (λ zs. y ∷ zs) e.1)
    ]

-- each stamp is above t
abbrev pub AllLater : ℕ → List Stamped → Type 0
AllLater t [] = Unit {0}
AllLater t (x ∷ xs) = (t < x.stamp) × AllLater t xs

-- the stamps rise from n on
abbrev pub Rises : ℕ → List Stamped → Type 0
Rises n [] = Unit {0}
Rises n (x ∷ xs) = (n ≤ x.stamp) × Rises x.stamp xs

-- the last stamp, or n
abbrev pub last_of : ℕ → List Stamped → ℕ
last_of n [] = n
last_of n (x ∷ xs) = last_of x.stamp xs

pub last_of-push : (n : ℕ) (xs : List Stamped) (x : Stamped) → last_of n (xs ++ x ∷ []) ≡ x.stamp
last_of-push n [] x = refl
last_of-push n (y ∷ xs) x = last_of-push y.stamp xs x

pub Rises-push : (n : ℕ) (xs : List Stamped) (x : Stamped) → Rises n xs → last_of n xs ≤ x.stamp → Rises n (xs ++ x ∷ [])
Rises-push n [] x h l = (l, tt)
Rises-push n (y ∷ xs) x h l = (h.0, Rises-push y.stamp xs x h.1 l)

pub Rises-rest : (n : ℕ) (xs e : List Stamped) → Rises n (xs ++ e) → Rises (last_of n xs) e
Rises-rest n [] e h = h
Rises-rest n (x ∷ xs) e h = Rises-rest x.stamp xs e h.1

pub AllLater-rises : (t n : ℕ) (e : List Stamped) → t < n → Rises n e → AllLater t e
AllLater-rises t n [] l h = tt
AllLater-rises t n (x ∷ e) l h = let a = h.0 in (omega arith, AllLater-rises t x.stamp e (omega arith) h.1)

pub AllLater-filter : (t : ℕ) (p : Stamped → Bool) (e : List Stamped) → AllLater t e → AllLater t (filter p e)
AllLater-filter t p [] h = tt
AllLater-filter t p (x ∷ e) h = elim (cases_Bool (p x)) [ inl y ↦ rw y (h.0, AllLater-filter t p e h.1) | inr y ↦ rw y (AllLater-filter t p e h.1) ]

-- a head stays where more comes behind
pub head_kept : (n : ℕ) (xs e : List Stamped) (x : Stamped) → slice_get (drop n xs) 0 ≡ Some x → slice_get (drop n (xs ++ e)) 0 ≡ Some x
head_kept zero [] e x h = cc
head_kept zero (y ∷ xs) e x h = h
head_kept (suc n) [] e x h = cc
head_kept (suc n) (y ∷ xs) e x h = head_kept n xs e x h

head_later : (t n : ℕ) (e : List Stamped) (x : Stamped) → AllLater t e → slice_get (drop n e) 0 ≡ Some x → t < x.stamp
head_later t zero [] x l h = cc
head_later t zero (y ∷ e) x l h = let same : y ≡ x = same_Some y x h in let P : Stamped → Type 0 = λ z. t < z.stamp in subst P same l.0
head_later t (suc n) [] x l h = cc
head_later t (suc n) (y ∷ e) x l h = head_later t n e x l.1 h

-- a head that is due stands in front of those that come later
pub head_due : (t n : ℕ) (xs e : List Stamped) (x : Stamped) → AllLater t e → x.stamp ≤ t → slice_get (drop n (xs ++ e)) 0 ≡ Some x → slice_get (drop n xs) 0 ≡ Some x
head_due t n [] e x l due h = let m = head_later t n e x l h in absurd (omega arith)
head_due t zero (y ∷ xs) e x l due h = h
head_due t (suc n) (y ∷ xs) e x l due h = head_due t n xs e x l due h
