-- The level of a transport buffer, byte by byte and in closed form.
use Rattle.std.proofs.Common.{ℕ, zero, suc, ◌+◌, ◌-◌, ◌*◌, ◌<◌, ◌≤◌, ◌≡◌, List, [], ◌∷◌, ◌++◌, sum, take, drop, length, max, replicate, ap, subst, arith, inl, inr}
use Rattle.std.proofs.lemmas.Bool.{cases_lt}
use Rattle.std.proofs.lemmas.List.Sums.{sum_by-cons}
use Rattle.buffers.specs.Level.{load, LoadsAreWithin, IsLevel, NewestAreWithin, IsWithinAtEachByte}

-- the window of one byte, and one that is a byte longer
load-one : (leak rate b : ℕ) (bytes : List ℕ) → load leak rate (b ∷ bytes) 0 ≡ rate * b
load-one leak rate b bytes = omega arith

load-more : (leak rate b k : ℕ) (bytes : List ℕ) → load leak rate (b ∷ bytes) (suc k) ≡ rate * b + rate * sum (take (suc k) bytes) - (leak + leak * k)
load-more leak rate b k bytes = let s = sum_by-cons (λ x. x) b (take (suc k) bytes) in let e = ap (λ z. rate * z) s in omega arith

-- one more byte: the level leaks once, and what the byte brings comes in
pub level-more : (leak rate b n : ℕ) (bytes : List ℕ) → IsLevel leak rate bytes n → IsLevel leak rate (b ∷ bytes) (rate * b + (n - leak))
level-more leak rate b n bytes level = record { within = within; least = least }
  where
    within : LoadsAreWithin leak rate (rate * b + (n - leak)) (b ∷ bytes)
    within zero l = let e = load-one leak rate b bytes in omega arith
    within (suc k) l = let e = load-more leak rate b k bytes in let w = level.within k (omega arith) in omega arith

    least : (m : ℕ) → LoadsAreWithin leak rate m (b ∷ bytes) → rate * b + (n - leak) ≤ m
    least m w =
        let e = load-one leak rate b bytes in
        let one = w 0 (omega arith) in
        let rest : n ≤ (m + leak) - rate * b = level.least ((m + leak) - rate * b) (λ k l. let f = load-more leak rate b k bytes in let v = w (suc k) (omega arith) in omega arith) in
        omega arith

-- k bytes of others
pub level-others : (leak rate n k : ℕ) (bytes : List ℕ) → IsLevel leak rate bytes n → IsLevel leak rate (replicate k 0 ++ bytes) (n - k * leak)
level-others leak rate n zero bytes level = let P : ℕ → Type 0 = IsLevel leak rate bytes in let e : n ≡ n - 0 * leak = omega arith in subst P e level
level-others leak rate n (suc k) bytes level =
    let P : ℕ → Type 0 = IsLevel leak rate (0 ∷ (replicate k 0 ++ bytes)) in
    let e : rate * 0 + (n - k * leak - leak) ≡ n - suc k * leak = omega arith in
    subst P e (level-more leak rate 0 (n - k * leak) (replicate k 0 ++ bytes) (level-others leak rate n k bytes level))

-- the level after k + 1 bytes of the set, from the level n
abbrev pub raised : ℕ → ℕ → ℕ → ℕ → ℕ
raised leak rate n k = max rate ((n - leak) + suc k * rate - k * leak)

product-le : (k a b : ℕ) → a ≤ b → k * a ≤ k * b
product-le zero a b l = omega arith
product-le (suc k) a b l = let h = product-le k a b l in omega arith

-- one byte of the set more
raised-more : (leak rate n k : ℕ) → rate * 1 + (raised leak rate n k - leak) ≡ raised leak rate n (suc k)
raised-more leak rate n k =
    elim (cases_lt rate leak) [
      | inl faster ↦ omega arith
      | inr slower ↦ (let h = product-le k leak rate slower in omega arith)
    ]

-- the level within a packet is at most that after its last byte, that before it, or that of one byte
raised-before : (leak rate n k bound : ℕ) → n ≤ bound → rate ≤ bound → raised leak rate n (suc k) ≤ bound → raised leak rate n k ≤ bound
raised-before leak rate n k bound before one last =
    elim (cases_lt rate leak) [
      | inl faster ↦ (let less : rate ≤ leak = omega arith in let h = product-le k rate leak less in omega arith)
      | inr slower ↦ omega arith
    ]

-- k + 1 bytes of the set
pub level-raised : (leak rate n k : ℕ) (bytes : List ℕ) → IsLevel leak rate bytes n → IsLevel leak rate (replicate (suc k) 1 ++ bytes) (raised leak rate n k)
level-raised leak rate n zero bytes level =
    let P : ℕ → Type 0 = IsLevel leak rate (1 ∷ bytes) in
    let e : rate * 1 + (n - leak) ≡ raised leak rate n 0 = omega arith in
    subst P e (level-more leak rate 1 n bytes level)
level-raised leak rate n (suc k) bytes level =
    let P : ℕ → Type 0 = IsLevel leak rate (1 ∷ (replicate (suc k) 1 ++ bytes)) in
    subst P (raised-more leak rate n k) (level-more leak rate 1 (raised leak rate n k) (replicate (suc k) 1 ++ bytes) (level-raised leak rate n k bytes level))

-- a level is within a bound where each window is
within-level : (leak rate n bound : ℕ) (bytes : List ℕ) → IsLevel leak rate bytes n → n ≤ bound → LoadsAreWithin leak rate bound bytes
within-level leak rate n bound bytes level l k in_list = let w = level.within k in_list in omega arith

-- k + 1 bytes of the set stay within a bound where the level after the last does
pub newest-raised : (leak rate n k bound : ℕ) (bytes : List ℕ) → IsLevel leak rate bytes n → n ≤ bound → rate ≤ bound → raised leak rate n k ≤ bound
    → (j : ℕ) → j < suc k → LoadsAreWithin leak rate bound (drop j (replicate (suc k) 1 ++ bytes))
newest-raised leak rate n k bound bytes level before one last zero l =
    within-level leak rate (raised leak rate n k) bound (replicate (suc k) 1 ++ bytes) (level-raised leak rate n k bytes level) last
newest-raised leak rate n zero bound bytes level before one last (suc j) l = absurd (omega arith)
newest-raised leak rate n (suc k) bound bytes level before one last (suc j) l =
    newest-raised leak rate n k bound bytes level before one (raised-before leak rate n k bound before one last) j (omega arith)

-- and nowhere else
pub raised-of_newest : (leak rate n k bound : ℕ) (bytes : List ℕ) → IsLevel leak rate bytes n → NewestAreWithin leak rate bound (suc k) (replicate (suc k) 1 ++ bytes) → raised leak rate n k ≤ bound
raised-of_newest leak rate n k bound bytes level newest = (level-raised leak rate n k bytes level).least bound (newest 0 (omega arith))

-- bytes of others stay within a bound where the level before them does
pub newest-others : (leak rate n k bound : ℕ) (bytes : List ℕ) → IsLevel leak rate bytes n → n ≤ bound → (j : ℕ) → j < k → LoadsAreWithin leak rate bound (drop j (replicate k 0 ++ bytes))
newest-others leak rate n zero bound bytes level before j l = absurd (omega arith)
newest-others leak rate n (suc k) bound bytes level before zero l =
    within-level leak rate (n - suc k * leak) bound (replicate (suc k) 0 ++ bytes) (level-others leak rate n (suc k) bytes level) (omega arith)
newest-others leak rate n (suc k) bound bytes level before (suc j) l = newest-others leak rate n k bound bytes level before j (omega arith)

-- what is within at each of the new bytes, and at each of the old, is so at each
pub within-joined : (leak rate n : ℕ) (new old : List ℕ) → NewestAreWithin leak rate n (length new) (new ++ old) → IsWithinAtEachByte leak rate n old
    → (j : ℕ) → j < length (new ++ old) → LoadsAreWithin leak rate n (drop j (new ++ old))
within-joined leak rate n [] old newest whole j l = whole j l
within-joined leak rate n (b ∷ new) old newest whole zero l = newest 0 (omega arith)
within-joined leak rate n (b ∷ new) old newest whole (suc j) l = within-joined leak rate n new old (λ i m. newest (suc i) (omega arith)) whole j (omega arith)
