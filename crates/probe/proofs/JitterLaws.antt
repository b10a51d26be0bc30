-- The jitter of one step more.
use Rattle.std.proofs.Common.{◌≡◌, ℕ, ◌+◌, ◌<◌, List, [], ◌∷◌, ◌++◌, length, max, take, get_or, refl, arith, ap, ◌∙◌}
use Rattle.std.proofs.lemmas.List.{take_more}
use Rattle.probe.specs.declared.pcr_step.PcrStep.{PcrStep}
use Rattle.probe.specs.Jitter.{jitter_of, off_of}

swap : (a b c : ℕ) → max a (max b c) ≡ max b (max a c)
swap a b c = omega arith

behind : (rate : ℕ) (xs : List PcrStep) (x : PcrStep) → jitter_of rate (xs ++ x ∷ []) ≡ max (off_of rate x) (jitter_of rate xs)
behind rate [] x = refl
behind rate (s ∷ xs) x = ap (max (off_of rate s)) (behind rate xs x) ∙ swap (off_of rate s) (off_of rate x) (jitter_of rate xs)

pub jitter_more : (rate : ℕ) (steps : List PcrStep) (n : ℕ) (d : PcrStep) → n < length steps
    → jitter_of rate (take (n + 1) steps) ≡ max (off_of rate (get_or steps n d)) (jitter_of rate (take n steps))
jitter_more rate steps n d within =
    ap (jitter_of rate) (take_more steps n d within) ∙ behind rate (take n steps) (get_or steps n d)
