-- Known bytes that are written, over one call after another.
use Rattle.std.proofs.Common.{ℕ, ◌+◌, ◌-◌, List, [], ◌++◌, length, take, drop, refl, sym, ◌∙◌, ap, subst, append_assoc}
use Rattle.std.specs.Prelude.{Option, Some, None}
use Rattle.std.proofs.lemmas.List.{append-nil, take-append-drop, take_rest}
use Rattle.std.proofs.Math.Seq.{take-add}
use Rattle.std.specs.Io.KnownBytes.{Appends, Keeps}
use Rattle.outlet.specs.Written.{Sends, SendsBeginning}

pub appends_nothing : (old : Option (List ℕ)) → Appends old old []
appends_nothing None = tt
appends_nothing (Some xs) = sym (append-nil xs)

pub keeps_appends : (old new : Option (List ℕ)) → Keeps old new → Appends old new []
keeps_appends None new h = tt
keeps_appends (Some xs) None h = h
keeps_appends (Some xs) (Some ys) h = h ∙ sym (append-nil xs)

pub appends_on : (a b c : Option (List ℕ)) (x y : List ℕ) → Appends a b x → Appends b c y → Appends a c (x ++ y)
appends_on None b c x y h k = tt
appends_on (Some xs) None c x y h k = absurd h
appends_on (Some xs) (Some ys) None x y h k = k
appends_on (Some xs) (Some ys) (Some zs) x y h k = k ∙ ap (λ v. v ++ y) h ∙ append_assoc xs x y

-- n bytes more of a list, of which the first `done` went before
pub appends_part : (a b c : Option (List ℕ)) (bytes : List ℕ) (done n : ℕ) → Appends a b (take done bytes) → Appends b c (take n (take (length bytes - done) (drop done bytes))) → Appends a c (take (done + n) bytes)
appends_part a b c bytes done n h k =
    subst (Appends a c) (sym (take-add done n bytes)) (appends_on a b c (take done bytes) (take n (drop done bytes)) h (subst (λ v. Appends b c (take n v)) (take_rest bytes done) k))

-- a front of the bytes that went is a beginning of them
pub front_sent : (a b c : Option (List ℕ)) (bytes : List ℕ) (done : ℕ) → Appends a b (take done bytes) → Keeps b c → SendsBeginning a c bytes
front_sent a b c bytes done h k =
    (drop done bytes, (take done bytes, subst (Appends a c) (append-nil (take done bytes)) (appends_on a b c (take done bytes) [] h (keeps_appends b c k)), sym (take-append-drop done bytes)))

-- all of it went: nothing waits
pub sends_nothing : (a : Option (List ℕ)) (bytes : List ℕ) → Sends a a bytes bytes
sends_nothing a bytes = ([], appends_nothing a, refl)

-- what waited went, and these bytes wait
pub sends_waiting : (a b : Option (List ℕ)) (bytes more : List ℕ) → Appends a b bytes → Sends a b (bytes ++ more) more
sends_waiting a b bytes more h = (bytes, h, refl)

-- a beginning of what waited is one of that and more
pub beginning_on : (a b : Option (List ℕ)) (bytes more : List ℕ) → SendsBeginning a b bytes → SendsBeginning a b (bytes ++ more)
beginning_on a b bytes more h = (h.0 ++ more, (h.1.0, h.1.1, ap (λ v. v ++ more) h.1.2 ∙ append_assoc h.1.0 h.0 more))
