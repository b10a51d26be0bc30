-- What is kept of the packets that went out, behind one more.
use Rattle.std.proofs.Common.{ℕ, ◌-◌, ◌<◌, ◌≡◌, ◌++◌, ◌∷◌, [], List, Some, length, length-append, get_or, set, refl, sym, ap, ◌∙◌, subst, arith}
use Rattle.std.specs.List.{slice_get}
use Rattle.std.proofs.lemmas.Option.{same_Some}
use Rattle.std.proofs.lemmas.List.Elements.{All-push}
use Rattle.tspkt.specs.Packet.{IsPacket, pid_of}
use Rattle.mux.specs.PidCounters.{counted}
use Rattle.mux.specs.declared.slot.Slot.TheVariants as slot
use Rattle.mux.specs.History.{History}
use Rattle.mux.specs.Answers.{SlotAnswers, SendsOn}
use Rattle.mux.specs.Output.{IsOutput}
use Rattle.mux.proofs.CounterLaws.{counted_more}
use Rattle.emission.proofs.RecurrenceLaws.{last_behind}

-- with one more packet
pub grown : {packets : List (List ℕ)} {counters : List ℕ} → IsOutput packets counters → (q : List ℕ) (now : List ℕ) → IsPacket q → pid_of q < 8192 → now ≡ counted counters (pid_of q)
    → IsOutput (packets ++ q ∷ []) now
grown {packets} kept q now whole fits count = record {
  whole = All-push IsPacket packets q kept.whole whole;
  counters_are = count ∙ ap (λ xs. counted xs (pid_of q)) kept.counters_are ∙ counted_more packets q fits;
}

-- something is there behind one more packet
pub some_behind : (before after : List (List ℕ)) (q : List ℕ) → after ≡ before ++ q ∷ [] → 0 < length after
some_behind before after q is = omega (arith, ap length is, length-append before (q ∷ []))

-- and the last is that one
pub last_is : (before after : List (List ℕ)) (q last : List ℕ) → after ≡ before ++ q ∷ [] → slice_get after (length after - 1) ≡ Some last → last ≡ q
last_is before after q last is there =
    let at : length after - 1 ≡ length before = omega (arith, ap length is, length-append before (q ∷ [])) in
    same_Some _ _ (sym there ∙ (ap (λ (xs : List (List ℕ)). slice_get xs (length after - 1)) is ∙ (ap (slice_get (before ++ q ∷ [])) at ∙ last_behind before q)))

-- what `send_next` sent, and lies last, is what `slot` answers
pub lent_sent : (old new : History) (before after : List (List ℕ)) (last : List ℕ) → SendsOn old new before after → slice_get after (length after - 1) ≡ Some last → SlotAnswers old (slot.Sent last) new
lent_sent old new before after last s there =
    let P : List ℕ → Type 0 = λ packet. SlotAnswers old (slot.Sent packet) new in
    subst P (sym (last_is before after s.packet last s.behind there)) s.slot

set_behind : (xs : List (List ℕ)) (p y : List ℕ) → set (xs ++ p ∷ []) (length xs) y ≡ xs ++ y ∷ []
set_behind [] p y = refl
set_behind (x ∷ xs) p y = ap (λ v. x ∷ v) (set_behind xs p y)

get_behind : (xs : List (List ℕ)) (p d : List ℕ) → get_or (xs ++ p ∷ []) (length xs) d ≡ p
get_behind [] p d = refl
get_behind (x ∷ xs) p d = get_behind xs p d

-- one more packet, of which something was made in its place
pub made_last : (xs ys : List (List ℕ)) (p : List ℕ) (n : ℕ) (x : List ℕ) (f : List ℕ → List ℕ) (y : List ℕ) → ys ≡ xs ++ p ∷ [] → n ≡ length ys → x ≡ get_or ys (n - 1) x → y ≡ f x → set ys (n - 1) y ≡ xs ++ f p ∷ []
made_last xs ys p n x f y is count here made =
    let at : n - 1 ≡ length xs = omega (arith, count, ap length is, length-append xs (p ∷ [])) in
    let same : x ≡ p = here ∙ (ap (λ v. get_or v (n - 1) x) is ∙ (ap (λ k. get_or (xs ++ p ∷ []) k x) at ∙ get_behind xs p x)) in
    ap (λ v. set v (n - 1) y) is ∙ (ap (λ k. set (xs ++ p ∷ []) k y) at ∙ (set_behind xs p y ∙ ap (λ v. xs ++ v ∷ []) (made ∙ ap f same)))
