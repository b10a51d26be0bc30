use Rattle.std.proofs.Common.{◌≡◌, ℕ, ◌<◌, ◌-◌, List, [], true, false, length, drop, ap, sym, ◌∙◌, arith, length-drop}
use Rattle.broadcast.proofs.feeding.make_room.Goals as goal
use Rattle.broadcast.proofs.feeding.make_room.Goals.{then-is_sealed, else-is_sealed}

some_left : (xs : List (List ℕ)) (n : ℕ) → n < length xs → drop n xs ≡ [] → ⊥
some_left xs n within none = absurd (omega (arith, within, length-drop n xs, ap (λ (v : List (List ℕ)). length v) none))

pub returns-else-is_free-clause-waits : goal.returns-else-is_free-clause-waits
returns-else-is_free-clause-waits g c = λ _. elim c.if-is_sealed.branch [
  | then-is_sealed w ↦ absurd (let h : true ≡ false = sym w.if-is_sealed.true ∙ (sym w.is_free-is ∙ c.if-is_free.false) in cc)
  | else-is_sealed w ↦
      (let short = w.append_all-is_free.ensures.some (sym w.is_free-is ∙ c.if-is_free.false) in
      let same = ap (λ (v : List (List ℕ)). length v) w.as_slice.ensures.value in (
        sym c.is_sealed.ensures ∙ w.if-is_sealed.false,
        λ none. some_left c.args.sent.now.items c.if-is_sealed.appended (omega (arith, short, same, w.appended-is)) none,
      ))
]
