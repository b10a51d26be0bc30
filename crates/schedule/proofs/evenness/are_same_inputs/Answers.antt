use Rattle.std.proofs.Common.{◌≡◌, ℕ, ◌<◌, ◌∙◌, List, [], ◌∷◌, length, map, get_or, ap, sym, refl, arith}
use Rattle.std.proofs.lemmas.List.{ext_get_or, get_or-map, length-map}
use Rattle.request.specs.Request.{InputValue, input_value}
use Rattle.request.specs.declared.input.Input.{Input}
use Rattle.schedule.proofs.evenness.are_same_inputs.Goals as goal

-- inputs at one place, of lists that agree
same_at : (inputs others : List Input) (n : ℕ) (a b : Input) → n < length inputs → n < length others → a ≡ get_or inputs n a → b ≡ get_or others n b
    → map input_value inputs ≡ map input_value others → input_value a ≡ input_value b
same_at inputs others n a b from to ia ib same =
    ap input_value ia ∙ sym (get_or-map input_value inputs n a (input_value a) from)
    ∙ ap (λ vs. get_or vs n (input_value a)) same
    ∙ get_or-map input_value others n b (input_value a) to ∙ ap input_value (sym ib)

pub returns-then-not-is_same_input : goal.returns-then-not-is_same_input
returns-then-not-is_same_input c = (
  λ e. cc,
  λ same.
      let n = c.loop-number.number in
      let to : n < length c.args.others.now = omega (arith, c.loop-number-test.true, c.if-inputs-others.false) in
      let one = same_at c.args.inputs.now c.args.others.now n c.index-inputs-number.result c.index-others-number.result c.loop-number-test.true to
      c.index-inputs-number.is c.index-others-number.is same in
      sym c.if-not-is_same_input.true ∙ c.is_same_input.ensures.1 one,
)

-- lists of one length that agree at each place
same_all : (inputs others : List Input) → length inputs ≡ length others
    → ((k : ℕ) (d : Input) → k < length inputs → input_value (get_or inputs k d) ≡ input_value (get_or others k d))
    → (d : InputValue) (a : Input) → map input_value inputs ≡ map input_value others
same_all inputs others size same d a =
    let first = length-map inputs input_value in
    let second = length-map others input_value in
    ext_get_or d (map input_value inputs) (map input_value others) (omega (arith, first, second, size))
    (λ k within.
    let from : k < length inputs = omega (arith, within, first) in
    let to : k < length others = omega (arith, from, size) in
    get_or-map input_value inputs k a d from ∙ same k a from ∙ sym (get_or-map input_value others k a d to))

pub returns : goal.returns
returns c = (
  λ e. same_lists c.args.inputs.now c.args.others.now c.if-inputs-others.false
      (λ k d within. c.loop-number.invariant k d (omega (arith, within, c.loop-number-test.false))),
  λ same. refl,
)
  where
    same_lists : (inputs others : List Input) → length inputs ≡ length others
        → ((k : ℕ) (d : Input) → k < length inputs → input_value (get_or inputs k d) ≡ input_value (get_or others k d))
        → map input_value inputs ≡ map input_value others
    same_lists [] [] size same = refl
    same_lists [] (b ∷ others) size same = absurd (omega (arith, size))
    same_lists (a ∷ inputs) others size same = same_all (a ∷ inputs) others size same (input_value a) a
