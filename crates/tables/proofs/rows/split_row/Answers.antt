use Rattle.std.proofs.Common.{arith, ◌≡◌, ◌+◌, ◌-◌, ◌≤◌, Bool, ℕ, List, length, take, drop, ap, ◌∙◌, sym, refl}
use Rattle.std.proofs.lemmas.List.{length-drop, take_rest}
use Rattle.tables.specs.Descriptors.{are_whole}
use Rattle.tables.specs.Rows.{loop_length_of}
use Rattle.tables.proofs.RowLaws.{whole_cut, whole_bad, whole_good}
use Rattle.tables.proofs.rows.split_row.Goals as goal

pub returns-then-bytes-head_length-clause-whole : goal.returns-then-bytes-head_length-clause-whole
returns-then-bytes-head_length-clause-whole c =
    let w = whole_cut c.args.head_length c.args.bytes.now (omega arith) in
    (λ e. cc, λ e. cc)

pub returns-then-behind-count-clause-whole : goal.returns-then-behind-count-clause-whole
returns-then-behind-count-clause-whole c =
    let w = whole_cut c.args.head_length c.args.bytes.now (omega (arith, length-drop c.args.head_length c.args.bytes.now)) in
    (λ e. cc, λ e. cc)

-- what `are_whole` is asked about
slice_is : (h n count : ℕ) (bytes : List ℕ) (r : Bool) → r ≡ are_whole 0 (take count (take (length bytes - h) (drop h bytes))) → count ≡ n → are_whole 0 (take n (drop h bytes)) ≡ r
slice_is h n count bytes r e same =
    ap (λ (l : List ℕ). are_whole 0 (take n l)) (sym (take_rest bytes h))
    ∙ ap (λ (k : ℕ). are_whole 0 (take k (take (length bytes - h) (drop h bytes)))) (sym same)
    ∙ sym e

pub returns-then-not-are_whole-clause-whole : goal.returns-then-not-are_whole-clause-whole
returns-then-not-are_whole-clause-whole c =
    let e = slice_is c.args.head_length _ c.loop_length-count.result c.args.bytes.now c.are_whole.result c.are_whole.ensures c.loop_length-count.ensures in
    let w = whole_bad c.args.head_length c.args.bytes.now (e ∙ c.if-not-are_whole.true) in
    (λ e. cc, λ e. cc)

pub returns-clause-whole : goal.returns-clause-whole
returns-clause-whole c =
    let e = slice_is c.args.head_length _ c.loop_length-count.result c.args.bytes.now c.are_whole.result c.are_whole.ensures c.loop_length-count.ensures in
    let long : c.args.head_length + loop_length_of c.args.head_length c.args.bytes.now ≤ length c.args.bytes.now = omega (arith, length-drop c.args.head_length c.args.bytes.now) in
    let w = whole_good c.args.head_length c.args.bytes.now long (e ∙ c.if-not-are_whole.false) in
    (λ e. w, λ e. refl)
