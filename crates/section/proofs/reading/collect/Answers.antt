use Rattle.std.proofs.Common.{arith, ◌≡◌, ℕ, ◌+◌, ◌-◌, ◌≤◌, ◌<◌, ◌++◌, [], ◌∷◌, List, length, take, drop, refl, sym, ap, ◌∙◌}
use Rattle.std.proofs.lemmas.List.{take_rest}
use Rattle.section.specs.Section.{section_length_of}
use Rattle.section.specs.Assembled.{told_of_whole}
use Rattle.section.specs.declared.collected.Collected.TheVariants.{Whole}
use Rattle.section.proofs.CollectLaws.{parted, header_grows, header_within, collects_short, collects_too_long, collects_begun, collects_whole, collects_same}
use Rattle.section.proofs.reading.collect.Goals as goal

pub returns-then-len-lt3-clause-collects : goal.returns-then-len-lt3-clause-collects
returns-then-len-lt3-clause-collects c =
    collects_short c.args.begun.now.items c.args.bytes.now c.collect_length-head.new.begun.items c.collect_length-head.result c.args.out.now.items c.collect_length-head.ensures.count c.collect_length-head.ensures.items (omega arith)

pub returns-then-length-gt-MAX_SECTION_LENGTH-clause-collects :
    goal.returns-then-length-gt-MAX_SECTION_LENGTH-clause-collects
returns-then-length-gt-MAX_SECTION_LENGTH-clause-collects c =
    let held = c.args.begun.now.items in
    let bytes = c.args.bytes.now in
    let first = c.collect_length-head.new.begun.items in
    let n = c.collect_length-head.result in
    let e : held ++ bytes ≡ first ++ drop n bytes = parted held bytes n ∙ ap (λ (l : List ℕ). l ++ drop n bytes) (sym c.collect_length-head.ensures.items) in
    let size : c.section_length-length.result ≡ section_length_of first = c.section_length-length.ensures ∙ ap section_length_of c.deref.ensures.0 in
    collects_same held bytes _ _ _ _ _ _ _ c.clear.ensures c.push_reserved.ensures.items refl (collects_too_long held bytes first (drop n bytes) c.args.out.now.items e (omega arith) (omega arith))

pub returns-then-rest-missing-clause-collects : goal.returns-then-rest-missing-clause-collects
returns-then-rest-missing-clause-collects c =
    let held = c.args.begun.now.items in
    let bytes = c.args.bytes.now in
    let first = c.collect_length-head.new.begun.items in
    let n = c.collect_length-head.result in
    let rest = drop n bytes in
    let e : held ++ bytes ≡ first ++ rest = parted held bytes n ∙ ap (λ (l : List ℕ). l ++ rest) (sym c.collect_length-head.ensures.items) in
    let size : c.section_length-length.result ≡ section_length_of first = c.section_length-length.ensures ∙ ap section_length_of c.deref.ensures.0 in
    let all : take (length bytes - n) rest ≡ rest = take_rest bytes n in
    let few : length rest < c.section_length-length.result + 3 - length first = omega (arith, ap length all) in
    let kept : c.try_extend_from_slice.new.self.items ≡ first ++ rest = (rw c.unwrap.ensures at c.try_extend_from_slice.ensures.ok) ∙ ap (λ (l : List ℕ). first ++ l) all in
    collects_same held bytes _ _ _ _ _ _ _ kept refl refl (collects_begun held bytes first rest c.args.out.now.items e (omega arith) (omega arith) (omega arith))

pub returns-clause-collects : goal.returns-clause-collects
returns-clause-collects c =
    let held = c.args.begun.now.items in
    let bytes = c.args.bytes.now in
    let first = c.collect_length-head.new.begun.items in
    let n = c.collect_length-head.result in
    let rest = drop n bytes in
    let e : held ++ bytes ≡ first ++ rest = parted held bytes n ∙ ap (λ (l : List ℕ). l ++ rest) (sym c.collect_length-head.ensures.items) in
    let size : c.section_length-length.result ≡ section_length_of first = c.section_length-length.ensures ∙ ap section_length_of c.deref.ensures.0 in
    let all : take (length bytes - n) rest ≡ rest = take_rest bytes n in
    let m = c.section_length-length.result + 3 - c.len-2.result in
    let enough : m ≤ length rest = omega (arith, ap length all) in
    let whole : take m (take (length bytes - n) rest) ≡ take m rest = ap (take m) all in
    let kept : c.try_extend_from_slice-2.new.self.items ≡ first ++ take m rest = (rw c.unwrap-2.ensures at c.try_extend_from_slice-2.ensures.ok) ∙ ap (λ (l : List ℕ). first ++ l) whole in
    let told : c.tell_whole.new.out.items ≡ c.args.out.now.items ++ told_of_whole (first ++ take m rest) ∷ [] = c.tell_whole.ensures.told ∙ ap (λ (l : List ℕ). c.args.out.now.items ++ told_of_whole l ∷ []) kept in
    let grown = header_grows held bytes first n c.collect_length-head.ensures.count c.collect_length-head.ensures.items in
    let within = header_within held bytes first n c.requires.begun c.collect_length-head.ensures.count c.collect_length-head.ensures.items in
    let count : n + m ≡ section_length_of first + 3 - length held = omega arith in
    collects_same held bytes _ _ _ _ _ _ _ c.tell_whole.ensures.begun told (ap Whole count) (collects_whole held bytes first rest m c.args.out.now.items e (omega arith) (omega arith) (omega arith) enough)
