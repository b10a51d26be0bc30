use Rattle.std.proofs.Common.{arith, ◌≡◌, ◌≤◌, ◌+◌, ◌-◌, ◌++◌, ◌∷◌, [], ◌==◌, ℕ, List, length, take, drop, get_or, true, false, inl, inr, sym, ap, subst, ◌∙◌}
use Rattle.std.proofs.lemmas.List.{drop_more, drop_all, take_rest, drop-drop, length-drop}
use Rattle.std.proofs.lemmas.Bool.Decides.{nat_tests}
use Rattle.section.specs.Assembled.{sections_from}
use Rattle.section.specs.Collecting.{Collects}
use Rattle.section.specs.declared.collected.Collected.TheVariants.{Begun, TooLong, Whole}
use Rattle.section.proofs.CollectLaws.{outcome-begun, outcome-too_long}
use Rattle.section.proofs.SectionsLaws.{continues, stops, reads_on, reads_none, sections_stuffing, sections_nil}
use Rattle.section.proofs.reading.read_sections.Goals as goal

pub loop-at-preserved : goal.loop-at-preserved
loop-at-preserved c =
    let bytes = c.args.bytes.now in
    let at = c.loop-at.at in
    let n = c.in-Whole.count in
    let b = get_or bytes at 0 in
    let tail = drop (at + 1) bytes in
    let xs : drop at bytes ≡ b ∷ tail = drop_more bytes at 0 (omega arith) in
    let P : List ℕ → List ℕ → Type 0 = λ held l. Collects held l c.collect.new.begun.items c.loop-at.out.items c.collect.new.out.items (Whole n) in
    let c1 = subst (λ (held : List ℕ). P held (take (length bytes - at) (drop at bytes))) c.loop-at.invariant.none c.in-Whole.ensures.collects in
    let c2 : P [] (b ∷ tail) = subst (P []) (take_rest bytes at ∙ xs) c1 in
    let plain : (b == 255) ≡ false = grind (arith, nat_tests) in
    let s = continues b tail c.collect.new.begun.items c.loop-at.out.items c.collect.new.out.items n plain c2 in
    let next : drop n (b ∷ tail) ≡ drop (at + n) bytes = ap (drop n) (sym xs) ∙ drop-drop n at bytes in
    let inside : at + n ≤ length bytes = omega (arith, s.inside, ap length xs, length-drop at bytes) in
    record {
      none = s.none;
      inside = inside;
      begun = ap (λ (l : List ℕ). (sections_from 0 l).begun) (sym next) ∙ s.begun ∙ ap (λ (l : List ℕ). (sections_from 0 l).begun) (sym xs) ∙ c.loop-at.invariant.begun;
      told = ap (λ (l : List ℕ). c.collect.new.out.items ++ (sections_from 0 l).told) (sym next) ∙ s.told ∙ ap (λ (l : List ℕ). c.loop-at.out.items ++ (sections_from 0 l).told) (sym xs) ∙ c.loop-at.invariant.told;
      room = omega (arith, s.some);
      capacity = omega arith;
    }

pub returns-in-Begun-clause-reads : goal.returns-in-Begun-clause-reads
returns-in-Begun-clause-reads c =
    let bytes = c.args.bytes.now in
    let at = c.loop-at.at in
    let b = get_or bytes at 0 in
    let tail = drop (at + 1) bytes in
    let xs : drop at bytes ≡ b ∷ tail = drop_more bytes at 0 (omega arith) in
    let P : List ℕ → List ℕ → Type 0 = λ held l. Collects held l c.collect.new.begun.items c.loop-at.out.items c.collect.new.out.items Begun in
    let c1 = subst (λ (held : List ℕ). P held (take (length bytes - at) (drop at bytes))) c.loop-at.invariant.none c.in-Begun.ensures.collects in
    let c2 : P [] (b ∷ tail) = subst (P []) (take_rest bytes at ∙ xs) c1 in
    let plain : (b == 255) ≡ false = grind (arith, nat_tests) in
    let s = stops b tail c.collect.new.begun.items c.loop-at.out.items c.collect.new.out.items Begun plain c2 (inr (outcome-begun [] (b ∷ tail) c2.next).1) in
    reads_on bytes (b ∷ tail) at _ _ _ _ (sym xs) c.loop-at.invariant.begun c.loop-at.invariant.told s

pub returns-in-TooLong-clause-reads : goal.returns-in-TooLong-clause-reads
returns-in-TooLong-clause-reads c =
    let bytes = c.args.bytes.now in
    let at = c.loop-at.at in
    let b = get_or bytes at 0 in
    let tail = drop (at + 1) bytes in
    let xs : drop at bytes ≡ b ∷ tail = drop_more bytes at 0 (omega arith) in
    let P : List ℕ → List ℕ → Type 0 = λ held l. Collects held l c.collect.new.begun.items c.loop-at.out.items c.collect.new.out.items TooLong in
    let c1 = subst (λ (held : List ℕ). P held (take (length bytes - at) (drop at bytes))) c.loop-at.invariant.none c.in-TooLong.ensures.collects in
    let c2 : P [] (b ∷ tail) = subst (P []) (take_rest bytes at ∙ xs) c1 in
    let plain : (b == 255) ≡ false = grind (arith, nat_tests) in
    let s = stops b tail c.collect.new.begun.items c.loop-at.out.items c.collect.new.out.items TooLong plain c2 (inl (outcome-too_long [] (b ∷ tail) c2.next)) in
    reads_on bytes (b ∷ tail) at _ _ _ _ (sym xs) c.loop-at.invariant.begun c.loop-at.invariant.told s

pub returns-else-bytes-at-clause-reads : goal.returns-else-bytes-at-clause-reads
returns-else-bytes-at-clause-reads c =
    let bytes = c.args.bytes.now in
    let at = c.loop-at.at in
    let b = get_or bytes at 0 in
    let tail = drop (at + 1) bytes in
    let xs : drop at bytes ≡ b ∷ tail = drop_more bytes at 0 (omega arith) in
    let stuffing : (b == 255) ≡ true = grind (arith, nat_tests) in
    reads_on bytes (b ∷ tail) at _ _ _ _ (sym xs) c.loop-at.invariant.begun c.loop-at.invariant.told (reads_none (b ∷ tail) c.loop-at.begun.items c.loop-at.out.items (sections_stuffing b tail stuffing) c.loop-at.invariant.none)

pub returns-after-loop-at-clause-reads : goal.returns-after-loop-at-clause-reads
returns-after-loop-at-clause-reads c =
    let bytes = c.args.bytes.now in
    let at = c.loop-at.at in
    let none : drop at bytes ≡ [] = drop_all at bytes (omega arith) in
    reads_on bytes [] at _ _ _ _ (sym none) c.loop-at.invariant.begun c.loop-at.invariant.told (reads_none [] c.loop-at.begun.items c.loop-at.out.items sections_nil c.loop-at.invariant.none)
