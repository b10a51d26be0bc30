use Rattle.std.proofs.Common.{arith, ◌≡◌, ◌≢◌, ◌≤◌, ◌-◌, ◌++◌, [], ◌∷◌, ◌⊎◌, inl, inr, ℕ, List, length, take, replicate, refl, ap, ◌∙◌}
use Rattle.std.proofs.lemmas.List.{length-append, take-replicate}
use Rattle.arrayvec.specs.ArrayVec.{ArrayVec}
use Rattle.section.specs.declared.packets.TheConstants.{STUFFING}
use Rattle.section.proofs.PartLaws.{bytes_behind, begins_long}
use Rattle.section.proofs.packets.bytes_at.Goals as goal
use Rattle.section.proofs.packets.bytes_at.Goals.{then-place-eq0, else-place-eq0}

pub returns : goal.returns
returns c =
    let header = c.args.header.now in
    let part = c.part_at.result.now in
    let begin = c.if-place-eq0.bytes.items in
    let items : ArrayVec ℕ → List ℕ = λ v. v.items in
    let first : c.try_extend_from_slice.new.self.items ≡ header = (rw c.unwrap.ensures at c.try_extend_from_slice.ensures.ok) ∙ ap (λ (l : List ℕ). l ++ header) c.new-bytes.ensures in
    let begins : ((c.args.place ≡ 0) × (begin ≡ header ++ 0 ∷ [])) ⊎ ((c.args.place ≢ 0) × (begin ≡ header)) =
    elim c.if-place-eq0.branch [
      | then-place-eq0 w ↦ inl (w.if-place-eq0.true, ap items w.bytes-is ∙ w.push.ensures.items ∙ ap (λ (l : List ℕ). l ++ 0 ∷ []) first)
      | else-place-eq0 w ↦ inr (w.if-place-eq0.false, ap items w.bytes-is ∙ first)
    ] in
    let all = bytes_behind c.args.section.now header part begin c.args.place (omega arith) c.requires.place c.part_at.ensures begins in
    let second : c.try_extend_from_slice-2.new.self.items ≡ begin ++ part = rw c.unwrap-2.ensures at c.try_extend_from_slice-2.ensures.ok in
    let n = 188 - c.len.result in
    let long = begins_long header begin c.args.place (omega arith) begins in
    let small : n ≤ 184 = omega (arith, c.len.ensures.value, ap length second, length-append begin part) in
    let fill : take n STUFFING ≡ replicate n 255 = ap (take n) (let e : STUFFING ≡ replicate 184 255 = refl in e) ∙ take-replicate n 184 255 small in
    let third : c.try_extend_from_slice-3.new.self.items ≡ c.try_extend_from_slice-2.new.self.items ++ take n STUFFING = rw c.unwrap-3.ensures at c.try_extend_from_slice-3.ensures.ok in
    let fourth : c.unwrap-4.result ≡ c.try_extend_from_slice-3.new.self.items = rw c.unwrap-4.ensures at c.into_inner.ensures.ok in
    let count : n ≡ 188 - length (begin ++ part) = ap (λ (k : ℕ). 188 - k) (c.len.ensures.value ∙ ap length second) in
    fourth
    ∙ third
    ∙ ap (λ (l : List ℕ). l ++ take n STUFFING) second
    ∙ ap (λ (l : List ℕ). (begin ++ part) ++ l) (fill ∙ ap (λ (k : ℕ). replicate k 255) count)
    ∙ all
