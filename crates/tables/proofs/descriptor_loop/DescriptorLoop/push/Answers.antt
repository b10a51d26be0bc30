use Rattle.std.proofs.Common.{◌≡◌, ◌++◌, ◌∷◌, [], List, ℕ, length, ap, ◌∙◌}
use Rattle.std.proofs.lemmas.List.{append_assoc}
use Rattle.tables.specs.Descriptors.{are_whole}
use Rattle.tables.proofs.DescriptorLaws.{whole_push}
use Rattle.tables.proofs.descriptor_loop.DescriptorLoop.push.Goals as goal

pub invariant_of-self-2 : goal.invariant_of-self-2
invariant_of-self-2 c =
    let old = c.self.inside.bytes.items in
    let tag = c.args.tag in
    let body = c.args.body.now in
    let first : c.push_reserved.new.self.items ≡ old ++ tag ∷ [] = c.push_reserved.ensures.items ∙ ap (λ (l : List ℕ). l ++ tag ∷ []) c.in_ok-reserve.ensures.items in
    let second : c.push_reserved-2.new.self.items ≡ (old ++ tag ∷ []) ++ length body ∷ [] = c.push_reserved-2.ensures.items ∙ ap (λ (l : List ℕ). l ++ length body ∷ []) first in
    let third : c.extend_from_slice.new.self.items ≡ c.push_reserved-2.new.self.items ++ body = rw c.unwrap.ensures at c.extend_from_slice.ensures.items in
    ap (are_whole 0) (third ∙ ap (λ (l : List ℕ). l ++ body) (second ∙ append_assoc old (tag ∷ []) (length body ∷ [])) ∙ append_assoc old (tag ∷ length body ∷ []) body)
    ∙ whole_push 0 old tag body c.self.invariant
