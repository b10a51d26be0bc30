-- What stands in both of two lists.
use Rattle.std.proofs.Common.{◌≡◌, ℕ, List, length, Some, option_map, ap, sym, ◌∙◌}
use Rattle.std.specs.List.{slice_get, zip}
use Rattle.std.proofs.lemmas.Option.{slice_get-map}
use Rattle.std.proofs.lemmas.Slice.Zip.{firsts-zip, seconds-zip}

pub firsts_at : {A B : Type 0} (xs : List A) (ys : List B) (i : ℕ) (p : A × B) → length ys ≡ length xs → slice_get (zip xs ys) i ≡ Some p → slice_get xs i ≡ Some p.0
firsts_at {A} {B} xs ys i p size at =
    let first : A × B → A = λ q. q.0 in
    ap (λ v. slice_get v i) (sym (firsts-zip xs ys size)) ∙ (slice_get-map first (zip xs ys) i ∙ ap (option_map first) at)

pub seconds_at : {A B : Type 0} (xs : List A) (ys : List B) (i : ℕ) (p : A × B) → length ys ≡ length xs → slice_get (zip xs ys) i ≡ Some p → slice_get ys i ≡ Some p.1
seconds_at {A} {B} xs ys i p size at =
    let second : A × B → B = λ q. q.1 in
    ap (λ v. slice_get v i) (sym (seconds-zip xs ys size)) ∙ (slice_get-map second (zip xs ys) i ∙ ap (option_map second) at)
