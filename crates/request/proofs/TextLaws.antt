-- The keys of a table.
use Rattle.std.proofs.Common.{◌≡◌, ◌↔◌, ℕ, List, [], ◌∷◌, Bool, true, ◌&&◌, refl, sym, ◌∙◌, ap, string_bytes, String, Global, IsTrue}
use Rattle.std.specs.List.{All}
use Rattle.std.specs.Map.{keys_of}
use Rattle.std.proofs.lemmas.Bool.Decides.{same_from_decides, Decides-by_and}
use Rattle.toml.specs.View.{members_view}
use Rattle.toml.specs.declared.value.Value.{Value}
use Rattle.request.specs.Text.{is_among, has_only}

-- the test over the members is that over the keys
abbrev only_keys : List (List ℕ) → List (String Global) → Bool
only_keys names [] = true
only_keys names (k ∷ ks) = is_among names (string_bytes k) && only_keys names ks

only_of : (names : List (List ℕ)) (es : List (String Global × Value)) → has_only names (members_view es) ≡ only_keys names (keys_of es)
only_of names [] = refl
only_of names (e ∷ es) = ap (λ b. is_among names (string_bytes e.0) && b) (only_of names es)

pub closed : (names : List (List ℕ)) (es : List (String Global × Value)) (b : Bool) → (IsTrue b ↔ All (λ k. is_among names (string_bytes k) ≡ true) (keys_of es)) → b ≡ has_only names (members_view es)
closed names es b h =
    same_from_decides b (only_keys names (keys_of es)) h
    (Decides-by_and (λ k. is_among names (string_bytes k)) (λ k. is_among names (string_bytes k) ≡ true) (only_keys names) (λ k. (λ e. e, λ e. e)) refl (λ _ _. refl) (keys_of es))
    ∙ sym (only_of names es)
