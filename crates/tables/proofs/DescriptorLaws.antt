-- Whole descriptors, one at a time.
use Rattle.std.proofs.Common.{◌≡◌, ◌⊎◌, inl, inr, ℕ, zero, suc, ◌+◌, ◌-◌, ◌<◌, ◌≤◌, List, [], ◌∷◌, ◌++◌, length, get_or, take, drop, refl, sym, ◌∙◌, ap, arith, Bool, true, false, ◌||◌, if◌then◌else◌, Option, Some, None, option_map, is_some, find}
use Rattle.std.specs.List.{list_any}
use Rattle.std.proofs.lemmas.List.{drop_more, drop-drop, length-drop, drop_all, take_rest}
use Rattle.std.proofs.lemmas.Bool.{cases_lt}
use Rattle.tables.specs.Descriptors.{are_whole, DescriptorValue, descriptors_of}

pub whole_passed : (skip j : ℕ) (bytes : List ℕ) → j ≤ skip → j ≤ length bytes → are_whole skip bytes ≡ are_whole (skip - j) (drop j bytes)
unfolding are_whole
whole_passed skip zero bytes a b = ap (λ (n : ℕ). are_whole n bytes) (omega arith)
whole_passed zero (suc j) bytes a b = absurd (omega arith)
whole_passed (suc skip) (suc j) [] a b = absurd (omega arith)
whole_passed (suc skip) (suc j) (x ∷ bytes) a b = whole_passed skip j bytes (omega arith) (omega arith) ∙ ap (λ (n : ℕ). are_whole n (drop j bytes)) (omega arith)

pub whole_short : (skip : ℕ) (bytes : List ℕ) → length bytes < skip → are_whole skip bytes ≡ false
unfolding are_whole
whole_short zero bytes h = absurd (omega arith)
whole_short (suc skip) [] h = refl
whole_short (suc skip) (b ∷ bytes) h = whole_short skip bytes (omega arith)

-- one descriptor from place i on
pub whole_more : (b : List ℕ) (i : ℕ) → i + 2 ≤ length b → are_whole 0 (drop i b) ≡ are_whole (get_or b (i + 1) 0) (drop (i + 2) b)
unfolding are_whole
whole_more b i h =
    let a0 = drop_more b i 0 (omega arith) in
    let a1 = drop_more b (i + 1) 0 (omega arith) in
    let p : i + 1 + 1 ≡ i + 2 = omega arith in
    let e : drop i b ≡ get_or b i 0 ∷ get_or b (i + 1) 0 ∷ drop (i + 2) b = a0 ∙ ap (λ (l : List ℕ). get_or b i 0 ∷ l) (a1 ∙ ap (λ (n : ℕ). get_or b (i + 1) 0 ∷ drop n b) p) in
    ap (are_whole 0) e

pub whole_step : (b : List ℕ) (i : ℕ) → i + 2 + get_or b (i + 1) 0 ≤ length b → are_whole 0 (drop i b) ≡ are_whole 0 (drop (i + 2 + get_or b (i + 1) 0) b)
whole_step b i h =
    let n = get_or b (i + 1) 0 in
    whole_more b i (omega arith)
    ∙ whole_passed n n (drop (i + 2) b) (omega arith) (omega (arith, length-drop (i + 2) b))
    ∙ ap (λ (k : ℕ). are_whole k (drop n (drop (i + 2) b))) (omega arith)
    ∙ ap (are_whole 0) (drop-drop n (i + 2) b)

pub whole_ends : (b : List ℕ) (i : ℕ) → i + 2 ≤ length b → length b < i + 2 + get_or b (i + 1) 0 → are_whole 0 (drop i b) ≡ false
whole_ends b i h l = whole_more b i h ∙ whole_short (get_or b (i + 1) 0) (drop (i + 2) b) (omega (arith, length-drop (i + 2) b))

pub whole_one : (b : List ℕ) (i : ℕ) → i + 1 ≡ length b → are_whole 0 (drop i b) ≡ false
unfolding are_whole
whole_one b i h =
    let a0 = drop_more b i 0 (omega arith) in
    let none = drop_all (i + 1) b (omega arith) in
    ap (are_whole 0) (a0 ∙ ap (λ (l : List ℕ). get_or b i 0 ∷ l) none)

pub whole_none : (b : List ℕ) (i : ℕ) → length b ≤ i → are_whole 0 (drop i b) ≡ true
unfolding are_whole
whole_none b i h = ap (are_whole 0) (drop_all i b h)

pub ruleset descriptor_steps = (whole_step, whole_ends, whole_one, whole_none)

-- ---- the descriptors, one at a time

descriptors_passed : (skip j : ℕ) (bytes : List ℕ) → j ≤ skip → j ≤ length bytes → descriptors_of skip bytes ≡ descriptors_of (skip - j) (drop j bytes)
unfolding descriptors_of
descriptors_passed skip zero bytes a b = ap (λ (n : ℕ). descriptors_of n bytes) (omega arith)
descriptors_passed zero (suc j) bytes a b = absurd (omega arith)
descriptors_passed (suc skip) (suc j) [] a b = absurd (omega arith)
descriptors_passed (suc skip) (suc j) (x ∷ bytes) a b = descriptors_passed skip j bytes (omega arith) (omega arith) ∙ ap (λ (n : ℕ). descriptors_of n (drop j bytes)) (omega arith)

pub descriptors_none : descriptors_of 0 [] ≡ []
unfolding descriptors_of
descriptors_none = refl

-- the first descriptor, and those behind it
pub descriptors_first : (b : List ℕ) (n : ℕ) → n ≡ get_or b 1 0 → 2 + n ≤ length b → descriptors_of 0 b ≡ record { tag = get_or b 0 0; body = take n (drop 2 b) } ∷ descriptors_of 0 (drop (2 + n) b)
unfolding descriptors_of
descriptors_first [] n e h = absurd (omega arith)
descriptors_first (x ∷ []) n e h = absurd (omega arith)
descriptors_first (x ∷ y ∷ b) n e h =
    let place : suc (suc n) ≡ 2 + n = omega arith in
    let over : n - n ≡ 0 = omega arith in
    let behind : descriptors_of n b ≡ descriptors_of 0 (drop (2 + n) (x ∷ y ∷ b)) =
    descriptors_passed n n b (omega arith) (omega arith)
    ∙ ap (λ (k : ℕ). descriptors_of k (drop n b)) over
    ∙ ap (λ (k : ℕ). descriptors_of 0 (drop k (x ∷ y ∷ b))) place in
    ap (λ (k : ℕ). record { tag = x; body = take k b } ∷ descriptors_of k b) (sym e)
    ∙ ap (λ (l : List DescriptorValue). record { tag = x; body = take n b } ∷ l) behind

-- whole descriptors, if any, begin with a whole one
not_both : {A : Type 0} (b : Bool) → b ≡ true → b ≡ false → A
not_both b t f = cc

head_from : (b : List ℕ) → 0 < length b → are_whole 0 b ≡ true → (length b < 2) ⊎ (2 ≤ length b) → 2 ≤ length b
head_from b l w (inl h) = not_both (are_whole 0 b) w (whole_one b 0 (omega arith))
head_from b l w (inr h) = h

pub whole_head : (b : List ℕ) → 0 < length b → are_whole 0 b ≡ true → 2 ≤ length b
whole_head b l w = head_from b l w (cases_lt (length b) 2)

body_from : (b : List ℕ) (n : ℕ) → n ≡ get_or b 1 0 → 2 ≤ length b → are_whole 0 b ≡ true → (length b < 2 + n) ⊎ (2 + n ≤ length b) → 2 + n ≤ length b
body_from b n e l w (inl h) = not_both (are_whole 0 b) w (whole_ends b 0 l (omega arith))
body_from b n e l w (inr h) = h

pub whole_body : (b : List ℕ) (n : ℕ) → n ≡ get_or b 1 0 → 0 < length b → are_whole 0 b ≡ true → 2 + n ≤ length b
whole_body b n e l w = body_from b n e (whole_head b l w) w (cases_lt (length b) (2 + n))

pub whole_behind : (b : List ℕ) (n : ℕ) → n ≡ get_or b 1 0 → 0 < length b → are_whole 0 b ≡ true → are_whole 0 (drop (2 + n) b) ≡ true
whole_behind b n e l w =
    let inside = whole_body b n e l w in
    ap (λ (k : ℕ). are_whole 0 (drop (2 + k) b)) e
    ∙ sym (whole_step b 0 (omega arith))
    ∙ w

-- the first descriptor as slices have it, and those behind it
pub descriptors_split : (b : List ℕ) (n : ℕ) → n ≡ get_or b 1 0 → 0 < length b → are_whole 0 b ≡ true → descriptors_of 0 b ≡ record { tag = get_or b 0 0; body = take (2 + n - 2) (drop 2 b) } ∷ descriptors_of 0 (take (length b - (2 + n)) (drop (2 + n) b))
descriptors_split b n e l w =
    let same : n ≡ 2 + n - 2 = omega arith in
    descriptors_first b n e (whole_body b n e l w)
    ∙ ap (λ (k : ℕ). record { tag = get_or b 0 0; body = take k (drop 2 b) } ∷ descriptors_of 0 (drop (2 + n) b)) same
    ∙ ap (λ (r : List ℕ). record { tag = get_or b 0 0; body = take (2 + n - 2) (drop 2 b) } ∷ descriptors_of 0 r) (sym (take_rest b (2 + n)))

-- one more descriptor behind whole ones
pub whole_push : (skip : ℕ) (a : List ℕ) (tag : ℕ) (body : List ℕ) → are_whole skip a ≡ true → are_whole skip (a ++ (tag ∷ length body ∷ body)) ≡ true
unfolding are_whole
whole_push zero [] tag body w = whole_passed (length body) (length body) body (omega arith) (omega arith) ∙ ap (λ (n : ℕ). are_whole n (drop (length body) body)) (let e : length body - length body ≡ 0 = omega arith in e) ∙ ap (are_whole 0) (drop_all (length body) body (omega arith))
whole_push zero (x ∷ []) tag body w = absurd (let e : false ≡ true = w in cc)
whole_push zero (x ∷ y ∷ a) tag body w = whole_push y a tag body w
whole_push (suc skip) [] tag body w = absurd (let e : false ≡ true = w in cc)
whole_push (suc skip) (x ∷ a) tag body w = whole_push skip a tag body w

pub whole_nil : are_whole 0 [] ≡ true
unfolding are_whole
whole_nil = refl

pub ruleset split_steps = (whole_head, whole_body, whole_behind)

-- something is found where any passes
any_by : {X : Type 0} (test : X → Bool) (x : X) (xs : List X) (b : Bool) → is_some (find test xs) ≡ list_any test xs → is_some (if b then Some x else find test xs) ≡ (b || list_any test xs)
any_by test x xs true e = refl
any_by test x xs false e = e

any_found : {X : Type 0} (test : X → Bool) (xs : List X) → is_some (find test xs) ≡ list_any test xs
any_found test [] = refl
any_found test (x ∷ xs) = any_by test x xs (test x) (any_found test xs)

some_mapped : {X Y : Type 0} (f : X → Y) (o : Option X) → is_some (option_map f o) ≡ is_some o
some_mapped f None = refl
some_mapped f (Some x) = refl

pub found_any : {X Y : Type 0} (f : X → Y) (test : Y → Bool) (ys : List Y) (o : Option X) → option_map f o ≡ find test ys → is_some o ≡ list_any test ys
found_any f test ys o e = sym (some_mapped f o) ∙ ap is_some e ∙ any_found test ys
