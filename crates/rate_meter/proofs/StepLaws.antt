-- What many bytes do to a step.
use Rattle.std.proofs.Common.{◌≡◌, ℕ, ◌+◌, ◌-◌, ◌<◌, ◌≤◌, List, [], ◌∷◌, ◌++◌, length, fold, refl, ap, ◌∙◌, arith, append_assoc, length-append, take, drop, take-add, drop-cons, get_or, min, nat_le, None, if◌then◌else◌, subst, sym}
use Rattle.std.proofs.lemmas.List.Sums.{fold-append}
use Rattle.std.proofs.lemmas.List.{take-append-drop}
use Rattle.std.proofs.lemmas.Grind.{common_steps}
use Rattle.std.specs.Option.{option_to_list}
use Rattle.tspkt.specs.declared.packet_size.PacketSize.{PacketSize}
use Rattle.tspkt.specs.PacketSize.{stride_of}
use Rattle.rate_meter.specs.declared.seen.Seen.{Seen}
use Rattle.rate_meter.specs.Steps.{Step, Shown, passed, gathered, headed, told_at_once, seen_of, pushed, told, stepped, shown}

-- a byte is passed over
pub passes_one : (s : Step) (seen : List Seen) (b : ℕ) → 0 < s.skip → stepped (record { step = s; seen = seen }) b ≡ record { step = passed 1 s; seen = seen }
unfolding stepped
passes_one s seen b h = grind arith

passed_more : (s : Step) (n m : ℕ) → passed n (passed m s) ≡ passed (m + n) s
passed_more s n m = grind arith

pub passes : (bytes : List ℕ) (s : Step) (seen : List Seen) → length bytes ≤ s.skip
    → shown (record { step = s; seen = seen }) bytes ≡ record { step = passed (length bytes) s; seen = seen }
passes [] s seen h = grind arith
passes (b ∷ bytes) s seen h =
    rw (passes_one s seen b (omega arith), passes bytes (passed 1 s) seen (omega arith), passed_more s (length bytes) 1) (grind arith)

pub gathers_one : (s : Step) (seen : List Seen) (b : ℕ) → s.skip ≡ 0 → 0 < length s.head → length s.head + 1 ≤ 11
    → stepped (record { step = s; seen = seen }) b ≡ record { step = gathered (b ∷ []) s; seen = seen }
unfolding stepped pushed told
gathers_one s seen b skip begun room = grind arith

pub gathers : (bytes : List ℕ) (s : Step) (seen : List Seen) → s.skip ≡ 0 → 0 < length s.head → length s.head + length bytes ≤ 11
    → shown (record { step = s; seen = seen }) bytes ≡ record { step = gathered bytes s; seen = seen }
gathers [] s seen skip begun room = grind (arith, common_steps)
gathers (b ∷ bytes) s seen skip begun room =
    let some : 0 < length (gathered (b ∷ []) s).head = simp length-append (omega arith) in
    let fits : length (gathered (b ∷ []) s).head + length bytes ≤ 11 = simp length-append (omega arith) in
    rw (gathers_one s seen b skip begun (omega arith), gathers bytes (gathered (b ∷ []) s) seen skip some fits) (grind (arith, common_steps, append_assoc))

-- a byte of a head
pub pushes : (s : Step) (seen : List Seen) (b : ℕ) → s.skip ≡ 0
    → shown (record { step = s; seen = seen }) (b ∷ []) ≡ record { step = pushed b s; seen = option_to_list (told b s) ++ seen }
unfolding stepped
pushes s seen b skip = grind arith

-- a step that stands at a packet, or in the first bytes of one
abbrev step_at : PacketSize → ℕ → List ℕ → ℕ → Step
step_at size position head good = record { size = size; position = position; skip = 0; head = head; good = good }

-- the first byte of a packet
begins : (size : PacketSize) (position good : ℕ) (seen : List Seen)
    → stepped (record { step = step_at size position [] good; seen = seen }) 0x47 ≡ record { step = step_at size (position + 1) (0x47 ∷ []) good; seen = seen }
unfolding stepped pushed told
begins size position good seen = refl

-- its twelfth byte
ends : (size : PacketSize) (position good last : ℕ) (head : List ℕ) (seen : List Seen) → length head ≡ 11
    → stepped (record { step = step_at size position head good; seen = seen }) last ≡ record {
      step = record { size = size; position = position + 1; skip = stride_of size - 12; head = []; good = min (good + 1) 5 };
      seen = option_to_list (if nat_le 4 good then seen_of (position - 11) (head ++ last ∷ []) else None) ++ seen;
    }
unfolding stepped pushed told
ends size position good last head seen full = grind arith

heads_at : (size : PacketSize) (position good last : ℕ) (middle : List ℕ) (seen : List Seen) → length middle ≡ 10
    → shown (record { step = step_at size position [] good; seen = seen }) (0x47 ∷ (middle ++ last ∷ []))
    ≡ record {
      step = headed (step_at size position [] good);
      seen = option_to_list (told_at_once (0x47 ∷ (middle ++ last ∷ [])) (step_at size position [] good)) ++ seen;
    }
heads_at size position good last middle seen ten =
    let first = begins size position good seen in
    let some : 0 < length {A = ℕ} (0x47 ∷ []) = omega arith in
    let room : length {A = ℕ} (0x47 ∷ []) + length middle ≤ 11 = omega arith in
    let gathered_is = gathers middle (step_at size (position + 1) (0x47 ∷ []) good) seen refl some room in
    let full : length {A = ℕ} (0x47 ∷ middle) ≡ 11 = omega arith in
    let last_is = ends size (position + 1 + length middle) good last (0x47 ∷ middle) seen full in
    let here : position + 1 + length middle - 11 ≡ position = omega arith in
    let there : position + 1 + length middle + 1 ≡ position + 12 = omega arith in
    ap (λ (x : Shown). fold stepped x (middle ++ last ∷ [])) first
    ∙ fold-append stepped (record { step = step_at size (position + 1) (0x47 ∷ []) good; seen = seen }) middle (last ∷ [])
    ∙ ap (λ (x : Shown). stepped x last) gathered_is
    ∙ last_is
    ∙ ap (λ (at : ℕ). record {
      step = record { size = size; position = position + 1 + length middle + 1; skip = stride_of size - 12; head = []; good = min (good + 1) 5 };
      seen = option_to_list (if nat_le 4 good then seen_of at (0x47 ∷ (middle ++ last ∷ [])) else None) ++ seen;
    }) here
    ∙ ap (λ (at : ℕ). record {
      step = record { size = size; position = at; skip = stride_of size - 12; head = []; good = min (good + 1) 5 };
      seen = option_to_list (if nat_le 4 good then seen_of position (0x47 ∷ (middle ++ last ∷ [])) else None) ++ seen;
    }) there

twelve : (rest : List ℕ) → length rest ≡ 11 → take 10 rest ++ get_or rest 10 0 ∷ [] ≡ rest
twelve rest e =
    let nothing : drop 11 rest ≡ [] = grind (arith, common_steps) in
    let last : drop 10 rest ≡ get_or rest 10 0 ∷ drop 11 rest = drop-cons rest 10 0 (omega arith) in
    ap (λ (d : List ℕ). take 10 rest ++ d) (sym (last ∙ ap (λ (d : List ℕ). get_or rest 10 0 ∷ d) nothing)) ∙ take-append-drop 10 rest

heads_on : (b : ℕ) (rest : List ℕ) (size : PacketSize) (position good : ℕ) (seen : List Seen) → length rest ≡ 11 → b ≡ 0x47
    → shown (record { step = step_at size position [] good; seen = seen }) (b ∷ rest)
    ≡ record { step = headed (step_at size position [] good); seen = option_to_list (told_at_once (b ∷ rest) (step_at size position [] good)) ++ seen }
heads_on b rest size position good seen e is =
    let s = step_at size position [] good in
    let P : List ℕ → Type 0 = λ r.
    shown (record { step = s; seen = seen }) (0x47 ∷ r) ≡ record { step = headed s; seen = option_to_list (told_at_once (0x47 ∷ r) s) ++ seen } in
    let Q : ℕ → Type 0 = λ x.
    shown (record { step = s; seen = seen }) (x ∷ rest) ≡ record { step = headed s; seen = option_to_list (told_at_once (x ∷ rest) s) ++ seen } in
    let ten : length (take 10 rest) ≡ 10 = grind (arith, common_steps) in
    subst Q (sym is) (subst P (twelve rest e) (heads_at size position good (get_or rest 10 0) (take 10 rest) seen ten))

-- the first 12 bytes of a packet at once
pub heads : (bytes : List ℕ) (s : Step) (seen : List Seen) → s.skip ≡ 0 → s.head ≡ [] → length bytes ≡ 12 → get_or bytes 0 0 ≡ 0x47
    → shown (record { step = s; seen = seen }) bytes ≡ record { step = headed s; seen = option_to_list (told_at_once bytes s) ++ seen }
heads [] s seen skip empty e good = absurd (omega arith)
heads (b ∷ rest) s seen skip empty e good =
    let G : ℕ → List ℕ → Type 0 = λ n h.
    let t : Step = record { size = s.size; position = s.position; skip = n; head = h; good = s.good } in
    shown (record { step = t; seen = seen }) (b ∷ rest) ≡ record { step = headed t; seen = option_to_list (told_at_once (b ∷ rest) t) ++ seen } in
    let at : G 0 [] = heads_on b rest s.size s.position s.good seen (omega arith) good in
    let H : List ℕ → Type 0 = λ h. G 0 h in
    let K : ℕ → Type 0 = λ n. G n s.head in
    subst K (sym skip) (subst H (sym empty) at)

pub no_bytes : (bytes : List ℕ) → length bytes ≡ 0 → bytes ≡ []
no_bytes [] e = refl
no_bytes (b ∷ bytes) e = absurd (omega arith)

-- a piece that is shown in two parts
pub shown_more : (s : Shown) (piece : List ℕ) (at n : ℕ) → shown (shown s (take at piece)) (take n (drop at piece)) ≡ shown s (take (at + n) piece)
shown_more s piece at n = sym (ap (shown s) (take-add at n piece) ∙ fold-append stepped s (take at piece) (take n (drop at piece)))
