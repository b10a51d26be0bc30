-- Nothing is decided of the bytes that wait for more: what follows them says which item comes next.
use Rattle.std.proofs.Common.{◌≡◌, ℕ, zero, suc, ◌+◌, ◌-◌, ◌*◌, ◌<◌, ◌≤◌, List, [], ◌∷◌, ◌++◌, length, take, replicate, get_or, refl, sym, ◌∙◌, ap, arith, Bool, true, false, if◌then◌else◌, ⊎_elim, inl, inr, ltb, ◌&&◌, ◌==◌}
use Rattle.std.proofs.lemmas.List.{length-append, length-replicate, append-nil, get_or_past, get_or_append_left, get_or-append_right, get_or-replicate}
use Rattle.std.proofs.lemmas.Bool.{cases_lt}
use Rattle.std.specs.Prelude.{Result, Ok, Err, OnOk}
use Rattle.std.proofs.lemmas.Bool.Decides.{nat_tests}
use Rattle.tspkt.specs.Framed.{framed_from, is_sync, acquires_sync, keeps_sync, lost, FramerState, new_framer, HasToldAll}
use Rattle.tspkt.specs.Stepping.{IsWaiting, IsFramer}
use Rattle.tspkt.specs.declared.item.Item.{Item}
use Rattle.tspkt.specs.declared.item.Item.TheVariants.{Packet, Bad, SyncLoss, Lost}
use Rattle.tspkt.specs.declared.mode.Mode.{Mode}
use Rattle.tspkt.specs.declared.mode.Mode.TheVariants.{Hunting, Synced}
use Rattle.tspkt.proofs.FramingLaws.{hunting_ends, synced_ends, bad_ends, told_loss}

-- whether a loss of bytes comes first, and how many bytes it has
abbrev begins_lost : List Item → Bool
begins_lost [] = false
begins_lost (Packet place bytes ∷ items) = false
begins_lost (Bad place ∷ items) = false
begins_lost (SyncLoss place ∷ items) = false
begins_lost (Lost count ∷ items) = true

abbrev lost_first : List Item → ℕ
lost_first [] = 0
lost_first (Packet place bytes ∷ items) = 0
lost_first (Bad place ∷ items) = 0
lost_first (SyncLoss place ∷ items) = 0
lost_first (Lost count ∷ items) = count

-- whether a bad packet comes first
abbrev begins_bad : List Item → Bool
begins_bad [] = false
begins_bad (Packet place bytes ∷ items) = false
begins_bad (Bad place ∷ items) = true
begins_bad (SyncLoss place ∷ items) = false
begins_bad (Lost count ∷ items) = false

-- what comes first of a list says nothing of the items behind it
same_lost : (item : Item) (xs ys : List Item) → begins_lost (item ∷ xs) ≡ begins_lost (item ∷ ys)
same_lost (Packet place bytes) xs ys = refl
same_lost (Bad place) xs ys = refl
same_lost (SyncLoss place) xs ys = refl
same_lost (Lost count) xs ys = refl

same_count : (item : Item) (xs ys : List Item) → lost_first (item ∷ xs) ≡ lost_first (item ∷ ys)
same_count (Packet place bytes) xs ys = refl
same_count (Bad place) xs ys = refl
same_count (SyncLoss place) xs ys = refl
same_count (Lost count) xs ys = refl

same_bad : (item : Item) (xs ys : List Item) → begins_bad (item ∷ xs) ≡ begins_bad (item ∷ ys)
same_bad (Packet place bytes) xs ys = refl
same_bad (Bad place) xs ys = refl
same_bad (SyncLoss place) xs ys = refl
same_bad (Lost count) xs ys = refl

-- in sync, with a whole packet's bytes, no loss of bytes comes first
no_loss : (stride p : ℕ) (bytes : List ℕ) → 188 ≤ length bytes → begins_lost (framed_from stride (Synced 0) p bytes) ≡ false
unfolding framed_from
no_loss stride p [] l = absurd (omega arith)
no_loss stride p (b ∷ bytes) l =
    let n : ltb (suc (length bytes)) 188 ≡ false = grind (arith, nat_tests) in
    rw n (elim (is_sync (b ∷ bytes) 0) as (λ s. begins_lost (if s then Packet p (b ∷ take 187 bytes) ∷ framed_from stride (Synced (stride - 1)) (p + 1) bytes else if keeps_sync stride (b ∷ bytes) then Bad p ∷ framed_from stride (Synced (stride - 1)) (p + 1) bytes else SyncLoss p ∷ framed_from stride (Hunting p) (p + 1) bytes) ≡ false) [
      | true ↦ refl
      | false ↦ elim (keeps_sync stride (b ∷ bytes)) as (λ s. begins_lost (if s then Bad p ∷ framed_from stride (Synced (stride - 1)) (p + 1) bytes else SyncLoss p ∷ framed_from stride (Hunting p) (p + 1) bytes) ≡ false) [ true ↦ refl | false ↦ refl ]
    ])

-- in sync, less than a packet
short_waits : (stride p : ℕ) (kept : List ℕ) → length kept < 188 → (item : Item) → ((more : List ℕ) → (later : List Item) × (framed_from stride (Synced 0) p (kept ++ more) ≡ item ∷ later)) → ⊥
unfolding framed_from
short_waits stride p [] l item h = let one = h [] in let bad : 0 ≡ suc (length one.0) = ap length one.1 in absurd (omega arith)
short_waits stride p (b ∷ kept) l item h =
    let one = h [] in
    let two = h (replicate 188 0) in
    let ended : framed_from stride (Synced 0) p ((b ∷ kept) ++ []) ≡ Lost (length (b ∷ kept)) ∷ [] = ap (framed_from stride (Synced 0) p) (append-nil (b ∷ kept)) ∙ synced_ends stride p (b ∷ kept) (omega arith) l in
    let long : 188 ≤ length ((b ∷ kept) ++ replicate 188 0) = simp (length-append, length-replicate) (omega arith) in
    let yes : begins_lost (item ∷ one.0) ≡ true = ap begins_lost (sym one.1 ∙ ended) in
    let no : begins_lost (item ∷ two.0) ≡ false = ap begins_lost (sym two.1) ∙ no_loss stride p ((b ∷ kept) ++ replicate 188 0) long in
    let same = same_lost item one.0 two.0 in
    let bad : true ≡ false = sym yes ∙ same ∙ no in
    cc

-- zeros behind these bytes are no sync bytes
zero_after : (kept : List ℕ) (n i : ℕ) → length kept ≤ i → i < length kept + n → is_sync (kept ++ replicate n 0) i ≡ false
zero_after kept n i a b =
    let there : get_or (kept ++ replicate n 0) i 0 ≡ 0 = get_or-append_right kept (replicate n 0) (length kept) i 0 refl a ∙ get_or-replicate n (i - length kept) 0 0 (omega arith) in
    rw there refl

past_end : (bytes : List ℕ) (i : ℕ) → length bytes ≤ i → is_sync bytes i ≡ false
past_end bytes i l = let none : get_or bytes i 0 ≡ 0 = get_or_past bytes i 0 l in rw none refl

-- in sync, a packet with a bad sync byte
bad_waits : (stride p : ℕ) (kept : List ℕ) → 188 ≤ stride → 188 ≤ length kept → length kept ≤ stride → is_sync kept 0 ≡ false → (item : Item) → ((more : List ℕ) → (later : List Item) × (framed_from stride (Synced 0) p (kept ++ more) ≡ item ∷ later)) → ⊥
bad_waits stride p kept h l m s item k =
    let one = k [] in
    let zeros : List ℕ = replicate (stride + 1) 0 in
    let two = k zeros in
    let ended : framed_from stride (Synced 0) p (kept ++ []) ≡ Bad p ∷ [] = ap (framed_from stride (Synced 0) p) (append-nil kept) ∙ bad_ends stride p kept l m s in
    let long : stride < length (kept ++ zeros) = simp (length-append, length-replicate) (omega arith) in
    let first : is_sync (kept ++ zeros) 0 ≡ false = ap (λ (n : ℕ). n == 71) (get_or_append_left kept zeros 0 0 (omega arith)) ∙ s in
    let loss = told_loss stride p (kept ++ zeros) h long first (zero_after kept (stride + 1) stride m (omega arith)) in
    let yes : begins_bad (item ∷ one.0) ≡ true = ap begins_bad (sym one.1 ∙ ended) in
    let no : begins_bad (item ∷ two.0) ≡ false = ap begins_bad (sym two.1 ∙ loss) in
    let same = same_bad item one.0 two.0 in
    let bad : true ≡ false = sym yes ∙ same ∙ no in
    cc

-- hunting, one byte more that isn't the sync byte
hunting_on : (stride a p : ℕ) (kept : List ℕ) → 188 ≤ stride → length kept ≤ 4 * stride → framed_from stride (Hunting a) p (kept ++ 0 ∷ []) ≡ lost a (p + length kept + 1)
unfolding framed_from
hunting_on stride a p [] h l = ap (lost a) (omega arith)
hunting_on stride a p (b ∷ kept) h l =
    let all = (b ∷ kept) ++ 0 ∷ [] in
    let size : length (kept ++ 0 ∷ []) ≡ length kept + 1 = length-append kept (0 ∷ []) in
    let fifth : is_sync all (4 * stride) ≡ false = ⊎_elim (λ (x : 4 * stride < length all). zero_after (b ∷ kept) 1 (4 * stride) l (omega (arith, size, x))) (λ (x : length all ≤ 4 * stride). past_end all (4 * stride) x) (cases_lt (4 * stride) (length all)) in
    let none : acquires_sync stride all ≡ false = rw fifth (elim (((is_sync all 0 && is_sync all stride) && is_sync all (2 * stride)) && is_sync all (3 * stride)) as (λ v. (v && false) ≡ false) [ true ↦ refl | false ↦ refl ]) in
    rw none (hunting_ends stride a (p + 1) (kept ++ 0 ∷ []) (omega (arith, size, l)) ∙ ap (lost a) (omega (arith, size)))

lost_length : (a p : ℕ) → lost_first (lost a p) ≡ p - a
lost_length a p = elim (cases_lt a p) [
  | inl l ↦ (let yes : ltb a p ≡ true = grind (arith, nat_tests) in rw yes refl)
  | inr l ↦ (let no : ltb a p ≡ false = grind (arith, nat_tests) in rw no (omega arith))
]

some_lost : (a p : ℕ) (item : Item) (later : List Item) → lost a p ≡ item ∷ later → a < p
some_lost a p item later e = elim (cases_lt a p) [
  | inl l ↦ l
  | inr l ↦ (let no : ltb a p ≡ false = grind (arith, nat_tests) in let none : lost a p ≡ [] = rw no refl in let bad : 0 ≡ suc (length later) = ap length (sym none ∙ e) in absurd (omega arith))
]

hunting_waits : (stride a p : ℕ) (kept : List ℕ) → 188 ≤ stride → length kept ≤ 4 * stride → (item : Item) → ((more : List ℕ) → (later : List Item) × (framed_from stride (Hunting a) p (kept ++ more) ≡ item ∷ later)) → ⊥
hunting_waits stride a p kept h l item k =
    let one = k [] in
    let two = k (0 ∷ []) in
    let ended : framed_from stride (Hunting a) p (kept ++ []) ≡ lost a (p + length kept) = ap (framed_from stride (Hunting a) p) (append-nil kept) ∙ hunting_ends stride a p kept l in
    let some = some_lost a (p + length kept) item one.0 (sym ended ∙ one.1) in
    let first : lost_first (item ∷ one.0) ≡ p + length kept - a = ap lost_first (sym one.1 ∙ ended) ∙ lost_length a (p + length kept) in
    let second : lost_first (item ∷ two.0) ≡ p + length kept + 1 - a = ap lost_first (sym two.1 ∙ hunting_on stride a p kept h l) ∙ lost_length a (p + length kept + 1) in
    absurd (omega (arith, some, first, second, same_count item one.0 two.0))

nothing_decided : (stride : ℕ) (mode : Mode) (p : ℕ) (kept : List ℕ) → 188 ≤ stride → IsWaiting stride mode kept → (item : Item) → ((more : List ℕ) → (later : List Item) × (framed_from stride mode p (kept ++ more) ≡ item ∷ later)) → ⊥
unfolding framed_from
nothing_decided stride (Hunting a) p kept h w item k = hunting_waits stride a p kept h w item k
nothing_decided stride (Synced zero) p kept h w item k =
    elim (cases_lt (length kept) 188) [
      | inl short ↦ short_waits stride p kept short item k
      | inr whole ↦
          ⊎_elim (λ (y : length kept < 188). absurd (omega arith)) (λ (y : (is_sync kept 0 ≡ false) × (length kept ≤ stride)). bad_waits stride p kept h whole y.1 y.0 item k) w
    ]
nothing_decided stride (Synced (suc skip)) p kept h w item k =
    let one = k [] in
    let none : framed_from stride (Synced (suc skip)) p (kept ++ []) ≡ [] = rw w refl in
    let bad : 0 ≡ suc (length one.0) = ap length (sym none ∙ one.1) in
    absurd (omega arith)

-- a framer has told all that is decided
pub waiting_told_all : (f : FramerState) → IsFramer f.stride f.limit f.position f.mode f.kept → HasToldAll f
waiting_told_all f is = nothing_decided f.stride f.mode f.position f.kept is.long is.waits

pub fresh_told_all : (stride limit : ℕ) → 188 ≤ stride → HasToldAll (new_framer stride limit)
fresh_told_all stride limit h = nothing_decided stride (Hunting 0) 0 [] h (omega arith)

pub told_all_where_taken : {T E : Type 0} (result : Result T E) (f : FramerState) → OnOk result (IsFramer f.stride f.limit f.position f.mode f.kept) → OnOk result (HasToldAll f)
told_all_where_taken (Ok done) f is = waiting_told_all f is
told_all_where_taken (Err e) f is = tt
