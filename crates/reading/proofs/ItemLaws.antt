-- What the items of framing weigh, and where they stand.
use Rattle.std.proofs.Common.{◌≡◌, ℕ, zero, suc, ◌+◌, ◌-◌, ◌*◌, ◌<◌, ◌≤◌, List, [], ◌∷◌, ◌++◌, length, take, ◌∙◌, subst, arith, true, false, if◌then◌else◌, ⊎_elim, ltb}
use Rattle.std.specs.List.{AllByRecursion, sum_by}
use Rattle.std.proofs.lemmas.List.Sums.{sum_by-cons, sum_by-append}
use Rattle.std.proofs.lemmas.List.{append-nil}
use Rattle.std.proofs.lemmas.Bool.{cases_Bool, cases_lt}
use Rattle.std.proofs.lemmas.Bool.Decides.{nat_tests}
use Rattle.tspkt.specs.Framed.{framed, framed_from, is_sync, acquires_sync, keeps_sync, lost}
use Rattle.tspkt.specs.declared.item.Item.{Item}
use Rattle.tspkt.specs.declared.item.Item.TheVariants.{Packet, Bad, SyncLoss, Lost}
use Rattle.tspkt.specs.declared.mode.Mode.{Mode}
use Rattle.tspkt.specs.declared.mode.Mode.TheVariants.{Hunting, Synced}
use Rattle.tspkt.specs.declared.framer.TheConstants.{MAX_LIMIT}
use Rattle.tspkt.specs.Framed.{FramerState, seen, still_to_tell, TakesPiece}
use Rattle.reading.specs.Items.{IsPlaced, IsFramerWithin, AreItems}
use Rattle.std.specs.Prelude.{Option, Some, None, IfSome}
use Rattle.std.proofs.Common.{sym, length-append}

-- the most that an item adds to a count
abbrev pub weight : Item → ℕ
weight (Packet place bytes) = 1
weight (Bad place) = 1
weight (SyncLoss place) = 1
weight (Lost count) = count

weight-lost : (from place : ℕ) → sum_by weight (lost from place) ≡ place - from
weight-lost from place =
    ⊎_elim
    (λ (l : from < place). let t : ltb from place ≡ true = grind (arith, nat_tests) in rw t (sum_by-cons weight (Lost (place - from)) [] ∙ omega arith))
    (λ (l : place ≤ from). let f : ltb from place ≡ false = grind (arith, nat_tests) in rw f (omega arith))
    (cases_lt from place)

-- bytes of a loss that began before
abbrev lost_before : Mode → ℕ → ℕ
lost_before (Hunting from) place = place - from
lost_before (Synced skip) place = 0

weight-from : (stride : ℕ) (mode : Mode) (place : ℕ) (bytes : List ℕ) → sum_by weight (framed_from stride mode place bytes) ≤ lost_before mode place + 2 * length bytes
unfolding framed_from
weight-from stride (Hunting from) place [] = omega (arith, weight-lost from place)
weight-from stride (Hunting from) place (b ∷ bytes) =
    ⊎_elim
    (λ (t : acquires_sync stride (b ∷ bytes) ≡ true).
    let rest = weight-from stride (Synced (stride - 1)) (place + 1) bytes in
    let tail = framed_from stride (Synced (stride - 1)) (place + 1) bytes in
    let item = Packet place (take 188 (b ∷ bytes)) in
    rw t (omega (arith, sum_by-append weight (lost from place) (item ∷ tail), weight-lost from place, sum_by-cons weight item tail, rest)))
    (λ (f : acquires_sync stride (b ∷ bytes) ≡ false). let rest = weight-from stride (Hunting from) (place + 1) bytes in rw f (omega (arith, rest)))
    (cases_Bool (acquires_sync stride (b ∷ bytes)))
weight-from stride (Synced skip) place [] = omega arith
weight-from stride (Synced zero) place (b ∷ bytes) =
    ⊎_elim
    (λ (l : suc (length bytes) < 188).
    let t : ltb (suc (length bytes)) 188 ≡ true = grind (arith, nat_tests) in
    rw t (omega (arith, sum_by-cons weight (Lost (suc (length bytes))) [])))
    (λ (l : 188 ≤ suc (length bytes)).
    let f : ltb (suc (length bytes)) 188 ≡ false = grind (arith, nat_tests) in
    let rest = weight-from stride (Synced (stride - 1)) (place + 1) bytes in
    let tail = framed_from stride (Synced (stride - 1)) (place + 1) bytes in
    ⊎_elim
    (λ (s : is_sync (b ∷ bytes) 0 ≡ true). rw (f, s) (omega (arith, rest, sum_by-cons weight (Packet place (take 188 (b ∷ bytes))) tail)))
    (λ (s : is_sync (b ∷ bytes) 0 ≡ false).
    ⊎_elim
    (λ (k : keeps_sync stride (b ∷ bytes) ≡ true). rw (f, s, k) (omega (arith, rest, sum_by-cons weight (Bad place) tail)))
    (λ (k : keeps_sync stride (b ∷ bytes) ≡ false).
    let hunt = weight-from stride (Hunting place) (place + 1) bytes in
    rw (f, s, k) (omega (arith, hunt, sum_by-cons weight (SyncLoss place) (framed_from stride (Hunting place) (place + 1) bytes))))
    (cases_Bool (keeps_sync stride (b ∷ bytes))))
    (cases_Bool (is_sync (b ∷ bytes) 0)))
    (cases_lt (suc (length bytes)) 188)
weight-from stride (Synced (suc skip)) place (b ∷ bytes) = let rest = weight-from stride (Synced skip) (place + 1) bytes in omega (arith, rest)

-- the items of a stream add at most twice its length to a count
pub weight-framed : (stride : ℕ) (bytes : List ℕ) → sum_by weight (framed stride bytes) ≤ 2 * length bytes
weight-framed stride bytes = let h = weight-from stride (Hunting 0) 0 bytes in omega (arith, h)

placed_lost : (from place : ℕ) (rest : List Item) → AllByRecursion IsPlaced rest → AllByRecursion IsPlaced (lost from place ++ rest)
placed_lost from place rest h = elim (ltb from place) as (λ v. AllByRecursion IsPlaced ((if v then Lost (place - from) ∷ [] else []) ++ rest)) [ true ↦ (tt, h) | false ↦ h ]

-- packets of a stream that isn't too long stand within it
pub placed_from : (stride : ℕ) (mode : Mode) (place : ℕ) (bytes : List ℕ) → place + length bytes ≤ MAX_LIMIT → AllByRecursion IsPlaced (framed_from stride mode place bytes)
unfolding framed_from
placed_from stride (Hunting from) place [] h = subst (AllByRecursion IsPlaced) (append-nil (lost from place)) (placed_lost from place [] tt)
placed_from stride (Hunting from) place (b ∷ bytes) h =
    ⊎_elim
    (λ (t : acquires_sync stride (b ∷ bytes) ≡ true). rw t (placed_lost from place (Packet place (take 188 (b ∷ bytes)) ∷ framed_from stride (Synced (stride - 1)) (place + 1) bytes) (omega arith, placed_from stride (Synced (stride - 1)) (place + 1) bytes (omega arith))))
    (λ (f : acquires_sync stride (b ∷ bytes) ≡ false). rw f (placed_from stride (Hunting from) (place + 1) bytes (omega arith)))
    (cases_Bool (acquires_sync stride (b ∷ bytes)))
placed_from stride (Synced skip) place [] h = tt
placed_from stride (Synced zero) place (b ∷ bytes) h =
    let on : place + 1 + length bytes ≤ MAX_LIMIT = omega arith in
    ⊎_elim
    (λ (l : suc (length bytes) < 188).
    let t : ltb (suc (length bytes)) 188 ≡ true = grind (arith, nat_tests) in
    rw t (tt, tt))
    (λ (l : 188 ≤ suc (length bytes)).
    let f : ltb (suc (length bytes)) 188 ≡ false = grind (arith, nat_tests) in
    ⊎_elim
    (λ (s : is_sync (b ∷ bytes) 0 ≡ true). rw (f, s) (omega arith, placed_from stride (Synced (stride - 1)) (place + 1) bytes on))
    (λ (s : is_sync (b ∷ bytes) 0 ≡ false).
    ⊎_elim
    (λ (k : keeps_sync stride (b ∷ bytes) ≡ true). rw (f, s, k) (tt, placed_from stride (Synced (stride - 1)) (place + 1) bytes on))
    (λ (k : keeps_sync stride (b ∷ bytes) ≡ false). rw (f, s, k) (tt, placed_from stride (Hunting place) (place + 1) bytes on))
    (cases_Bool (keeps_sync stride (b ∷ bytes))))
    (cases_Bool (is_sync (b ∷ bytes) 0)))
    (cases_lt (suc (length bytes)) 188)
placed_from stride (Synced (suc skip)) place (b ∷ bytes) h = placed_from stride (Synced skip) (place + 1) bytes (omega arith)

pub all_front : {X : Type 0} (P : X → Type 0) (xs ys : List X) → AllByRecursion P (xs ++ ys) → AllByRecursion P xs
all_front P [] ys h = tt
all_front P (x ∷ xs) ys h = (h.0, all_front P xs ys h.1)

-- what a framer tells of a piece
pub fed_items : (limit : ℕ) (old : FramerState) (piece : List ℕ) (new : FramerState) (items : List Item) → limit ≤ MAX_LIMIT → IsFramerWithin limit old → TakesPiece old piece [] new items → seen old + length piece ≤ limit → AreItems limit (Some new) items
fed_items limit old piece new items most kind takes room =
    let bytes = old.kept ++ (piece ++ []) in
    let size : length bytes ≡ length old.kept + length piece = omega (arith, length-append old.kept (piece ++ []), length-append piece []) in
    let here = placed_from old.stride old.mode old.position bytes (omega (arith, size, room, most)) in
    record {
      within = most;
      kind = record { limit_is = takes.limit_is ∙ kind.limit_is; within = omega (arith, takes.seen_is, room) };
      placed = all_front IsPlaced items (still_to_tell new []) (subst (AllByRecursion IsPlaced) (sym (takes.same_items [])) here);
    }

-- what is told at the end of a framer
pub finished_items : (limit : ℕ) (f : FramerState) (items : List Item) → limit ≤ MAX_LIMIT → IsFramerWithin limit f → items ≡ still_to_tell f [] → AreItems limit None items
finished_items limit f items most kind told =
    let bytes = f.kept ++ [] in
    let placed = placed_from f.stride f.mode f.position bytes (omega (arith, kind.within, most, length-append f.kept [])) in
    record {
      within = most;
      kind = tt;
      placed = subst (AllByRecursion IsPlaced) (sym told) placed;
    }

pub empty_items : (limit : ℕ) (items : List Item) → limit ≤ MAX_LIMIT → items ≡ [] → AreItems limit None items
empty_items limit items most h = record { within = most; kind = tt; placed = subst (AllByRecursion IsPlaced) (sym h) tt }

pub if_some_at : {X : Type 0} (P : X → Type 0) (o : Option X) (x : X) → o ≡ Some x → IfSome o P → P x
if_some_at P o x e h = subst (λ v. IfSome v P) e h
