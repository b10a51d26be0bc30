-- What a stream keeps while it is read.
use Rattle.std.proofs.Common.{◌≡◌, ◌≢◌, ℕ, ◌+◌, ◌<◌, ◌≤◌, List, [], ◌∷◌, ◌++◌, length, drop, refl, sym, ◌∙◌, ap, subst, arith, append_assoc, length-append, inl, inr}
use Rattle.std.specs.Prelude.{Option, Some, None, IsSome, true, false, unwrap_or}
use Rattle.std.proofs.lemmas.Option.{none-some}
use Rattle.std.proofs.lemmas.Bool.{cases_lt}
use Rattle.std.specs.List.{slice_get}
use Rattle.std.specs.Io.KnownBytes.{IsAtEnd}
use Rattle.std.proofs.lemmas.List.{append-nil}
use Rattle.tspkt.specs.Framed.{FramerState, new_framer, framed, framed_from, seen, packets_of, still_to_tell}
use Rattle.tspkt.specs.declared.item.Item.{Item}
use Rattle.tspkt.proofs.FramingLaws.{begins_framed, whole_framed, packets_framed, packets_of-append}
use Rattle.tspkt.proofs.DecidedLaws.{fresh_told_all}
use Rattle.reading.proofs.DecidedLaws.{all_decided}
use Rattle.reading.specs.declared.stop.Stop.{Stop}
use Rattle.reading.specs.declared.stop.Stop.TheVariants.{ReadFailed, TooMuch}
use Rattle.reading.specs.Items.{ItemsValue, new_items, given_up, TakesMore, Finishes, IsFull}
use Rattle.reading.specs.StreamReading.{StreamState, IsReading, IsAllTold, IsOver, HasTold, BeginsPackets, BeginsFramed}

abbrev pub state : ℕ → Option FramerState → List Item → List ℕ → Option (List ℕ) → Option Stop → StreamState
state limit framer told bytes left stopped = record { limit = limit; framer = framer; told = told; bytes = bytes; left = left; stopped = stopped }

-- that of a stream with these items, of which these were taken before
abbrev pub passed_state : ItemsValue → List Item → List ℕ → Option (List ℕ) → Option Stop → StreamState
passed_state items passed bytes left stopped = state items.limit items.framer (passed ++ items.ahead) bytes left stopped

-- the packets of what was told begin those of the bytes
pub told_packets : (stride : ℕ) (limit : ℕ) (framer : Option FramerState) (told : List Item) (bytes : List ℕ) (left : Option (List ℕ)) (stopped : Option Stop) → HasTold stride (state limit framer told bytes left stopped) → BeginsPackets stride bytes told
told_packets stride limit None told bytes left stopped h = h.packets
told_packets stride limit (Some f) told bytes left stopped h = λ more.
    let b = begins_framed f told bytes h.stride_is h.same more in
    (packets_of b.0, sym (packets_of-append told b.0) ∙ ap packets_of b.1)

-- what was told begins the framing of bytes that aren't too many
pub told_inside : (stride : ℕ) (limit : ℕ) (framer : Option FramerState) (told : List Item) (bytes : List ℕ) (left : Option (List ℕ)) (stopped : Option Stop) → HasTold stride (state limit framer told bytes left stopped)
    → (inside : List ℕ) × (later : List Item) × (length inside ≤ limit) × (told ++ later ≡ framed stride inside)
told_inside stride limit None told bytes left stopped h = h.inside
told_inside stride limit (Some f) told bytes left stopped h =
    let b = begins_framed f told bytes h.stride_is h.same [] in
    (bytes, b.0, h.within, b.1 ∙ ap (framed stride) (append-nil bytes))

-- a beginning of a beginning
pub front_packets : (stride : ℕ) (bytes : List ℕ) (xs ys : List Item) → BeginsPackets stride bytes (xs ++ ys) → BeginsPackets stride bytes xs
front_packets stride bytes xs ys h = λ more.
    let b = h more in
    (packets_of ys ++ b.0, sym (append_assoc (packets_of xs) (packets_of ys) b.0) ∙ ap (λ v. v ++ b.0) (sym (packets_of-append xs ys)) ∙ b.1)

-- of the packets of fewer bytes
later_packets : (stride : ℕ) (bytes piece : List ℕ) (xs : List Item) → BeginsPackets stride bytes xs → BeginsPackets stride (bytes ++ piece) xs
later_packets stride bytes piece xs h = λ more. let b = h (piece ++ more) in (b.0, b.1 ∙ ap (λ v. packets_of (framed stride v)) (sym (append_assoc bytes piece more)))

-- what was told begins the framing of the bytes
pub told_framed : (stride : ℕ) (limit : ℕ) (framer : Option FramerState) (told : List Item) (bytes : List ℕ) (left : Option (List ℕ)) (stopped : Option Stop) → HasTold stride (state limit framer told bytes left stopped) → BeginsFramed stride bytes (IsAtEnd left) told
told_framed stride limit None told bytes left stopped h = h.begun
told_framed stride limit (Some f) told bytes left stopped h = λ more none. begins_framed f told bytes h.stride_is h.same more

pub front_framed : (stride : ℕ) (bytes : List ℕ) (at_end : Type 0) (xs ys : List Item) → BeginsFramed stride bytes at_end (xs ++ ys) → BeginsFramed stride bytes at_end xs
front_framed stride bytes at_end xs ys h = λ more none. let b = h more none in (ys ++ b.0, sym (append_assoc xs ys b.0) ∙ b.1)

-- of a stream that is still read also where a piece more follows
reading_framed : (stride : ℕ) (limit : ℕ) (framer : Option FramerState) (told : List Item) (bytes piece : List ℕ) (left : Option (List ℕ)) (stopped : Option Stop) (at_last : Type 0) → IsSome framer → HasTold stride (state limit framer told bytes left stopped) → BeginsFramed stride (bytes ++ piece) at_last told
reading_framed stride limit None told bytes piece left stopped at_last going h = let bad : false ≡ true = going in cc
reading_framed stride limit (Some f) told bytes piece left stopped at_last going h = λ more none.
    let b = begins_framed f told bytes h.stride_is h.same (piece ++ more) in (b.0, b.1 ∙ ap (framed stride) (sym (append_assoc bytes piece more)))

-- while it is read nothing stopped it
pub goes_on : (stride : ℕ) (limit : ℕ) (framer : Option FramerState) (told : List Item) (bytes : List ℕ) (left : Option (List ℕ)) (stopped : Option Stop) → IsSome framer → HasTold stride (state limit framer told bytes left stopped) → stopped ≡ None
goes_on stride limit None told bytes left stopped going h = let bad : false ≡ true = going in cc
goes_on stride limit (Some f) told bytes left stopped going h = h.goes_on

-- it wasn't told as too long
pub not_much : (stride : ℕ) (limit : ℕ) (framer : Option FramerState) (told : List Item) (bytes : List ℕ) (left : Option (List ℕ)) (stopped : Option Stop) → IsSome framer → HasTold stride (state limit framer told bytes left stopped) → stopped ≡ Some TooMuch → ⊥
not_much stride limit framer told bytes left stopped going h e = none-some TooMuch (sym (goes_on stride limit framer told bytes left stopped going h) ∙ e)

-- a stream that isn't told as too long isn't
pub told_within : (stride : ℕ) (limit : ℕ) (framer : Option FramerState) (told : List Item) (bytes : List ℕ) (left : Option (List ℕ)) (stopped : Option Stop) → HasTold stride (state limit framer told bytes left stopped) → (stopped ≡ Some TooMuch → ⊥) → length bytes ≤ limit
told_within stride limit None told bytes left stopped h other = h.within other
told_within stride limit (Some f) told bytes left stopped h other = h.within

pub some_same : {X : Type 0} (x y : X) → Some x ≡ Some y → x ≡ y
some_same x y e = ap (λ (o : Option _). unwrap_or o x) e

left_with : (stride : ℕ) (limit : ℕ) (framer : Option FramerState) (passed ahead : List Item) (bytes piece : List ℕ) (left at_last : Option (List ℕ)) (stopped : Option Stop) (cause : Stop)
    → (cause ≡ TooMuch → limit < length (bytes ++ piece)) → ((cause ≡ TooMuch → ⊥) → length (bytes ++ piece) ≤ limit) → BeginsFramed stride (bytes ++ piece) (IsAtEnd at_last) passed
    → (cause ≡ ReadFailed → IsAllTold stride (bytes ++ piece) passed) → HasTold stride (state limit framer (passed ++ ahead) bytes left stopped)
    → HasTold stride (state limit None (passed ++ []) (bytes ++ piece) at_last (Some cause))
left_with stride limit framer passed ahead bytes piece left at_last stopped cause full fits framing all_passed h =
    let packets = front_packets stride bytes passed ahead (told_packets stride limit framer (passed ++ ahead) bytes left stopped h) in
    let inside = told_inside stride limit framer (passed ++ ahead) bytes left stopped h in
    let over : IsOver stride (state limit None (passed ++ []) (bytes ++ piece) at_last (Some cause)) = record {
      packets = subst (BeginsPackets stride (bytes ++ piece)) (sym (append-nil passed)) (later_packets stride bytes piece passed packets);
      begun = subst (BeginsFramed stride (bytes ++ piece) (IsAtEnd at_last)) (sym (append-nil passed)) framing;
      inside = (inside.0, ahead ++ inside.1, inside.2, ap (λ v. v ++ (ahead ++ inside.1)) (append-nil passed) ∙ sym (append_assoc passed ahead inside.1) ∙ inside.3);
      ended = λ e. absurd (none-some cause (sym e));
      too_much = λ e. full (some_same cause TooMuch e);
      within = λ other. fits (λ same. other (ap Some same));
      failed = λ e. subst (IsAllTold stride (bytes ++ piece)) (sym (append-nil passed)) (all_passed (some_same cause ReadFailed e));
    } in
    over

-- a stream that is left while it is read, some bytes later
pub left_over : (stride : ℕ) (items new : ItemsValue) (passed : List Item) (bytes piece : List ℕ) (left at_last : Option (List ℕ)) (stopped : Option Stop) (cause : Stop)
    → new ≡ given_up items → (cause ≡ TooMuch → items.limit < length (bytes ++ piece)) → ((cause ≡ TooMuch → ⊥) → length (bytes ++ piece) ≤ items.limit) → cause ≢ ReadFailed → IsSome items.framer
    → HasTold stride (passed_state items passed bytes left stopped) → HasTold stride (passed_state new passed (bytes ++ piece) at_last (Some cause))
left_over stride items new passed bytes piece left at_last stopped cause gone full fits unfailed going h =
    let framing = reading_framed stride items.limit items.framer (passed ++ items.ahead) bytes piece left stopped (IsAtEnd at_last) going h in
    let P : ItemsValue → Type 0 = λ v. HasTold stride (passed_state v passed (bytes ++ piece) at_last (Some cause)) in
    subst P (sym gone)
    (left_with stride items.limit items.framer passed items.ahead bytes piece left at_last stopped cause full fits (front_framed stride (bytes ++ piece) (IsAtEnd at_last) passed items.ahead framing) (λ e. absurd (unfailed e)) h)

-- a stream that is left, with no bytes more
pub left_now : (stride : ℕ) (items new : ItemsValue) (passed : List Item) (bytes : List ℕ) (left : Option (List ℕ)) (stopped : Option Stop) (cause : Stop)
    → new ≡ given_up items → cause ≢ TooMuch → (stopped ≡ Some TooMuch → ⊥) → (cause ≡ ReadFailed → IsAllTold stride bytes passed)
    → HasTold stride (passed_state items passed bytes left stopped) → HasTold stride (passed_state new passed bytes left (Some cause))
left_now stride items new passed bytes left stopped cause gone other few all_passed h =
    let framing = subst (λ v. BeginsFramed stride v (IsAtEnd left) passed) (sym (append-nil bytes)) (front_framed stride bytes (IsAtEnd left) passed items.ahead (told_framed stride items.limit items.framer (passed ++ items.ahead) bytes left stopped h)) in
    let size = told_within stride items.limit items.framer (passed ++ items.ahead) bytes left stopped h few in
    let here = left_with stride items.limit items.framer passed items.ahead bytes [] left left stopped cause (λ e. absurd (other e)) (λ f. omega (arith, size, length-append bytes [])) framing (λ e. subst (λ v. IsAllTold stride v passed) (sym (append-nil bytes)) (all_passed e)) h in
    let P : ItemsValue → Type 0 = λ v. HasTold stride (passed_state v passed bytes left (Some cause)) in
    let Q : List ℕ → Type 0 = λ v. HasTold stride (state items.limit None (passed ++ []) v left (Some cause)) in
    subst P (sym gone) (subst Q (append-nil bytes) here)

-- a piece that doesn't fit makes the bytes too many
pub full_bytes : (stride : ℕ) (limit : ℕ) (framer : Option FramerState) (told : List Item) (bytes piece : List ℕ) (left : Option (List ℕ)) (stopped : Option Stop) → HasTold stride (state limit framer told bytes left stopped) → IsFull limit framer piece → limit < length (bytes ++ piece)
full_bytes stride limit None told bytes piece left stopped h full = absurd full
full_bytes stride limit (Some f) told bytes piece left stopped h full = omega (arith, full, h.seen_is, length-append bytes piece)

-- a piece that fits doesn't
pub fits_bytes : (stride : ℕ) (limit : ℕ) (framer : Option FramerState) (told : List Item) (bytes piece : List ℕ) (left : Option (List ℕ)) (stopped : Option Stop) → IsSome framer → HasTold stride (state limit framer told bytes left stopped) → (IsFull limit framer piece → ⊥) → length (bytes ++ piece) ≤ limit
fits_bytes stride limit None told bytes piece left stopped going h few = let bad : false ≡ true = going in cc
fits_bytes stride limit (Some f) told bytes piece left stopped going h few =
    elim (cases_lt limit (seen f + length piece)) [
      | inl l ↦ absurd (few l)
      | inr l ↦ omega (arith, l, h.seen_is, length-append bytes piece)
    ]

-- the items ahead of a framer that told nothing
told_before : (passed ahead : List Item) → ahead ≡ [] → passed ≡ passed ++ ahead
told_before passed ahead none = sym (append-nil passed) ∙ ap (λ v. passed ++ v) (sym none)

-- where no item is ahead, all packets of the bytes so far were taken, and all other items that they decide
pub all_passed : (stride : ℕ) (limit : ℕ) (framer : Option FramerState) (passed ahead : List Item) (bytes : List ℕ) (left : Option (List ℕ)) (stopped : Option Stop) → ahead ≡ [] → IsSome framer → HasTold stride (state limit framer (passed ++ ahead) bytes left stopped) → IsAllTold stride bytes passed
all_passed stride limit None passed ahead bytes left stopped none going h = let bad : false ≡ true = going in cc
all_passed stride limit (Some f) passed ahead bytes left stopped none going h =
    let told : IsAllTold stride bytes (passed ++ ahead) = record {
      packets = packets_framed f (passed ++ ahead) bytes h.stride_is h.same h.prompt;
      all = all_decided stride f (passed ++ ahead) bytes h.stride_is h.same h.told_all;
    } in
    subst (IsAllTold stride bytes) (sym (told_before passed ahead none)) told

fed_told : (stride : ℕ) (limit : ℕ) (framer : Option FramerState) (passed ahead : List Item) (new : ItemsValue) (bytes piece : List ℕ) (left at_last : Option (List ℕ)) (stopped : Option Stop)
    → ahead ≡ [] → IsSome framer → TakesMore limit framer piece new → HasTold stride (state limit framer (passed ++ ahead) bytes left stopped) → HasTold stride (passed_state new passed (bytes ++ piece) at_last stopped)
fed_told stride limit None passed ahead new bytes piece left at_last stopped none going feeds h = let bad : false ≡ true = going in cc
fed_told stride limit (Some f) passed ahead new bytes piece left at_last stopped none going feeds h =
    let g = feeds.0 in
    let fed = feeds.2 in
    let takes = fed.takes in
    let reading : IsReading stride (state limit (Some g) (passed ++ new.ahead) (bytes ++ piece) at_last stopped) g = record {
      stride_is = takes.stride_is ∙ h.stride_is;
      seen_is = omega (arith, takes.seen_is, h.seen_is, length-append bytes piece);
      within = omega (arith, fed.room, h.seen_is, length-append bytes piece);
      same = λ more.
          append_assoc passed new.ahead (still_to_tell g more)
          ∙ ap (λ v. passed ++ v) (takes.same_items more)
          ∙ ap (λ v. v ++ still_to_tell f (piece ++ more)) (told_before passed ahead none)
          ∙ h.same (piece ++ more)
          ∙ ap (λ v. framed f.stride v) (sym (append_assoc bytes piece more))
          ∙ ap (λ s. framed s ((bytes ++ piece) ++ more)) (sym takes.stride_is);
      prompt = fed.prompt;
      told_all = fed.told_all;
      goes_on = h.goes_on;
    } in
    let P : ItemsValue → Type 0 = λ v. HasTold stride (passed_state v passed (bytes ++ piece) at_last stopped) in
    subst P (sym feeds.1) reading

-- a stream after a piece
pub fed_passed : (stride : ℕ) (items new : ItemsValue) (passed : List Item) (bytes piece : List ℕ) (left at_last : Option (List ℕ)) (stopped : Option Stop)
    → items.ahead ≡ [] → IsSome items.framer → TakesMore items.limit items.framer piece new → HasTold stride (passed_state items passed bytes left stopped) → HasTold stride (passed_state new passed (bytes ++ piece) at_last stopped)
fed_passed stride items new passed bytes piece left at_last stopped none going feeds h = fed_told stride items.limit items.framer passed items.ahead new bytes piece left at_last stopped none going feeds h

finished_told : (stride : ℕ) (limit : ℕ) (framer : Option FramerState) (passed ahead : List Item) (new : ItemsValue) (bytes : List ℕ) (left : Option (List ℕ)) (stopped : Option Stop)
    → ahead ≡ [] → IsSome framer → Finishes limit framer new → IsAtEnd left → HasTold stride (state limit framer (passed ++ ahead) bytes left stopped) → HasTold stride (passed_state new passed bytes left stopped)
finished_told stride limit None passed ahead new bytes left stopped none going ends there h = let bad : false ≡ true = going in cc
finished_told stride limit (Some f) passed ahead new bytes left stopped none going ends there h =
    let rest = still_to_tell f [] in
    let before = told_before passed ahead none in
    let whole = whole_framed f (passed ++ ahead) (passed ++ rest) bytes h.stride_is h.same (ap (λ v. v ++ rest) before) in
    let packets : packets_of (passed ++ rest) ≡ packets_of (framed stride bytes) = ap packets_of whole in
    let same : packets_of (passed ++ rest) ≡ packets_of (passed ++ ahead) = packets ∙ sym (packets_framed f (passed ++ ahead) bytes h.stride_is h.same h.prompt) in
    let over : IsOver stride (state limit None (passed ++ rest) bytes left stopped) = record {
      packets = λ more. (let b = told_packets stride limit (Some f) (passed ++ ahead) bytes left stopped h more in (b.0, ap (λ v. v ++ b.0) same ∙ b.1));
      begun = λ more none. ([], append-nil (passed ++ rest) ∙ whole ∙ ap (framed stride) (sym (ap (λ v. bytes ++ v) (none there) ∙ append-nil bytes)));
      inside = (bytes, [], h.within, append-nil (passed ++ rest) ∙ whole);
      ended = λ e. (whole, there);
      too_much = λ e. absurd (none-some TooMuch (sym h.goes_on ∙ e));
      within = λ f. h.within;
      failed = λ e. absurd (none-some ReadFailed (sym h.goes_on ∙ e));
    } in
    let P : ItemsValue → Type 0 = λ v. HasTold stride (passed_state v passed bytes left stopped) in
    subst P (sym ends) over

-- a stream whose source ended
pub finished_passed : (stride : ℕ) (items new : ItemsValue) (passed : List Item) (bytes : List ℕ) (left : Option (List ℕ)) (stopped : Option Stop)
    → items.ahead ≡ [] → IsSome items.framer → Finishes items.limit items.framer new → IsAtEnd left → HasTold stride (passed_state items passed bytes left stopped) → HasTold stride (passed_state new passed bytes left stopped)
finished_passed stride items new passed bytes left stopped none going ends there h = finished_told stride items.limit items.framer passed items.ahead new bytes left stopped none going ends there h

first_of : {X : Type 0} (x : X) (xs : List X) → slice_get xs 0 ≡ Some x → xs ≡ x ∷ drop 1 xs
first_of x [] e = cc
first_of x (y ∷ xs) e = ap (λ v. v ∷ xs) (some_same y x e)

-- the items of a stream from the next one on
pub next_item : (items : ItemsValue) (passed : List Item) (item : Item) → slice_get items.ahead 0 ≡ Some item → passed ++ items.ahead ≡ (passed ++ item ∷ []) ++ drop 1 items.ahead
next_item items passed item first = ap (λ v. passed ++ v) (first_of item items.ahead first) ∙ sym (append_assoc passed (item ∷ []) (drop 1 items.ahead))

-- a stream of which one item more was taken
pub passed_on : (stride : ℕ) (items new : ItemsValue) (passed : List Item) (item : Item) (bytes : List ℕ) (left : Option (List ℕ)) (stopped : Option Stop)
    → slice_get items.ahead 0 ≡ Some item → new ≡ record items { ahead = drop 1 items.ahead } → HasTold stride (passed_state items passed bytes left stopped) → HasTold stride (passed_state new (passed ++ item ∷ []) bytes left stopped)
passed_on stride items new passed item bytes left stopped first is h =
    let P : ItemsValue → Type 0 = λ v. HasTold stride (passed_state v (passed ++ item ∷ []) bytes left stopped) in
    let Q : List Item → Type 0 = λ v. HasTold stride (state items.limit items.framer v bytes left stopped) in
    subst P (sym is) (subst Q (next_item items passed item first) h)

told_elsewhere : (stride : ℕ) (limit : ℕ) (framer : Option FramerState) (told : List Item) (bytes : List ℕ) (left at_last : Option (List ℕ)) (stopped : Option Stop) → IsSome framer → HasTold stride (state limit framer told bytes left stopped) → HasTold stride (state limit framer told bytes at_last stopped)
told_elsewhere stride limit None told bytes left at_last stopped going h = let bad : false ≡ true = going in cc
told_elsewhere stride limit (Some f) told bytes left at_last stopped going h = record { stride_is = h.stride_is; seen_is = h.seen_is; within = h.within; same = h.same; prompt = h.prompt; told_all = h.told_all; goes_on = h.goes_on }

-- while a stream is read, what its source has left doesn't matter
pub passed_elsewhere : (stride : ℕ) (items : ItemsValue) (passed : List Item) (bytes : List ℕ) (left at_last : Option (List ℕ)) (stopped : Option Stop) → IsSome items.framer → HasTold stride (passed_state items passed bytes left stopped) → HasTold stride (passed_state items passed bytes at_last stopped)
passed_elsewhere stride items passed bytes left at_last stopped going h = told_elsewhere stride items.limit items.framer (passed ++ items.ahead) bytes left at_last stopped going h

fresh_prompt : (stride : ℕ) (limit : ℕ) → packets_of (still_to_tell (new_framer stride limit) []) ≡ []
unfolding framed_from
fresh_prompt stride limit = refl

-- a stream of which nothing was read
pub fresh_passed : (stride : ℕ) (limit : ℕ) (items : ItemsValue) (left : Option (List ℕ)) → 188 ≤ stride → items ≡ new_items stride limit → HasTold stride (passed_state items [] [] left None)
fresh_passed stride limit items left long is =
    let reading : IsReading stride (state limit (Some (new_framer stride limit)) [] [] left None) (new_framer stride limit) = record {
      stride_is = refl;
      seen_is = omega arith;
      within = omega arith;
      same = λ more. refl;
      prompt = fresh_prompt stride limit;
      told_all = fresh_told_all stride limit long;
      goes_on = refl;
    } in
    let P : ItemsValue → Type 0 = λ v. HasTold stride (passed_state v [] [] left None) in
    subst P (sym is) reading

-- a stream is told as too long only where it is
pub told_too_much : (stride : ℕ) (limit : ℕ) (framer : Option FramerState) (told : List Item) (bytes : List ℕ) (left : Option (List ℕ)) (stopped : Option Stop) → HasTold stride (state limit framer told bytes left stopped) → stopped ≡ Some TooMuch → limit < length bytes
told_too_much stride limit None told bytes left stopped h e = h.too_much e
told_too_much stride limit (Some f) told bytes left stopped h e = absurd (none-some TooMuch (sym h.goes_on ∙ e))

-- of a stream that ended by itself all was told
pub told_whole : (stride : ℕ) (limit : ℕ) (framer : Option FramerState) (told : List Item) (bytes : List ℕ) (left : Option (List ℕ)) (stopped : Option Stop) → framer ≡ None → stopped ≡ None → HasTold stride (state limit framer told bytes left stopped) → (told ≡ framed stride bytes) × IsAtEnd left
told_whole stride limit None told bytes left stopped none goes h = h.ended goes
told_whole stride limit (Some f) told bytes left stopped none goes h = absurd (none-some f (sym none))

-- of a stream with a failed read all packets before it were told, and all other items that its bytes decide
pub told_failed : (stride : ℕ) (limit : ℕ) (framer : Option FramerState) (told : List Item) (bytes : List ℕ) (left : Option (List ℕ)) (stopped : Option Stop) → stopped ≡ Some ReadFailed → HasTold stride (state limit framer told bytes left stopped) → IsAllTold stride bytes told
told_failed stride limit None told bytes left stopped e h = h.failed e
told_failed stride limit (Some f) told bytes left stopped e h = absurd (none-some ReadFailed (sym h.goes_on ∙ e))
