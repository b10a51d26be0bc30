-- Packets that are moved in, one after the other.
use Rattle.std.proofs.Common.{ℕ, suc, ◌+◌, ◌≡◌, Bool, true, false, List, [], ◌∷◌, ◌++◌, length, set, slice_get, Option, Some, None, MatchBool, refl, ap, sym, subst, ◌∙◌, arith, append-nil, append_assoc, length-append}
use Rattle.std.specs.Option.{option_to_list}
use Rattle.tspkt.specs.declared.stamped.Stamped.{Stamped}
use Rattle.mux.specs.declared.event.Event.TheVariants.{Took}
use Rattle.mux.specs.History.{History, with_event}
use Rattle.port.specs.Rings.{RingEndValue}
use Rattle.station.specs.Stations.{Input}
use Rattle.station.specs.Moving.{with_taken, TakesSome, TakesNext, MovesIn}
use Rattle.station.specs.Ticking.{Moves, MovesAll}

pub with_taken_behind : (i : ℕ) (items : List Stamped) (item : Stamped) (h : History) → with_taken i (items ++ item ∷ []) h ≡ with_event (with_taken i items h) (Took i item)
with_taken_behind i [] item h = refl
with_taken_behind i (x ∷ items) item h = with_taken_behind i items item (with_event h (Took i x))

-- nothing was taken yet
pub takes_none : (i : ℕ) (h : History) (x : Input) → x.is_closed ≡ false → (u : TakesSome i h x h x) × (length u.items ≡ 0)
takes_none i h x opened = (
  record {
    items = [];
    came = [];
    history = refl;
    inlet = ap (λ (xs : List Stamped). let e : RingEndValue = record x.inlet { received = xs } in e) (sym (append-nil x.inlet.received));
    in_order = append-nil (option_to_list x.inlet.head);
    open_ = opened;
  },
  refl,
)

-- one more was taken
pub takes_on : (i : ℕ) (a : History) (x : Input) (b : History) (y : Input) (c : History) (z : Input) (t : TakesSome i a x b y) → TakesNext i b y c z
    → (u : TakesSome i a x c z) × (length u.items ≡ length t.items + 1)
takes_on i a x b y c z t n =
    let none : z.inlet.head ≡ None = ap (λ (v : Input). v.inlet.head) n.entry in (
      record {
        items = t.items ++ n.item ∷ [];
        came = t.came ++ n.came;
        history = n.history ∙ (ap (λ v. with_event v (Took i n.item)) t.history ∙ sym (with_taken_behind i t.items n.item a));
        inlet = ap (λ (v : Input). v.inlet) n.entry
            ∙ (ap (λ (e : RingEndValue). let f : RingEndValue = record e { received = e.received ++ n.came; head = None } in f) t.inlet
            ∙ (λ k. record { ring = x.inlet.ring; received = append_assoc x.inlet.received t.came n.came k; head = sym none k; is_ended = x.inlet.is_ended }));
        in_order = sym (append_assoc (option_to_list x.inlet.head) t.came n.came)
            ∙ (ap (λ xs. xs ++ n.came) t.in_order
            ∙ (append_assoc t.items (option_to_list y.inlet.head) n.came
            ∙ (ap (λ xs. t.items ++ xs) n.next
            ∙ (sym (append-nil (t.items ++ n.item ∷ []))
            ∙ ap (λ (o : Option Stamped). (t.items ++ n.item ∷ []) ++ option_to_list o) (sym none)))));
        open_ = ap (λ (v : Input). v.is_closed) n.entry;
      },
      length-append t.items (n.item ∷ []),
    )

pub moves_closed : (i most : ℕ) (a : History) (x : Input) (b : History) (y : Input) → x.is_closed ≡ true → b ≡ a → y ≡ x → Moves i most a x b y
moves_closed i most a x b y closed same same' =
    let P : Bool → Type 0 = λ v. MatchBool v ((b ≡ a) × (y ≡ x)) (MovesIn i most a x b y) in
    subst P (sym closed) (same, same')

pub moves_open : (i most : ℕ) (a : History) (x : Input) (b : History) (y : Input) → x.is_closed ≡ false → MovesIn i most a x b y → Moves i most a x b y
moves_open i most a x b y opened moves =
    let P : Bool → Type 0 = λ v. MatchBool v ((b ≡ a) × (y ≡ x)) (MovesIn i most a x b y) in
    subst P (sym opened) moves

-- one input more
pub moves_all_on : (i most : ℕ) (a : History) (xs : List Input) (b : History) (ys : List Input) (x : Input) (c : History) (y : Input)
    → MovesAll i most a xs b ys → Moves (i + length xs) most b x c y → MovesAll i most a (xs ++ x ∷ []) c (ys ++ y ∷ [])
moves_all_on i most a [] b ys x c y old one =
    let n : i + 0 ≡ i = omega arith in
    let P : ℕ → Type 0 = λ k. Moves k most b x c y in
    let Q : History → Type 0 = λ v. Moves i most v x c y in
    (c, y, [], ap (λ vs. vs ++ y ∷ []) old.1, subst Q old.0 (subst P n one), (refl, refl))
moves_all_on i most a (z ∷ xs) b ys x c y old one =
    let n : i + length (z ∷ xs) ≡ suc i + length xs = omega arith in
    let P : ℕ → Type 0 = λ k. Moves k most b x c y in
    let rest = moves_all_on (suc i) most old.0 xs b old.2 x c y old.5 (subst P n one) in
    (old.0, old.1, old.2 ++ y ∷ [], ap (λ vs. vs ++ y ∷ []) old.3, old.4, rest)

-- the inputs up to a number were moved in, and the others are as they were
pub record HasMoved (most : ℕ) (a : History) (xs : List Input) (b : History) (ys : List Input) (n : ℕ) : Type 0 where
  pub before : List Input
  pub now : List Input
  pub rest : List Input
  pub xs_are : xs ≡ before ++ rest
  pub ys_are : ys ≡ now ++ rest
  pub before_count : length before ≡ n
  pub now_count : length now ≡ n
  pub moves : MovesAll 0 most a before b now

pub moved_none : (most : ℕ) (a : History) (xs : List Input) → HasMoved most a xs a xs 0
moved_none most a xs = record { before = []; now = []; rest = xs; xs_are = refl; ys_are = refl; before_count = refl; now_count = refl; moves = (refl, refl) }

set_behind : (now rest : List Input) (x y : Input) → set (now ++ x ∷ rest) (length now) y ≡ now ++ y ∷ rest
set_behind [] rest x y = refl
set_behind (z ∷ now) rest x y = ap (λ vs. z ∷ vs) (set_behind now rest x y)

next_of : (now rest : List Input) (x : Input) → slice_get (now ++ rest) (length now) ≡ Some x → (more : List Input) × (rest ≡ x ∷ more)
next_of [] [] x e = absurd (cc)
next_of [] (z ∷ rest) x e = (rest, cc)
next_of (z ∷ now) rest x e = next_of now rest x e

pub moved_on : (most : ℕ) (a : History) (xs : List Input) (b : History) (ys : List Input) (n : ℕ) (x : Input) (c : History) (y : Input)
    → HasMoved most a xs b ys n → slice_get ys n ≡ Some x → Moves n most b x c y → HasMoved most a xs c (set ys n y) (n + 1)
moved_on most a xs b ys n x c y h at one =
    let G : List Input → Type 0 = λ vs. slice_get vs n ≡ Some x in
    let L : ℕ → Type 0 = λ k. slice_get (h.now ++ h.rest) k ≡ Some x in
    let next = next_of h.now h.rest x (subst L (sym h.now_count) (subst G h.ys_are at)) in
    let M : ℕ → Type 0 = λ k. Moves k most b x c y in
    record {
      before = h.before ++ x ∷ [];
      now = h.now ++ y ∷ [];
      rest = next.0;
      xs_are = h.xs_are ∙ (ap (λ vs. h.before ++ vs) next.1 ∙ sym (append_assoc h.before (x ∷ []) next.0));
      ys_are = ap (λ vs. set vs n y) h.ys_are
          ∙ (ap (λ k. set (h.now ++ h.rest) k y) (sym h.now_count)
          ∙ (ap (λ vs. set (h.now ++ vs) (length h.now) y) next.1
          ∙ (set_behind h.now next.0 x y ∙ sym (append_assoc h.now (y ∷ []) next.0))));
      before_count = omega (arith, length-append h.before (x ∷ []), h.before_count);
      now_count = omega (arith, length-append h.now (y ∷ []), h.now_count);
      moves = moves_all_on 0 most a h.before b h.now x c y h.moves (let e : n ≡ 0 + length h.before = omega (arith, h.before_count) in subst M e one);
    }

pub moved_all : (most : ℕ) (a : History) (xs : List Input) (b : History) (ys : List Input) (n : ℕ) → HasMoved most a xs b ys n → n ≡ length ys → MovesAll 0 most a xs b ys
moved_all most a xs b ys n h all =
    let none : h.rest ≡ [] = empty_of h.rest (omega (arith, length-append h.now h.rest, ap (λ vs. length vs) h.ys_are, h.now_count, all)) in
    let xs_now : h.before ≡ xs = sym (append-nil h.before) ∙ (ap (λ vs. h.before ++ vs) (sym none) ∙ sym h.xs_are) in
    let ys_now : h.now ≡ ys = sym (append-nil h.now) ∙ (ap (λ vs. h.now ++ vs) (sym none) ∙ sym h.ys_are) in
    subst (λ (z : List Input × List Input). MovesAll 0 most a z.0 b z.1) (λ k. (xs_now k, ys_now k)) h.moves
  where
    empty_of : (vs : List Input) → length vs ≡ 0 → vs ≡ []
    empty_of [] e = refl
    empty_of (v ∷ vs) e = absurd (cc)
