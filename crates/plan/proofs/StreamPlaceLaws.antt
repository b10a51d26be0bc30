-- The number of a stream, by a table with a cell for each PID of each input.
use Rattle.std.proofs.Common.{arith, ◌≡◌, ◌≢◌, ℕ, suc, ◌+◌, ◌*◌, ◌<◌, ◌≤◌, ◌==◌, Bool, true, false, ◌&&◌, List, [], ◌∷◌, ◌++◌, length, Option, None, Some, All, cond, refl, ap, ◌∙◌, sym, nat_lt, get_or, set, take, replicate}
use Rattle.std.specs.List.{position_from}
use Rattle.std.specs.Option.{option_or}
use Rattle.std.proofs.lemmas.Bool.Decides.{nat_tests}
use Rattle.std.proofs.lemmas.Grind.{get_or-set_at}
use Rattle.std.proofs.lemmas.List.{get_or-set_other, get_or-replicate, length-take-le, take_more, take_all, get_or_default}
use Rattle.request.specs.declared.stream.Stream.{Stream}
use Rattle.plan.specs.StreamPlace.{StreamMapValue, stream_place, IsMapOf}

or_none : {V : Type 0} (o : Option V) → o ≡ option_or o None
or_none None = refl
or_none (Some x) = refl

more_cond : (b : Bool) (i : ℕ) (later rest last : Option ℕ) → later ≡ option_or rest last → cond b (Some i) later ≡ option_or (cond b (Some i) rest) last
more_cond true i later rest last e = refl
more_cond false i later rest last e = e

-- the place in a list with one more element
position_more : {X : Type 0} (p : X → Bool) (i n : ℕ) (before : List X) (x : X) → n ≡ i + length before → position_from p i (before ++ x ∷ []) ≡ option_or (position_from p i before) (cond (p x) (Some n) None)
position_more p i n [] x e = let same : i ≡ n = omega arith in ap (λ k. cond (p x) (Some k) None) same
position_more p i n (y ∷ before) x e =
    let next : n ≡ i + 1 + length before = omega arith in
    more_cond (p y) i (position_from p (i + 1) (before ++ x ∷ [])) (position_from p (i + 1) before) (cond (p x) (Some n) None) (position_more p (i + 1) n before x next)

same_cell : (a b c d : ℕ) → ((a == c) && (b == d)) ≡ true → c * 8192 + d ≡ a * 8192 + b
same_cell a b c d e = grind (arith, nat_tests)

other_cell : (a b c d : ℕ) → ((a == c) && (b == d)) ≡ false → b < 8192 → d < 8192 → c * 8192 + d ≢ a * 8192 + b
other_cell a b c d e f g = grind (arith, nat_tests)

is_within : (inputs input pid : ℕ) → input < inputs → pid < 8192 → input * 8192 + pid < inputs * 8192
is_within inputs input pid e f = omega arith

-- the table's cells say where the streams are, for the inputs and PIDs that there are
abbrev pub SaysWhere : ℕ → List (Option ℕ) → List Stream → Type 0
SaysWhere inputs numbers streams = (input pid : ℕ) → input < inputs → pid < 8192 → get_or numbers (input * 8192 + pid) None ≡ stream_place streams input pid

put_cell : (b : Bool) (n : ℕ) (numbers : List (Option ℕ)) (before : List Stream) (s : Stream) (input pid : ℕ) → n ≡ length before
    → s.pid < 8192 → pid < 8192 → s.input * 8192 + s.pid < length numbers
    → get_or numbers (input * 8192 + pid) None ≡ stream_place before input pid
    → ((s.input == input) && (s.pid == pid)) ≡ b
    → get_or (set numbers (s.input * 8192 + s.pid) (option_or (get_or numbers (s.input * 8192 + s.pid) None) (Some n))) (input * 8192 + pid) None
    ≡ option_or (stream_place before input pid) (cond b (Some n) None)
put_cell true n numbers before s input pid e p q w h t =
    let same : input * 8192 + pid ≡ s.input * 8192 + s.pid = same_cell s.input s.pid input pid t in
    get_or-set_at numbers (s.input * 8192 + s.pid) (input * 8192 + pid) (option_or (get_or numbers (s.input * 8192 + s.pid) None) (Some n)) None same w
    ∙ ap (λ k. option_or (get_or numbers k None) (Some n)) (sym same)
    ∙ ap (λ o. option_or o (Some n)) h
put_cell false n numbers before s input pid e p q w h t =
    get_or-set_other numbers (s.input * 8192 + s.pid) (input * 8192 + pid) (option_or (get_or numbers (s.input * 8192 + s.pid) None) (Some n)) None (other_cell s.input s.pid input pid t p q)
    ∙ h ∙ or_none (stream_place before input pid)

-- a stream more, put where no other was put before
pub put_stream : (inputs n : ℕ) (numbers : List (Option ℕ)) (before : List Stream) (s : Stream) → n ≡ length before → s.input < inputs → s.pid < 8192 → length numbers ≡ inputs * 8192
    → SaysWhere inputs numbers before
    → SaysWhere inputs (set numbers (s.input * 8192 + s.pid) (option_or (get_or numbers (s.input * 8192 + s.pid) None) (Some n))) (before ++ s ∷ [])
put_stream inputs n numbers before s e known short len h = λ input pid in_range in_pids.
    let w : s.input * 8192 + s.pid < length numbers = let k = is_within inputs s.input s.pid known short in omega arith in
    let last : n ≡ 0 + length before = omega arith in
    put_cell ((s.input == input) && (s.pid == pid)) n numbers before s input pid e short in_pids w (h input pid in_range in_pids) refl
    ∙ sym (position_more (λ (s : Stream). s.input == input && s.pid == pid) 0 n before s last)

-- no stream was put yet
pub no_stream : (inputs : ℕ) → SaysWhere inputs (replicate (inputs * 8192) None) []
no_stream inputs = λ input pid in_range in_pids. get_or-replicate (inputs * 8192) (input * 8192 + pid) None None (is_within inputs input pid in_range in_pids)

later_none : (b : Bool) (i : ℕ) (later : Option ℕ) → b ≡ false → later ≡ None → cond b (Some i) later ≡ None
later_none true i later e f = cc
later_none false i later e f = f

none_passes : {X : Type 0} (p : X → Bool) (i : ℕ) (xs : List X) → All (λ x. p x ≡ false) xs → position_from p i xs ≡ None
none_passes p i [] h = refl
none_passes p i (x ∷ xs) h =
    later_none (p x) i (position_from p (i + 1) xs) (h 0 x (omega arith))
    (none_passes p (i + 1) xs (λ k d lt. h (suc k) d (omega (arith, lt))))

is_no_other : (inputs input pid a b : ℕ) → (nat_lt input inputs && nat_lt pid 8192) ≡ false → a < inputs → b < 8192 → ((a == input) && (b == pid)) ≡ false
is_no_other inputs input pid a b e f g = grind (arith, nat_tests)

is_input : (inputs input pid : ℕ) → (nat_lt input inputs && nat_lt pid 8192) ≡ true → input < inputs
is_input inputs input pid e = grind (arith, nat_tests)

is_pid : (inputs input pid : ℕ) → (nat_lt input inputs && nat_lt pid 8192) ≡ true → pid < 8192
is_pid inputs input pid e = grind (arith, nat_tests)

find_one : (b : Bool) (inputs : ℕ) (numbers : List (Option ℕ)) (streams : List Stream) (input pid : ℕ)
    → All (λ (s : Stream). s.input < inputs) streams → All (λ (s : Stream). s.pid < 8192) streams → SaysWhere inputs numbers streams
    → (nat_lt input inputs && nat_lt pid 8192) ≡ b
    → cond b (get_or numbers (input * 8192 + pid) None) None ≡ stream_place streams input pid
find_one true inputs numbers streams input pid known short h t = h input pid (is_input inputs input pid t) (is_pid inputs input pid t)
find_one false inputs numbers streams input pid known short h t =
    sym (none_passes (λ (s : Stream). s.input == input && s.pid == pid) 0 streams
    (λ k d lt. is_no_other inputs input pid (get_or streams k d).input (get_or streams k d).pid t (known k d lt) (short k d lt)))

-- the table finds all streams
pub finds_all : (inputs : ℕ) (numbers : List (Option ℕ)) (streams : List Stream)
    → All (λ (s : Stream). s.input < inputs) streams → All (λ (s : Stream). s.pid < 8192) streams → SaysWhere inputs numbers streams
    → let m : StreamMapValue = record { inputs = inputs; numbers = numbers } in IsMapOf m streams
finds_all inputs numbers streams known short h = λ input pid. find_one (nat_lt input inputs && nat_lt pid 8192) inputs numbers streams input pid known short h refl

-- the next stream is put, where the cell was read
pub put_next : (inputs n cell : ℕ) (old : Option ℕ) (numbers : List (Option ℕ)) (streams : List Stream) (d : Stream)
    → n < length streams → All (λ (s : Stream). s.input < inputs) streams → All (λ (s : Stream). s.pid < 8192) streams → length numbers ≡ inputs * 8192
    → cell ≡ (get_or streams n d).input * 8192 + (get_or streams n d).pid → old ≡ get_or numbers cell old
    → SaysWhere inputs numbers (take n streams) → SaysWhere inputs (set numbers cell (option_or old (Some n))) (take (n + 1) streams)
put_next inputs n cell old numbers streams d lt known short len e read h = λ input pid in_range in_pids.
    let s : Stream = get_or streams n d in
    let at : ℕ = s.input * 8192 + s.pid in
    let within : at < inputs * 8192 = is_within inputs s.input s.pid (known n d lt) (short n d lt) in
    let inside : cell < length numbers = omega arith in
    let was : old ≡ get_or numbers at None = read ∙ get_or_default numbers cell old None inside ∙ ap (λ k. get_or numbers k None) e in
    let same : set numbers cell (option_or old (Some n)) ≡ set numbers at (option_or (get_or numbers at None) (Some n)) =
    ap (λ k. set numbers k (option_or old (Some n))) e ∙ ap (λ o. set numbers at (option_or o (Some n))) was in
    let before : n ≡ length (take n streams) = sym (length-take-le n streams (omega arith)) in
    ap (λ xs. get_or xs (input * 8192 + pid) None) same
    ∙ put_stream inputs n numbers (take n streams) s before (known n d lt) (short n d lt) len h input pid in_range in_pids
    ∙ ap (λ xs. stream_place xs input pid) (sym (take_more streams n d lt))

pub finds_taken : (inputs n : ℕ) (numbers : List (Option ℕ)) (streams : List Stream) → length streams ≤ n
    → All (λ (s : Stream). s.input < inputs) streams → All (λ (s : Stream). s.pid < 8192) streams → SaysWhere inputs numbers (take n streams)
    → let m : StreamMapValue = record { inputs = inputs; numbers = numbers } in IsMapOf m streams
finds_taken inputs n numbers streams le known short h =
    finds_all inputs numbers streams known short (λ input pid in_range in_pids. h input pid in_range in_pids ∙ ap (λ xs. stream_place xs input pid) (take_all n streams le))
