-- The streams of a service, searched by their numbers, and the output PIDs that they give.
use Rattle.std.proofs.Common.{◌≡◌, ℕ, suc, ◌+◌, ◌<◌, ◌==◌, true, false, List, ◌∷◌, length, drop, get_or, Option, Some, None, refl, sym, ap, ◌∙◌, add-one, drop-cons}
use Rattle.std.specs.Prelude.{slice_get, find, filter_map}
use Rattle.request.specs.declared.stream.Stream.{Stream}

-- the stream on the PID among those of these numbers
abbrev pub stream_on : List Stream → ℕ → List ℕ → Option Stream
stream_on streams pid numbers = find (λ (s : Stream). s.pid == pid) (filter_map (λ n. slice_get streams n) numbers)

split : (numbers : List ℕ) (i n : ℕ) → i < length numbers → n ≡ get_or numbers i 0 → drop i numbers ≡ n ∷ drop (i + 1) numbers
split numbers i n h e = drop-cons numbers i 0 h ∙ ap (λ m. m ∷ drop (suc i) numbers) (sym e) ∙ ap (λ j. n ∷ drop j numbers) (sym (add-one i))

-- a number of no stream
pub passed_none : (streams : List Stream) (pid : ℕ) (numbers : List ℕ) (i n : ℕ) → i < length numbers → n ≡ get_or numbers i 0 → slice_get streams n ≡ None → stream_on streams pid (drop i numbers) ≡ stream_on streams pid (drop (i + 1) numbers)
passed_none streams pid numbers i n h e none = ap (stream_on streams pid) (split numbers i n h e) ∙ rw none refl

-- a stream on another PID
pub passed_other : (streams : List Stream) (pid : ℕ) (numbers : List ℕ) (i n : ℕ) (s : Stream) → i < length numbers → n ≡ get_or numbers i 0 → slice_get streams n ≡ Some s → (s.pid == pid) ≡ false → stream_on streams pid (drop i numbers) ≡ stream_on streams pid (drop (i + 1) numbers)
passed_other streams pid numbers i n s h e some other = ap (stream_on streams pid) (split numbers i n h e) ∙ rw (some, other) refl

-- the stream on the PID
pub met : (streams : List Stream) (pid : ℕ) (numbers : List ℕ) (i n : ℕ) (s : Stream) → i < length numbers → n ≡ get_or numbers i 0 → slice_get streams n ≡ Some s → (s.pid == pid) ≡ true → stream_on streams pid (drop i numbers) ≡ Some s
met streams pid numbers i n s h e some this = ap (stream_on streams pid) (split numbers i n h e) ∙ rw (some, this) refl
