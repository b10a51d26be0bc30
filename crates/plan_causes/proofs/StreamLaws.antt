-- What a service's streams lack of its program, and the other way round, by what is found.
use Rattle.std.proofs.Common.{arith, ◌≡◌, ◌≢◌, ℕ, ◌==◌, Bool, false, true, not, ◌&&◌, ◌||◌, List, Option, None, Some, slice_get, refl, ap, ◌∙◌, sym, subst}
use Rattle.std.specs.Prelude.{find, is_some, option_map, IfSome}
use Rattle.std.specs.List.{list_any, filter_map}
use Rattle.std.specs.Option.{option_map_or}
use Rattle.std.proofs.lemmas.Bool.Decides.{nat_tests}
use Rattle.std.proofs.lemmas.List.Folds.{list_any-from_Any}
use Rattle.tables.specs.Pmt.{PmtValue}
use Rattle.tables.specs.declared.pmt_row.PmtRow.{PmtRow}
use Rattle.request.specs.declared.stream.Stream.{Stream}
use Rattle.selection.specs.Chosen.{is_named, is_elementary, no_pcr_pid, lacks_rate, has_unknown_stream}
use Rattle.selection.specs.ByNumber.{is_named_by}
use Rattle.selection.proofs.TestLaws.{any_filter_map}
use Rattle.selection.proofs.FaultLaws.{lacks_rate_by}
use Rattle.plan_causes.specs.Causes.{IsMissing, IsUnknown}
use Rattle.plan_causes.specs.declared.missing_stream.MissingStream.TheVariants as Missing
use Rattle.plan_causes.proofs.FindLaws.{none_of, one_of, is_there, found_passes}

abbrev streams_by : List Stream → List ℕ → List Stream
streams_by streams numbers = filter_map (λ n. slice_get streams n) numbers

named_by : (streams : List Stream) (numbers : List ℕ) (pid : ℕ) → is_named (streams_by streams numbers) pid ≡ is_named_by streams numbers pid
named_by streams numbers pid = any_filter_map (λ (s : Stream). s.pid == pid) (λ n. slice_get streams n) numbers

is_not : (b : Bool) → not b ≡ true → b ≡ false
is_not true h = cc
is_not false h = refl

abbrev unnamed : List Stream → List ℕ → PmtRow → Bool
unnamed streams numbers row = not (is_named_by streams numbers row.elementary_pid)

abbrev lacks_pcr : List Stream → List ℕ → PmtValue → Bool
lacks_pcr streams numbers pmt = not (pmt.pcr_pid == no_pcr_pid) && not (is_named_by streams numbers pmt.pcr_pid)

-- a row whose PID no stream has
pub row_is_missing : (streams : List Stream) (numbers : List ℕ) (pmt : PmtValue) (row : PmtRow) → find (unnamed streams numbers) pmt.rows ≡ Some row
    → IsMissing (streams_by streams numbers) pmt (Missing.Elementary row.elementary_pid row.stream_type)
row_is_missing streams numbers pmt row h =
    let alone : not (is_named_by streams numbers row.elementary_pid) ≡ true = found_passes (unnamed streams numbers) pmt.rows row h in (
      is_there (unnamed streams numbers) (λ (x : PmtRow). (x.elementary_pid ≡ row.elementary_pid) × (x.stream_type ≡ row.stream_type)) pmt.rows row h (refl, refl),
      named_by streams numbers row.elementary_pid ∙ is_not (is_named_by streams numbers row.elementary_pid) alone,
    )

pub row_lacks : (streams : List Stream) (numbers : List ℕ) (pmt : PmtValue) (row : PmtRow) → find (unnamed streams numbers) pmt.rows ≡ Some row
    → lacks_rate (streams_by streams numbers) pmt ≡ true
row_lacks streams numbers pmt row h =
    lacks_rate_by streams numbers pmt ∙ ap (λ b. b || lacks_pcr streams numbers pmt) (one_of (unnamed streams numbers) pmt.rows row h)

-- the PCR PID, where each row's PID is a stream's
both_true : (b d : Bool) → (not b && not d) ≡ true → (b ≡ false) × (d ≡ false)
both_true true d h = cc
both_true false true h = cc
both_true false false h = (refl, refl)

not_same : (a b : ℕ) → (a == b) ≡ false → a ≢ b
not_same a b h = grind (arith, nat_tests)

same_number : (a : ℕ) → (a == a) ≡ true
same_number a = grind (arith, nat_tests)

pub pcr_is_missing : (streams : List Stream) (numbers : List ℕ) (pmt : PmtValue) → lacks_pcr streams numbers pmt ≡ true
    → IsMissing (streams_by streams numbers) pmt (Missing.Pcr pmt.pcr_pid)
pcr_is_missing streams numbers pmt h =
    let both = both_true (pmt.pcr_pid == no_pcr_pid) (is_named_by streams numbers pmt.pcr_pid) h in
    (refl, not_same pmt.pcr_pid no_pcr_pid both.0, named_by streams numbers pmt.pcr_pid ∙ both.1)

pub pcr_lacks : (streams : List Stream) (numbers : List ℕ) (pmt : PmtValue) (b : Bool) → find (unnamed streams numbers) pmt.rows ≡ None → lacks_pcr streams numbers pmt ≡ b
    → lacks_rate (streams_by streams numbers) pmt ≡ b
pcr_lacks streams numbers pmt b h e =
    lacks_rate_by streams numbers pmt ∙ ap (λ x. x || lacks_pcr streams numbers pmt) (none_of (unnamed streams numbers) pmt.rows h) ∙ e

-- a stream that the program doesn't name
abbrev unknown : List Stream → PmtValue → ℕ → Bool
unknown streams pmt n = option_map_or (λ (s : Stream). not (is_elementary pmt s.pid) && not (pmt.pcr_pid == s.pid)) (slice_get streams n) false

pub unknown_by : (streams : List Stream) (numbers : List ℕ) (pmt : PmtValue) → has_unknown_stream (streams_by streams numbers) pmt ≡ list_any (unknown streams pmt) numbers
unfolding has_unknown_stream
unknown_by streams numbers pmt = any_filter_map (λ (s : Stream). not (is_elementary pmt s.pid) && not (pmt.pcr_pid == s.pid)) (λ n. slice_get streams n) numbers

pub some_unknown : (streams : List Stream) (numbers : List ℕ) (pmt : PmtValue) (n : ℕ) → find (unknown streams pmt) numbers ≡ Some n → has_unknown_stream (streams_by streams numbers) pmt ≡ true
some_unknown streams numbers pmt n h = unknown_by streams numbers pmt ∙ one_of (unknown streams pmt) numbers n h

pub none_unknown : (streams : List Stream) (numbers : List ℕ) (pmt : PmtValue) → find (unknown streams pmt) numbers ≡ None → has_unknown_stream (streams_by streams numbers) pmt ≡ false
none_unknown streams numbers pmt h = unknown_by streams numbers pmt ∙ none_of (unknown streams pmt) numbers h

-- the stream is there
no_stream : (p : Stream → Bool) (o : Option Stream) → option_map_or p o false ≡ true → o ≡ None → ⊥
no_stream p None h e = cc
no_stream p (Some s) h e = cc

pub unknown_is_there : (streams : List Stream) (numbers : List ℕ) (pmt : PmtValue) (n : ℕ) → find (unknown streams pmt) numbers ≡ Some n → slice_get streams n ≡ None → ⊥
unknown_is_there streams numbers pmt n h e =
    no_stream (λ (s : Stream). not (is_elementary pmt s.pid) && not (pmt.pcr_pid == s.pid)) (slice_get streams n) (found_passes (unknown streams pmt) numbers n h) e

pub is_unknown : (streams : List Stream) (numbers : List ℕ) (pmt : PmtValue) (n : ℕ) (s : Stream) → find (unknown streams pmt) numbers ≡ Some n → slice_get streams n ≡ Some s
    → IsUnknown (streams_by streams numbers) pmt s.pid
is_unknown streams numbers pmt n s h e =
    let P : Option Stream → Type 0 = λ o. option_map_or (λ (s : Stream). not (is_elementary pmt s.pid) && not (pmt.pcr_pid == s.pid)) o false ≡ true in
    let passes : (not (is_elementary pmt s.pid) && not (pmt.pcr_pid == s.pid)) ≡ true = subst P e (found_passes (unknown streams pmt) numbers n h) in
    let both = both_true (is_elementary pmt s.pid) (pmt.pcr_pid == s.pid) passes in
    let has : ℕ → Bool = λ k. option_map_or (λ (t : Stream). t.pid == s.pid) (slice_get streams k) false in
    let here : has n ≡ true = ap (λ o. option_map_or (λ (t : Stream). t.pid == s.pid) o false) e ∙ same_number s.pid in
    let named : is_named_by streams numbers s.pid ≡ true = list_any-from_Any has numbers (is_there (unknown streams pmt) (λ k. has k ≡ true) numbers n h here) in
    (named_by streams numbers s.pid ∙ named, both.0, not_same pmt.pcr_pid s.pid both.1)

-- the PID of the stream that was found
pub unknown_pid_is : (streams : List Stream) (numbers : List ℕ) (pmt : PmtValue) (n : ℕ) (o : Option Stream) → find (unknown streams pmt) numbers ≡ Some n → slice_get streams n ≡ o
    → IfSome (option_map (λ (s : Stream). s.pid) o) (IsUnknown (streams_by streams numbers) pmt)
unknown_pid_is streams numbers pmt n None h e = tt
unknown_pid_is streams numbers pmt n (Some s) h e = is_unknown streams numbers pmt n s h e

pub unknown_pid_some : (streams : List Stream) (numbers : List ℕ) (pmt : PmtValue) (n : ℕ) (o : Option Stream) → find (unknown streams pmt) numbers ≡ Some n → slice_get streams n ≡ o
    → is_some (option_map (λ (s : Stream). s.pid) o) ≡ has_unknown_stream (streams_by streams numbers) pmt
unknown_pid_some streams numbers pmt n None h e = absurd (unknown_is_there streams numbers pmt n h e)
unknown_pid_some streams numbers pmt n (Some s) h e = sym (some_unknown streams numbers pmt n h)
