-- The transport buffer of a table's PIDs: its packets are a gap apart, so that it leaks a packet from each to the next. `table` says
-- which table packet a slot carries, if any.
use Rattle.std.proofs.Common.{ℕ, zero, suc, ◌+◌, ◌-◌, ◌*◌, ◌≤◌, ◌<◌, ◌≡◌, List, [], ◌∷◌, ◌++◌, true, false, Option, Some, length, take, get_or, arith, subst, sym, ap, refl, ◌∙◌, inl, inr}
use Rattle.std.proofs.lemmas.Bool.{cases_Bool}
use Rattle.std.proofs.lemmas.List.{take_all}
use Rattle.std.proofs.Math.Seq.{take-suc}
use Rattle.std.proofs.lemmas.Option.{slice_get-get_or}
use Rattle.std.specs.List.{slice_get}
use Rattle.rounds.specs.declared.table_place.TablePlace.{TablePlace}
use Rattle.rounds.specs.Rounds.{RoundsValue, IsRounds, gap_of, table_at}
use Rattle.rounds.proofs.RecurringLaws.{are_apart}
use Rattle.buffers.specs.Level.{is_on_pids, bytes_of_set}
use Rattle.buffers.specs.BucketValue.{BucketValue, IsBucket, IsFilledBy, HasRoom, level_after_packet}
use Rattle.emission.specs.TableBuffers.{BufferFits, table_leak}
use Rattle.emission.proofs.StreamBufferLaws.{stream_level_none, stream_fits_none, stream_level_sent, stream_level_idle, stream_fits_sent, stream_fits_idle}

-- a packet on these PIDs stands in a slot of a table
abbrev pub AreInSlots : (ℕ → Option TablePlace) → List ℕ → List (List ℕ) → Type 0
AreInSlots table pids out = (m : ℕ) (q : List ℕ) → slice_get out m ≡ Some q → is_on_pids pids q ≡ true → (place : TablePlace) × (table m ≡ Some place)

abbrev pub AreInTableSlots : RoundsValue → List ℕ → List (List ℕ) → Type 0
AreInTableSlots r pids out = AreInSlots (table_at r) pids out

-- two slots of tables are a gap apart at least
abbrev pub AreGapApart : ℕ → (ℕ → Option TablePlace) → Type 0
AreGapApart gap table = (m n : ℕ) (a b : TablePlace) → m < n → table m ≡ Some a → table n ≡ Some b → m + gap ≤ n

-- no table comes for so many slots from slot m on
abbrev pub NoneBefore : (ℕ → Option TablePlace) → ℕ → ℕ → Type 0
NoneBefore table m wait = (k : ℕ) (place : TablePlace) → table k ≡ Some place → m ≤ k → m + wait ≤ k

-- a buffer at this level
abbrev bucket : ℕ → ℕ → ℕ → BucketValue
bucket rate leak level = record { leak = leak; multiplex_rate = rate; level = level }

-- its rates are in range at one level as at another
at_level : (rate leak level next : ℕ) → IsBucket (bucket rate leak level) → next ≤ 512 * rate → IsBucket (bucket rate leak next)
at_level rate leak level next ok fits = record { leak_from = ok.leak_from; leak_to = ok.leak_to; rate_from = ok.rate_from; rate_to = ok.rate_to; level_to = fits }

-- the buffer of these PIDs after the packets of the slots before m: by the time that a table may come it has leaked down
-- to what leaks in one byte
record IsLow (rate : ℕ) (table : ℕ → Option TablePlace) (leak : ℕ) (pids : List ℕ) (out : List (List ℕ)) (m : ℕ) : Type 0 where
  level : ℕ
  wait : ℕ
  is_bucket : IsBucket (bucket rate leak level)
  filled : IsFilledBy (bucket rate leak level) (bytes_of_set pids out)
  fits : BufferFits rate leak pids out
  low : level ≤ leak + wait * (188 * leak)
  none_before : NoneBefore table m wait

-- a packet that finds the buffer so leaves no more than leaks until the next
level_sent : (rate leak level wait : ℕ) → level ≤ leak → rate ≤ leak * (wait + 1)
    → level_after_packet (bucket rate leak level) ≤ leak + wait * (188 * leak)
level_sent rate leak level wait low slow = omega arith

-- and has room
room_low : (rate leak level : ℕ) → level ≤ leak → HasRoom (bucket rate leak level)
room_low rate leak level low = omega arith

-- in a slot of others it leaks a packet
level_idle : (leak level wait : ℕ) → level ≤ leak + wait * (188 * leak) → level - 188 * leak ≤ leak + (wait - 1) * (188 * leak)
level_idle leak level zero low = omega arith
level_idle leak level (suc wait) low = let e : suc wait - 1 ≡ wait = omega arith in rw e (omega arith)

-- before the first slot
low_none : (rate : ℕ) (table : ℕ → Option TablePlace) (leak : ℕ) (pids : List ℕ) → 1 ≤ leak → leak ≤ 100000000 → 500000 ≤ rate → rate ≤ 100000000 → IsLow rate table leak pids [] 0
low_none rate table leak pids leak_from leak_to rate_from rate_to = record {
  level = 0;
  wait = 0;
  is_bucket = record { leak_from = leak_from; leak_to = leak_to; rate_from = rate_from; rate_to = rate_to; level_to = omega arith };
  filled = stream_level_none (bucket rate leak 0) pids refl;
  fits = stream_fits_none rate leak pids;
  low = omega arith;
  none_before = λ k place e l. omega arith;
}

-- after a slot with a packet of the set
low_sent : (rate gap : ℕ) (table : ℕ → Option TablePlace) (leak : ℕ) (pids : List ℕ) (out : List (List ℕ)) (m : ℕ) (q : List ℕ) (place : TablePlace)
    → AreGapApart gap table → 1 ≤ gap → rate ≤ leak * gap → is_on_pids pids q ≡ true → table m ≡ Some place → IsLow rate table leak pids out m → IsLow rate table leak pids (out ++ q ∷ []) (suc m)
low_sent rate gap table leak pids out m q place apart some slow on at s =
    let b = bucket rate leak s.level in
    let due = s.none_before m place at (omega arith) in
    let none : s.wait ≡ 0 = omega arith in
    let low : s.level ≤ leak = let l = s.low in let z : s.wait * (188 * leak) ≡ 0 = ap (λ n. n * (188 * leak)) none ∙ omega arith in omega arith in
    let room = room_low rate leak s.level low in
    let whole : gap - 1 + 1 ≡ gap = omega arith in
    record {
      level = level_after_packet b;
      wait = gap - 1;
      is_bucket = at_level rate leak s.level (level_after_packet b) s.is_bucket room;
      filled = stream_level_sent b pids out q s.filled on;
      fits = stream_fits_sent b pids out q s.is_bucket s.filled s.fits on room;
      low = level_sent rate leak s.level (gap - 1) low (rw whole slow);
      none_before = λ k other e l. (let a = apart m k place other (omega arith) at e in omega arith);
    }

-- after another slot
low_idle : (rate : ℕ) (table : ℕ → Option TablePlace) (leak : ℕ) (pids : List ℕ) (out : List (List ℕ)) (m : ℕ) (q : List ℕ)
    → is_on_pids pids q ≡ false → IsLow rate table leak pids out m → IsLow rate table leak pids (out ++ q ∷ []) (suc m)
low_idle rate table leak pids out m q off s =
    let b = bucket rate leak s.level in
    let before = s.is_bucket.level_to in
    record {
      level = s.level - 188 * leak;
      wait = s.wait - 1;
      is_bucket = at_level rate leak s.level (s.level - 188 * leak) s.is_bucket (omega arith);
      filled = stream_level_idle b pids out q s.filled off;
      fits = stream_fits_idle b pids out q s.is_bucket s.filled s.fits off;
      low = level_idle leak s.level s.wait s.low;
      none_before = λ k other e l. (let a = s.none_before k other e (omega arith) in omega arith);
    }

-- after the first n slots
low_after : (rate gap : ℕ) (table : ℕ → Option TablePlace) (leak : ℕ) (pids : List ℕ) (out : List (List ℕ)) (n : ℕ)
    → AreGapApart gap table → 1 ≤ gap → rate ≤ leak * gap → AreInSlots table pids out
    → IsLow rate table leak pids [] 0 → n ≤ length out → IsLow rate table leak pids (take n out) n
low_after rate gap table leak pids out zero apart some slow in_slots none l = none
low_after rate gap table leak pids out (suc n) apart some slow in_slots none l =
    let q = get_or out n [] in
    let at = slice_get-get_or out n [] (omega arith) in
    let before = low_after rate gap table leak pids out n apart some slow in_slots none (omega arith) in
    let P : List (List ℕ) → Type 0 = λ packets. IsLow rate table leak pids packets (suc n) in
    subst P (sym (take-suc out n [] (omega arith))) (
    elim (cases_Bool (is_on_pids pids q)) [
      | inl on ↦ (let slot = in_slots n q at on in low_sent rate gap table leak pids (take n out) n q slot.0 apart some slow on slot.1 before)
      | inr off ↦ low_idle rate table leak pids (take n out) n q off before
    ]
    )

-- the gap is wide enough for the leak of a table's buffer
wide : (rate : ℕ) → rate ≤ 1000000 * gap_of rate
wide rate = omega arith

-- where the packets on these PIDs stand in slots of tables, their buffer is never overrun
pub slot_buffer_fits : (rate gap : ℕ) (table : ℕ → Option TablePlace) (pids : List ℕ) (out : List (List ℕ)) → gap ≡ gap_of rate → 500000 ≤ rate → rate ≤ 100000000
    → AreGapApart gap table → AreInSlots table pids out → BufferFits rate table_leak pids out
slot_buffer_fits rate gap table pids out is rate_from rate_to apart in_slots =
    let slow : rate ≤ 1000000 * gap = rw is (wide rate) in
    let none = low_none rate table 1000000 pids (omega arith) (omega arith) rate_from rate_to in
    let all = low_after rate gap table 1000000 pids out (length out) apart (omega arith) slow in_slots none (omega arith) in
    subst (BufferFits rate 1000000 pids) (take_all (length out) out (omega arith)) all.fits

-- in the rounds of one plan they are
pub table_buffer_fits : (r : RoundsValue) (pids : List ℕ) (out : List (List ℕ)) → IsRounds r → 500000 ≤ r.rate → r.rate ≤ 100000000
    → AreInTableSlots r pids out → BufferFits r.rate table_leak pids out
table_buffer_fits r pids out ok rate_from rate_to in_slots =
    slot_buffer_fits r.rate r.gap (table_at r) pids out ok.gap rate_from rate_to (are_apart r ok) in_slots
