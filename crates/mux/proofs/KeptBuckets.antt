-- The buckets that are moved on where they are looked at, from slot to slot.
use Rattle.std.proofs.Common.{ℕ, ◌+◌, ◌-◌, ◌*◌, ◌<◌, ◌≤◌, ◌≡◌, List, length, map, set, get_or, Some, None, ap, ◌∙◌, sym, subst, arith, inl, inr, eq-eqb, All}
use Rattle.std.specs.List.{slice_get}
use Rattle.std.specs.Option.{option_map}
use Rattle.std.proofs.Math.Nat.{mul-add, mul-one, mul-zero, zero-sub}
use Rattle.std.proofs.lemmas.Bool.{cases_eq, ne_eqb}
use Rattle.std.proofs.lemmas.List.{length-map, length-set, get_or-map, get_or-set_same, get_or-set_other}
use Rattle.std.proofs.lemmas.Simd.{map-map}
use Rattle.std.proofs.lemmas.List.Elements.{All-get_or, All-set}
use Rattle.std.proofs.lemmas.Option.{same_Some, slice_get-map, slice_get-get_or, slice_get_within}
use Rattle.request.specs.declared.stream.Stream.{Stream}
use Rattle.buffers.specs.BucketValue.{BucketValue, after_packet, after_others}
use Rattle.mux.specs.declared.kept_bucket.KeptBucket.{KeptBucket}
use Rattle.mux.specs.Buckets.{empty_bucket, after_slot, MovedOn}
use Rattle.mux.specs.KeptBucket.{bucket_at, sent_at, fresh_bucket}

-- no bucket was looked at after this slot
abbrev pub AreBefore : ℕ → List KeptBucket → Type 0
AreBefore slot ks = All (λ (k : KeptBucket). k.slot ≤ slot) ks

-- what leaks in one slot more
leaks_on : (leak slot from : ℕ) → from ≤ slot → 188 * leak * (slot + 1 - from) ≡ 188 * leak * (slot - from) + 188 * leak
leaks_on leak slot from l =
    let e : slot + 1 - from ≡ slot - from + 1 = omega arith in
    ap (λ n. 188 * leak * n) e ∙ mul-add (188 * leak) (slot - from) 1 ∙ ap (λ n. 188 * leak * (slot - from) + n) (mul-one (188 * leak))

-- a bucket one slot on
one_on : (slot : ℕ) (k : KeptBucket) → k.slot ≤ slot → bucket_at (slot + 1) k ≡ after_others (bucket_at slot k)
one_on slot k l =
    let more = leaks_on k.bucket.leak slot k.slot l in
    let e : k.bucket.level - 188 * k.bucket.leak * (slot + 1 - k.slot) ≡ k.bucket.level - 188 * k.bucket.leak * (slot - k.slot) - 188 * k.bucket.leak = omega (arith, more) in
    ap (λ n. let b : BucketValue = record k.bucket { level = n } in b) e

-- the bucket that the slot carries a packet of
sent_on : (slot : ℕ) (k : KeptBucket) → bucket_at (slot + 1) (sent_at slot k) ≡ after_packet (bucket_at slot k)
sent_on slot k =
    let b = after_packet (bucket_at slot k) in
    let none : slot + 1 - (slot + 1) ≡ 0 = omega arith in
    let nothing : 188 * b.leak * (slot + 1 - (slot + 1)) ≡ 0 = ap (λ n. 188 * b.leak * n) none ∙ mul-zero (188 * b.leak) in
    let e : b.level - 188 * b.leak * (slot + 1 - (slot + 1)) ≡ b.level = omega (arith, nothing) in
    ap (λ n. let x : BucketValue = record b { level = n } in x) e

-- the bucket at a place, of those that are kept
pub kept_at : (slot : ℕ) (ks : List KeptBucket) (place : ℕ) (d : KeptBucket) → place < length ks → slice_get (map (bucket_at slot) ks) place ≡ Some (bucket_at slot (get_or ks place d))
kept_at slot ks place d l = slice_get-map (bucket_at slot) ks place ∙ ap (option_map (bucket_at slot)) (slice_get-get_or ks place d l)

within : (slot : ℕ) (ks : List KeptBucket) (place : ℕ) (b : BucketValue) → slice_get (map (bucket_at slot) ks) place ≡ Some b → place < length ks
within slot ks place b e = let l = slice_get_within (map (bucket_at slot) ks) place b e in omega (arith, length-map ks (bucket_at slot))

nothing_kept : KeptBucket
nothing_kept = record { bucket = record { leak = 0; multiplex_rate = 0; level = 0 }; slot = 0 }

-- the slot carries a packet of no stream
pub all_passed : (slot : ℕ) (ks : List KeptBucket) → AreBefore slot ks → MovedOn None (map (bucket_at slot) ks) (map (bucket_at (slot + 1)) ks)
all_passed slot ks before = record {
  count = length-map ks (bucket_at (slot + 1)) ∙ sym (length-map ks (bucket_at slot));
  each = λ place b there.
      let l = within slot ks place b there in
      let is = same_Some _ b (sym (kept_at slot ks place nothing_kept l) ∙ there) in
      kept_at (slot + 1) ks place nothing_kept l ∙ ap Some (one_on slot (get_or ks place nothing_kept) (All-get_or (λ (k : KeptBucket). k.slot ≤ slot) ks place nothing_kept l before) ∙ ap after_others is);
}

-- the slot carries a packet of the stream at a place
pub one_sent : (slot : ℕ) (ks now : List KeptBucket) (place : ℕ) (k : KeptBucket) → AreBefore slot ks → place < length ks → k ≡ get_or ks place k → now ≡ set ks place (sent_at slot k)
    → MovedOn (Some place) (map (bucket_at slot) ks) (map (bucket_at (slot + 1)) now)
one_sent slot ks now place k before m read e =
    let size : length now ≡ length ks = ap length e ∙ length-set ks place (sent_at slot k) in
    record {
      count = length-map now (bucket_at (slot + 1)) ∙ size ∙ sym (length-map ks (bucket_at slot));
      each = λ j b there.
          let l = within slot ks j b there in
          let l' : j < length now = omega (arith, size) in
          let is = same_Some _ b (sym (kept_at slot ks j k l) ∙ there) in
          elim (cases_eq place j) [
            | inl same ↦
                (let here : get_or now j k ≡ sent_at slot k = ap (λ xs. get_or xs j k) e ∙ ap (λ i. get_or (set ks place (sent_at slot k)) i k) (sym same) ∙ get_or-set_same ks place (sent_at slot k) k m in
                let own : k ≡ get_or ks j k = read ∙ ap (λ i. get_or ks i k) same in
                kept_at (slot + 1) now j k l'
                ∙ ap (λ (x : KeptBucket). Some (bucket_at (slot + 1) x)) here
                ∙ ap Some (sent_on slot k ∙ ap (λ (x : KeptBucket). after_packet (bucket_at slot x)) own ∙ ap after_packet is)
                ∙ ap (λ s. Some (after_slot s b)) (sym (eq-eqb place j same)))
            | inr other ↦
                (let here : get_or now j k ≡ get_or ks j k = ap (λ xs. get_or xs j k) e ∙ get_or-set_other ks place j (sent_at slot k) k (λ same. other (sym same)) in
                kept_at (slot + 1) now j k l'
                ∙ ap (λ (x : KeptBucket). Some (bucket_at (slot + 1) x)) here
                ∙ ap Some (one_on slot (get_or ks j k) (All-get_or (λ (x : KeptBucket). x.slot ≤ slot) ks j k l before) ∙ ap after_others is)
                ∙ ap (λ s. Some (after_slot s b)) (sym (ne_eqb place j other)))
          ];
    }

-- those that were kept before a slot are before the next
pub still_before : (slot : ℕ) (ks : List KeptBucket) → AreBefore slot ks → AreBefore (slot + 1) ks
still_before slot ks before i d l = let m = before i d l in omega arith

pub sent_before : (slot : ℕ) (ks now : List KeptBucket) (place : ℕ) (k : KeptBucket) → AreBefore slot ks → now ≡ set ks place (sent_at slot k) → AreBefore (slot + 1) now
sent_before slot ks now place k before e =
    subst (AreBefore (slot + 1)) (sym e) (All-set (λ (x : KeptBucket). x.slot ≤ slot + 1) ks place (sent_at slot k) (omega arith) (still_before slot ks before))

-- the buckets as others see them

pub kept_within : (slot : ℕ) (ks : List KeptBucket) (buckets : List BucketValue) (place : ℕ) → map (bucket_at slot) ks ≡ buckets → place < length buckets → place < length ks
kept_within slot ks buckets place e l = let same = ap length e in omega (arith, length-map ks (bucket_at slot))

pub kept_read : (slot : ℕ) (ks : List KeptBucket) (buckets : List BucketValue) (place : ℕ) (k : KeptBucket) → map (bucket_at slot) ks ≡ buckets → place < length buckets → k ≡ get_or ks place k
    → slice_get buckets place ≡ Some (bucket_at slot k)
kept_read slot ks buckets place k e l read =
    ap (λ xs. slice_get xs place) (sym e) ∙ kept_at slot ks place k (kept_within slot ks buckets place e l) ∙ ap (λ (x : KeptBucket). Some (bucket_at slot x)) (sym read)

-- before the first slot
pub fresh_before : (rate slot : ℕ) (streams : List Stream) (ks : List KeptBucket) → ks ≡ map (fresh_bucket rate) streams → AreBefore slot ks
fresh_before rate slot streams ks e i d l =
    let nobody : Stream = record { input = 0; pid = 0; output_pid = 0; leak = 0 } in
    let within' : i < length streams = let same = ap length e in omega (arith, length-map streams (fresh_bucket rate)) in
    let at : get_or ks i d ≡ fresh_bucket rate (get_or streams i nobody) = ap (λ xs. get_or xs i d) e ∙ get_or-map (fresh_bucket rate) streams i nobody d within' in
    let s = ap (λ (k : KeptBucket). k.slot) at in
    omega arith

fresh_at : (rate : ℕ) (st : Stream) → bucket_at 0 (fresh_bucket rate st) ≡ empty_bucket rate st
fresh_at rate st = ap (λ n. let b : BucketValue = record { leak = st.leak; multiplex_rate = rate; level = n } in b) (zero-sub (188 * st.leak * (0 - 0)))

pub fresh_are : (rate slot : ℕ) (streams : List Stream) (ks : List KeptBucket) → ks ≡ map (fresh_bucket rate) streams → slot ≡ 0 → map (bucket_at slot) ks ≡ map (empty_bucket rate) streams
fresh_are rate slot streams ks e z =
    ap (λ n. map (bucket_at n) ks) z ∙ ap (map (bucket_at 0)) e ∙ map-map (bucket_at 0) (fresh_bucket rate) streams ∙ ap (λ (f : Stream → BucketValue). map f streams) (λ i st. fresh_at rate st i)
