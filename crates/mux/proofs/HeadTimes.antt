-- The heads that lie beside the queues.
use Rattle.std.proofs.Common.{ℕ, ◌≡◌, List, [], ◌∷◌, length, map, set, Some, refl, ap, ◌∙◌, sym, subst}
use Rattle.std.specs.List.{slice_get}
use Rattle.std.proofs.lemmas.List.{length-map, map-set}
use Rattle.std.proofs.Math.Seq.{map-set_same}
use Rattle.std.proofs.lemmas.Option.{same_Some}
use Rattle.tspkt.specs.declared.stamped.Stamped.{Stamped}
use Rattle.request.specs.declared.stream.Stream.{Stream}
use Rattle.buffers.specs.QueueValue.{QueueValue, first_stamp}
use Rattle.mux.specs.declared.head.Head.{Head}
use Rattle.mux.specs.HeadList.{head_at, with_time}
use Rattle.mux.specs.Keeping.{head_time, KeepsHeads}

abbrev pub time_of : Head → ℕ
time_of h = h.time

abbrev pub pid_of_head : Head → ℕ
pid_of_head h = h.pid

abbrev pub output_of : Stream → ℕ
output_of st = st.output_pid

pub length_heads : {heads : List Head} {queues : List QueueValue} {streams : List Stream} → KeepsHeads heads queues streams → length heads ≡ length queues
length_heads {heads} {queues} kept = sym (length-map heads time_of) ∙ ap length kept.times_are ∙ length-map queues head_time

-- a queue changes, and the time of its head with it
pub heads_renewed : {heads : List Head} {queues : List QueueValue} {streams : List Stream} → KeepsHeads heads queues streams → (k time : ℕ) (q : QueueValue) → time ≡ head_time q
    → KeepsHeads (set heads k (with_time time (head_at heads k))) (set queues k q) streams
heads_renewed {heads} {queues} {streams} kept k time q is = record {
  times_are = map-set time_of heads k (with_time time (head_at heads k)) ∙ ap (λ ns. set ns k time) kept.times_are ∙ ap (set (map head_time queues) k) is ∙ sym (map-set head_time queues k q);
  pids_are = map-set_same pid_of_head heads k (with_time time (head_at heads k)) (record { time = 0; pid = 0 }) refl ∙ kept.pids_are;
}

pub heads_set : {heads : List Head} {queues : List QueueValue} {streams : List Stream} → KeepsHeads heads queues streams → (k time : ℕ) (q : QueueValue) (now : List Head) → time ≡ head_time q → now ≡ set heads k (with_time time (head_at heads k))
    → KeepsHeads now (set queues k q) streams
heads_set {heads} {queues} {streams} kept k time q now is at =
    let P : List Head → Type 0 = λ hs. KeepsHeads hs (set queues k q) streams in
    subst P (sym at) (heads_renewed kept k time q is)

-- the time of a head that waits
pub time_of_head : (items : List Stamped) (item : Stamped) → slice_get items 0 ≡ Some item → first_stamp items ≡ item.stamp
time_of_head [] item at = cc
time_of_head (x ∷ xs) item at = ap (λ (y : Stamped). y.stamp) (same_Some x item at)

pub keeps_as : {heads now : List Head} {queues later : List QueueValue} {streams : List Stream} → now ≡ heads → later ≡ queues → KeepsHeads heads queues streams → KeepsHeads now later streams
keeps_as {heads} {now} {queues} {later} {streams} h q kept = record {
  times_are = ap (map time_of) h ∙ kept.times_are ∙ ap (map head_time) (sym q);
  pids_are = ap (map pid_of_head) h ∙ kept.pids_are;
}
