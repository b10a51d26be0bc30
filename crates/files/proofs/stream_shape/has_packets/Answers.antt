use Rattle.std.proofs.Common.{arith, ℕ, ◌≡◌, ◌<◌, ◌≤◌, List, length, drop, false, true, sym, ◌∙◌, ap, ⊎_elim}
use Rattle.std.proofs.lemmas.List.{drop_all}
use Rattle.std.proofs.lemmas.Bool.{cases_lt, false≢true}
use Rattle.tspkt.specs.Framed.{acquires_sync}
use Rattle.files.proofs.stream_shape.has_packets.Goals as goal

-- past the end there is none
none_past : (bytes : List ℕ) (stride k : ℕ) → length bytes ≤ k → acquires_sync stride (drop k bytes) ≡ false
none_past bytes stride k past = ap (acquires_sync stride) (drop_all k bytes past)

pub returns : goal.returns
returns c = (
  λ no. absurd (false≢true no),
  λ found.
      let k = found.0 in
      ⊎_elim
      (λ (l : k < length c.args.bytes.now). absurd (c.loop-offset.invariant k (omega arith) found.1))
      (λ (past : length c.args.bytes.now ≤ k). absurd (false≢true (sym (none_past c.args.bytes.now c.args.stride k past) ∙ found.1)))
      (cases_lt k (length c.args.bytes.now)),
)
