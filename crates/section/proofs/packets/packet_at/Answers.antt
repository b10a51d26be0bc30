use Rattle.std.proofs.Common.{◌≡◌, ◌*◌, ◌++◌, ℕ, List, take, drop, refl, sym, ap, subst, ◌∙◌, Some, None, Result, Ok, Err}
use Rattle.std.specs.Prelude.{IsOk, MatchResult}
use Rattle.tspkt.specs.Packet.{fault_of}
use Rattle.tspkt.specs.declared.malformed.Malformed.{Malformed}
use Rattle.section.specs.Packetized.{stuffed, header_of}
use Rattle.section.specs.Packetizing.{IsPart}
use Rattle.section.proofs.PartLaws.{part_accepted, part_is}
use Rattle.section.proofs.packets.packet_at.Goals as goal

-- bytes without a fault are read
accepted_ok : (bytes : List ℕ) (r : Result (List ℕ) Malformed) → MatchResult r (λ p. (p ≡ bytes) × (fault_of bytes ≡ None)) (λ e. fault_of bytes ≡ Some e) → fault_of bytes ≡ None → IsOk r
accepted_ok bytes (Ok p) h n = refl
accepted_ok bytes (Err e) h n = absurd (cc (h, n))

pub unwrap-requires : goal.unwrap-requires
unwrap-requires c =
    let header = header_of c.args.pid c.args.first_counter c.args.place in
    let payload = take 184 (drop (184 * c.args.place) (stuffed c.args.section.now)) in
    let bytes : c.bytes_at-bytes.result ≡ header ++ payload = c.bytes_at-bytes.ensures ∙ ap (λ (l : List ℕ). l ++ payload) c.header_at-header.ensures in
    accepted_ok c.bytes_at-bytes.result c.read.result c.read.ensures (ap fault_of bytes ∙ part_accepted c.args.pid c.args.first_counter c.args.place payload)

pub returns : goal.returns
returns c =
    let header = header_of c.args.pid c.args.first_counter c.args.place in
    let payload = take 184 (drop (184 * c.args.place) (stuffed c.args.section.now)) in
    let bytes : c.bytes_at-bytes.result ≡ header ++ payload = c.bytes_at-bytes.ensures ∙ ap (λ (l : List ℕ). l ++ payload) c.header_at-header.ensures in
    let same = rw c.unwrap.ensures at c.read.ensures in
    let P : List ℕ → Type 0 = λ l. IsPart c.args.section.now c.args.pid c.args.first_counter c.args.place l in
    subst P (sym (same.0 ∙ bytes)) (part_is c.args.section.now payload c.args.pid c.args.first_counter c.args.place c.requires.pid refl)
