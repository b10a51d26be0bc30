-- A station of one input, and its port.
use Rattle.std.proofs.Common.{◌≡◌, ℕ, List, [], ◌∷◌, ◌++◌, length, map, Option, Some, None, option_map, ap, sym, subst, ◌∙◌, refl, arith, length-append}
use Rattle.std.specs.List.{slice_get}
use Rattle.std.specs.Option.{option_to_list}
use Rattle.std.proofs.lemmas.Option.{slice_get-map}
use Rattle.schedule.specs.Schedule.{ScheduleValue}
use Rattle.mux.specs.Lawful.{input_count}
use Rattle.port.specs.Rings.{RingId, PortValue}
use Rattle.station.specs.Stations.{Input, StationValue, rings_of}
use Rattle.station.specs.Opening.{IsOpened, IsFresh}

-- the last of one port is the first
first_of_one : (ports rest : List PortValue) (port : PortValue) → length ports ≡ 1 → ports ≡ rest ++ port ∷ [] → slice_get ports 0 ≡ Some port
first_of_one ports [] port one are = ap (λ (v : List PortValue). slice_get v 0) are
first_of_one ports (p ∷ rest) port one are =
    let size : length ports ≡ length ((p ∷ rest) ++ port ∷ []) = ap (λ (v : List PortValue). length v) are in
    absurd (omega (arith, one, size, length-append (p ∷ rest) (port ∷ [])))

first_inlet : (inputs : List Input) → length inputs ≡ 1 → (x : Input) × (slice_get inputs 0 ≡ Some x)
first_inlet [] one = absurd (omega (arith, one))
first_inlet (x ∷ inputs) one = (x, refl)

-- the only port and the only input of a station
one_fresh : (s : ScheduleValue) (slots : ℕ) (station : StationValue) (ports rest : List PortValue) (popped : Option PortValue) (port : PortValue) → IsOpened s slots station ports → input_count s ≡ 1
    → ports ≡ rest ++ option_to_list popped → popped ≡ Some port → (x : Input) × (slice_get station.inputs 0 ≡ Some x) × IsFresh 0 port x
one_fresh s slots station ports rest popped port is one are some =
    let behind : ports ≡ rest ++ port ∷ [] = are ∙ ap (λ (o : Option PortValue). rest ++ option_to_list o) some in
    let x = first_inlet station.inputs (is.inputs_are ∙ one) in
    (x.0, x.1, is.each 0 port x.0 (first_of_one ports rest port (is.ports_are ∙ one) behind) x.1)

-- the port of a station of one input is of the ring that the input comes through
pub one_tied : (s : ScheduleValue) (slots : ℕ) (station : StationValue) (ports rest : List PortValue) (popped : Option PortValue) (port : PortValue) → IsOpened s slots station ports → input_count s ≡ 1
    → ports ≡ rest ++ option_to_list popped → popped ≡ Some port → slice_get (rings_of station.inputs) port.ring.input ≡ Some port.ring
one_tied s slots station ports rest popped port is one are some =
    let f = one_fresh s slots station ports rest popped port is one are some in
    let ring_of : Input → RingId = λ x. x.inlet.ring in
    let there : slice_get (rings_of station.inputs) 0 ≡ Some port.ring = slice_get-map ring_of station.inputs 0 ∙ (ap (option_map ring_of) f.1 ∙ ap Some f.2.ring) in
    let N : ℕ → Type 0 = λ k. slice_get (rings_of station.inputs) k ≡ Some port.ring in
    subst N (sym f.2.number) there

-- and it sent nothing
pub one_unsent : (s : ScheduleValue) (slots : ℕ) (station : StationValue) (ports rest : List PortValue) (popped : Option PortValue) (port : PortValue) → IsOpened s slots station ports → input_count s ≡ 1
    → ports ≡ rest ++ option_to_list popped → popped ≡ Some port → port.sent ≡ []
one_unsent s slots station ports rest popped port is one are some =
    (one_fresh s slots station ports rest popped port is one are some).2.unsent
