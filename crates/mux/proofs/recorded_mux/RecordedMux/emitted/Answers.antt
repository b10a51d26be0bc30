use Rattle.std.proofs.Common.{ℕ, ◌<◌, List, length, Some, sym, ap, ◌∙◌, arith}
use Rattle.std.specs.List.{slice_get}
use Rattle.std.proofs.lemmas.Option.{slice_get-get_or}
use Rattle.mux.specs.History.{History, slots, emitted}
use Rattle.mux.proofs.Emitted.{length-emitted}
use Rattle.mux.proofs.recorded_mux.RecordedMux.emitted.Goals as goal

pub index-requires : goal.index-requires
index-requires c =
    let h = c.self.inside.mux in
    let v = ap (λ (x : History). slots x.events) c.self.view_is in
    let l = c.requires in
    omega (arith, ap length c.self.invariant, length-emitted h.run.schedule h.events)

pub returns : goal.returns
returns c =
    let h = c.self.inside.mux in
    let v = ap (λ (x : History). slots x.events) c.self.view_is in
    let l = c.requires in
    let there : c.args.slot < length c.self.inside.packets.items = omega (arith, ap length c.self.invariant, length-emitted h.run.schedule h.events) in
    sym (ap (λ (x : History). slice_get (emitted x.run.schedule x.events) c.args.slot) c.self.view_is)
    ∙ sym (ap (λ (xs : List (List ℕ)). slice_get xs c.args.slot) c.self.invariant)
    ∙ slice_get-get_or c.self.inside.packets.items c.args.slot c.index.result.now there ∙ ap Some (sym c.index.ensures)
