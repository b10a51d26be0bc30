use Rattle.std.proofs.Common.{arith, ◌+◌, ◌-◌, ◌≤◌, ℕ, List, length, drop, take, ap, subst}
use Rattle.tspkt.specs.Framed.{FramerState, WantsRoom}
use Rattle.std.proofs.lemmas.List.{length-drop}
use Rattle.tspkt.proofs.ItemListLaws.{later_same}
use Rattle.tspkt.proofs.FramingLaws.{waiting_short, wants_room, takes_piece, kept_bytes}
use Rattle.tspkt.proofs.framer.Framer.take_piece.Goals as goal

pub slice_bounds-copy-end : goal.slice_bounds-copy-end
slice_bounds-copy-end g c =
    let short = waiting_short c.self.inside.stride c.in-Ok.mode (drop c.in-Ok.done c.new-window.result) c.self.invariant.1.long c.in-Ok.ensures.waits in
    omega (arith, short, length-drop c.in-Ok.done c.new-window.result, c.self.invariant.1.fits)

pub returns-in-Err-clause-full : goal.returns-in-Err-clause-full
returns-in-Err-clause-full g c = λ memory.
    let f = c.self.inside in
    let s = g.L.ItemList.list c.args.out.now in
    let state : FramerState = record { stride = f.stride; limit = f.limit; position = f.position; mode = f.mode; kept = take f.count f.kept } in
    let P : FramerState → Type 0 = λ v. WantsRoom v c.args.piece.now s.told s.places in
    subst P c.self.view_is (wants_room state c.new-window.result c.args.piece.now s.told s.places c.new-window.ensures c.in-Err.ensures.full)

pub returns-in-Ok-clause-ok : goal.returns-in-Ok-clause-ok
returns-in-Ok-clause-ok g c =
    let f = c.self.inside in
    let w = c.new-window.result in
    let short = waiting_short f.stride c.in-Ok.mode (drop c.in-Ok.done w) c.self.invariant.1.long c.in-Ok.ensures.waits in
    let fits : c.len.result - c.in-Ok.done ≤ length f.kept = omega (arith, short, length-drop c.in-Ok.done w, c.self.invariant.1.fits, c.len.ensures) in
    let out = (g.L.ItemList.list c.args.out.now).told in
    let told = (g.L.ItemList.list c.advance.new.out).told in
    let state : FramerState = record { stride = f.stride; limit = f.limit; position = f.position; mode = f.mode; kept = take f.count f.kept } in
    let S : List ℕ → FramerState = λ kept. record { stride = f.stride; limit = f.limit; position = f.position + c.in-Ok.done; mode = c.in-Ok.mode; kept = kept } in
    takes_piece state c.args.self.now _ w c.args.piece.now out told c.in-Ok.mode c.in-Ok.done c.self.view_is c.new-window.ensures c.in-Ok.ensures.goes c.advance.ensures.later.kept (ap S (kept_bytes w c.copy.new.out f.kept _ c.in-Ok.done _ c.in-Ok.ensures.goes.within (omega (arith, c.len.ensures)) fits c.copy.ensures))
