use Rattle.std.proofs.Common.{◌≡◌, ◌<◌, length, slice_get, Some, refl, ap, ◌∙◌, arith}
use Rattle.mux.specs.Lawful.{input_count}
use Rattle.std.proofs.lemmas.Option.{slice_get_read}
use Rattle.mux.specs.History.{Run}
use Rattle.station.proofs.MovingLaws.{moved_on}
use Rattle.station.proofs.StationLaws.{lawful_set}
use Rattle.station.proofs.station.move_all.Goals as goal

pub move_in-requires-clause-lawful : goal.move_in-requires-clause-lawful
move_in-requires-clause-lawful c =
    let l = c.loop-number in
    let x = c.index_mut.result.now in
    let within : l.number < length l.entries.items = omega (arith, c.loop-number-test.true, c.len-number-end.ensures, c.requires.count, l.invariant.lawful.count, ap (λ (r : Run). input_count r.schedule) l.invariant.run) in
    let at : slice_get l.entries.items l.number ≡ Some x = slice_get_read l.entries.items (length l.entries.items) l.number x refl within c.index_mut.ensures.value in
    l.invariant.lawful.each l.number x at

pub loop-number-preserved : goal.loop-number-preserved
loop-number-preserved c =
    let l = c.loop-number in
    let x = c.index_mut.result.now in
    let y = c.move_in.new.entry in
    let within : l.number < length l.entries.items = omega (arith, c.loop-number-test.true, c.len-number-end.ensures, c.requires.count, l.invariant.lawful.count, ap (λ (r : Run). input_count r.schedule) l.invariant.run) in
    let at : slice_get l.entries.items l.number ≡ Some x = slice_get_read l.entries.items (length l.entries.items) l.number x refl within c.index_mut.ensures.value in
    record {
      moved = moved_on c.args.most c.args.mux.now c.args.entries.now.items l.mux l.entries.items l.number x c.move_in.new.mux y l.invariant.moved at c.move_in.ensures.moves;
      lawful = lawful_set l.mux c.move_in.new.mux l.entries.items l.number y c.move_in.ensures.run l.invariant.lawful c.move_in.ensures.others c.move_in.ensures.lawful;
      run = c.move_in.ensures.run ∙ l.invariant.run;
    }
