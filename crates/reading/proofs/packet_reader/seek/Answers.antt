use Rattle.std.proofs.Common.{◌≡◌, [], ◌∷◌, ◌++◌, List, drop, sym, ap, subst, ◌∙◌, Some, None, refl}
use Rattle.std.specs.Prelude.{Option, IfSome}
use Rattle.std.specs.Borrow.{Bor}
use Rattle.std.specs.List.{slice_get}
use Rattle.std.specs.Option.{option_copied}
use Rattle.tspkt.specs.declared.item.Item.{Item}
use Rattle.reading.specs.declared.report.Report.{Report}
use Rattle.reading.specs.declared.stream_reader.StreamReader.{StreamReader}
use Rattle.reading.specs.Items.{ItemsValue}
use Rattle.reading.specs.Takeable.{OriginValue, stride_at, place_of_item}
use Rattle.reading.specs.Holding.{first_packet, held_of, stream_behind}
use Rattle.reading.specs.PacketReading.{HasLooked}
use Rattle.reading.proofs.StreamLaws.{passed_on}
use Rattle.reading.proofs.PacketLaws.{looked_on}
use Rattle.reading.proofs.HoldingLaws.{holds_taken, held_taken, place_taken}
use Rattle.reading.proofs.packet_reader.seek.Goals as goal

none_ahead : {X : Type 0} (xs : List X) (first : Option (Bor X)) → first ≡ None → option_copied first ≡ slice_get xs 0 → xs ≡ []
none_ahead [] first none is = refl
none_ahead (x ∷ xs) first none is = let bad : None ≡ Some x = ap option_copied (sym none) ∙ is in cc

pub returns-clause-none : goal.returns-clause-none
returns-clause-none g c e = none_ahead c.loop-item.stream.items.ahead c.peek.result c.in_default.is c.peek.ensures.item

-- a packet was found, which stands first

pub returns-in-Some-classify-clause-read : goal.returns-in-Some-classify-clause-read
returns-in-Some-classify-clause-read g c bytes given looked h =
    let M = g.R.Source.remaining in
    let s = c.args.schedule.now in
    let o = c.loop-item.origin in
    let stream = c.loop-item.stream in
    let item = c.in-Some.item.now in
    let found = c.in-Some-classify.found in
    let look = c.classify in
    let k = c.loop-item.invariant.read bytes given looked h in
    let first = sym c.in-Some.ensures.item in
    let behind = stream_behind (Some found.1) stream in
    let passed = passed_on (stride_at o) stream.items behind.items k.0 item bytes (M stream.source) c.loop-item.report.stopped first refl k.1.passed in
    let P : OriginValue → Type 0 = λ v. HasLooked M s v behind (held_of (Some found.1) stream.items.ahead) look.new.report bytes given (k.0 ++ item ∷ []) in (
      k.0 ++ item ∷ [],
      subst P (sym look.ensures.origin)
          (looked_on M s o stream behind item None (held_of (Some found.1) stream.items.ahead) c.loop-item.report look.new.report bytes given k.0 c.peek.ensures.within refl first
          (held_taken s o item found.0 found.1 stream.items.ahead c.in-Some-classify.ensures.some first) look.ensures.counts passed k.1),
    )

pub returns-in-Some-classify-clause-holds : goal.returns-in-Some-classify-clause-holds
returns-in-Some-classify-clause-holds g c =
    let found = c.in-Some-classify.found in
    holds_taken c.args.schedule.now c.loop-item.origin c.in-Some.item.now found.0 found.1 c.loop-item.stream.items.ahead c.in-Some-classify.ensures.some (sym c.in-Some.ensures.item)

pub returns-in-Some-classify-clause-place : goal.returns-in-Some-classify-clause-place
returns-in-Some-classify-clause-place g c =
    let found = c.in-Some-classify.found in
    let s = c.args.schedule.now in
    let ahead = c.loop-item.stream.items.ahead in
    let P : OriginValue → Type 0 = λ v. IfSome (first_packet found.1 ahead) (λ item. Some found.0 ≡ place_of_item s v item) in
    subst P (sym c.classify.ensures.origin) (place_taken s c.loop-item.origin c.in-Some.item.now found.0 found.1 ahead c.in-Some-classify.ensures.some (sym c.in-Some.ensures.item))

-- an item was passed

pub loop-item-preserved : goal.loop-item-preserved
loop-item-preserved g c =
    let M = g.R.Source.remaining in
    let s = c.args.schedule.now in
    let o = c.loop-item.origin in
    let stream = c.loop-item.stream in
    let look = c.classify in
    let kept = c.loop-item.invariant in
    record {
      read = λ bytes given looked h.
          let k = kept.read bytes given looked h in
          let item = c.in-Some.item.now in
          let first = sym c.in-Some.ensures.item in
          let passed = c.pass.ensures.passed (stride_at o) bytes c.loop-item.report.stopped k.0 item first k.1.passed in
          let P : OriginValue → Type 0 = λ v. HasLooked M s v c.pass.new.self None look.new.report bytes given (k.0 ++ item ∷ []) in (
            k.0 ++ item ∷ [],
            subst P (sym look.ensures.origin)
                (looked_on M s o stream c.pass.new.self item None None c.loop-item.report look.new.report bytes given k.0 c.peek.ensures.within refl first (sym c.in_default-classify.ensures.none) look.ensures.counts passed k.1),
          );
      origin = look.ensures.origin ∙ kept.origin;
      source = ap (λ (v : StreamReader _). v.source) c.pass.ensures.items ∙ kept.source;
      limit = ap (λ (v : StreamReader _). v.items.limit) c.pass.ensures.items ∙ kept.limit;
      framer = ap (λ (v : StreamReader _). v.items.framer) c.pass.ensures.items ∙ kept.framer;
      stopped = ap (λ (r : Report). r.stopped) look.ensures.counts ∙ kept.stopped;
    }
