use Rattle.std.proofs.Common.{arith, ◌≡◌, ◌++◌, ◌∷◌, [], ℕ, List, Some, slice_get, length, map, ap, ◌∙◌, sym, subst}
use Rattle.std.proofs.lemmas.List.{map-append}
use Rattle.measuring.specs.Metering.{AreNewMeters, sizes_of, source_of}
use Rattle.measuring.specs.declared.metered.Metered.{Metered}
use Rattle.measuring.proofs.MeterLaws.{meter_more}
use Rattle.measuring.proofs.metered.with_meters.Goals as goal

pub loop-source-preserved : goal.loop-source-preserved
loop-source-preserved g c =
    let l = c.loop-source in
    let all = l.all.items in
    let p = c.args.plan.now in
    let place : c.len.result ≡ length all = omega (arith, c.len.ensures, l.all.ok.0) in
    let P : ℕ → Type 0 = λ n. slice_get (sizes_of p) n ≡ Some c.size_at-size.result in
    let Q : List (Metered g.row.R.Denot g.row.M.Denot) → Type 0 = AreNewMeters g.M.Meter.shown p in
    record {
      sources =
          ap (map source_of) c.in_ok-push.ensures.items
          ∙ map-append source_of all (c.new.result ∷ [])
          ∙ ap (λ (xs : List g.row.R.Denot). xs ++ source_of c.new.result ∷ []) l.invariant.sources
          ∙ ap (λ (x : g.row.R.Denot). l.yielded ++ x ∷ []) c.new.ensures.source;
      meters =
          subst Q (sym c.in_ok-push.ensures.items)
          (meter_more g.M.Meter.shown p all c.size_at-size.result c.new.result l.invariant.meters (subst P place c.size_at-size.ensures) c.new.ensures.meter);
    }
