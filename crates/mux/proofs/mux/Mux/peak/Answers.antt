use Rattle.std.proofs.Common.{ap, ◌∙◌, subst, arith, length}
use Rattle.std.specs.List.{slice_get}
use Rattle.mux.specs.History.{History}
use Rattle.mux.specs.Peaks.{IsPeak}
use Rattle.mux.proofs.Peaks.{length_peaks, peak_at, peak_is}
use Rattle.schedule.specs.Streams.{all_streams}
use Rattle.mux.proofs.mux.Mux.peak.Goals as goal

pub index-requires : goal.index-requires
index-requires c =
    let n = length_peaks c.self.invariant.2 in
    let v = ap (λ (h : History). length (all_streams h.run.schedule)) c.self.view_is in
    omega (arith, c.self.inside.peaks.ok.0)

pub returns : goal.returns
returns c st there =
    let s = c.self.inside.schedule in
    let h = c.self.inside.past in
    let at = ap (λ (x : History). slice_get (all_streams x.run.schedule) c.args.place) c.self.view_is ∙ there in
    let R : History → Type 0 = λ x. IsPeak x.run.schedule x.events st c.index.result.now in
    subst R c.self.view_is (peak_is s h st c.index.result.now (peak_at c.self.invariant.2 c.args.place st c.index.result.now at c.index.ensures))
