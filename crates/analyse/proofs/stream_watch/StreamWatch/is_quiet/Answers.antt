use Rattle.std.proofs.Common.{sym, subst, ◌∙◌}
use Rattle.analyse.specs.StreamWatching.{StreamState}
use Rattle.analyse.specs.Quiet.{IsQuiet}
use Rattle.analyse.proofs.QuietLaws.{sync_stands}
use Rattle.analyse.proofs.stream_watch.StreamWatch.is_quiet.Goals as goal

pub returns : goal.returns
returns c t =
    let w : StreamState = record { count = c.self.inside.count; sync = c.self.inside.sync; pat = c.self.inside.pat; counters = c.self.inside.counters; tables = c.self.inside.tables } in
    subst (λ (v : StreamState). IsQuiet v c.args.slot.now c.args.packet.now) c.self.view_is
    (record {
      sync = sync_stands w.sync c.args.slot.now (sym c.stands.ensures ∙ c.if-not-stands.false);
      pat = c.rests.ensures c.if-not-rests.false;
      tables = c.rest_at.ensures t;
    })
