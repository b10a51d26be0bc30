use Rattle.std.proofs.Common.{◌∙◌, ◌&&◌, sym, ap}
use Rattle.std.specs.Prelude.{◌==◌}
use Rattle.std.specs.List.{list_any}
use Rattle.request.specs.Request.{ServiceValue, service_value}
use Rattle.request.proofs.ListLaws.{list_any-map}
use Rattle.schedule.proofs.output_pids.has_pmt_of.Goals as goal

pub returns : goal.returns
returns c =
    c.is_among.ensures
    ∙ sym (list_any-map (λ (v : ServiceValue). v.service == c.args.service && v.pmt == c.args.pmt) service_value c.services.result.now)
    ∙ ap (λ vs. list_any (λ (v : ServiceValue). v.service == c.args.service && v.pmt == c.args.pmt) vs) c.services.ensures.value
