use Rattle.std.proofs.Common.{◌∙◌, sym, ap}
use Rattle.std.specs.Prelude.{◌==◌}
use Rattle.std.specs.List.{list_any}
use Rattle.request.specs.Request.{ServiceValue, service_value}
use Rattle.request.proofs.ListLaws.{list_any-map}
use Rattle.schedule.proofs.output_pids.has_pmt_on.Goals as goal

pub returns : goal.returns
returns c =
    c.is_pmt_among.ensures ∙ sym (list_any-map (λ (v : ServiceValue). v.pmt == c.args.pid) service_value c.services.result.now)
    ∙ ap (λ vs. list_any (λ (v : ServiceValue). v.pmt == c.args.pid) vs) c.services.ensures.value
