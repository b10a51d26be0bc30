use Rattle.std.proofs.Common.{◌+◌, min, List, [], ◌∷◌, ◌++◌, ◌≡◌, length, ap, ◌∙◌, sym, subst}
use Rattle.analyse.specs.declared.fault.Fault.{Fault}
use Rattle.analyse.specs.Faults.{faults, faults_at}
use Rattle.analyse.proofs.FaultsLaws.{faults_more}
use Rattle.analyse.specs.FaultReport.{IsReportOf}
use Rattle.outlet.proofs.SendingLaws.{counted_more}
use Rattle.outlet.proofs.slot_writer.SlotWriter.analyse.Goals as goal

pub returns-clause-analysed : goal.returns-clause-analysed
returns-clause-analysed c rate period slots has =
    let q = c.args.packet.now in
    let told : c.push_packet.new.out.items ≡ faults_at rate period (slots ++ q ∷ []) (length slots) =
    c.in_ok-push_packet.ensures.told slots has.seen
    ∙ ap (λ (l : List Fault). l ++ faults_at c.args.self.now.analyser.rate c.args.self.now.analyser.period (slots ++ q ∷ []) (length slots)) c.clear.ensures.items
    ∙ ap (λ n. faults_at n c.args.self.now.analyser.period (slots ++ q ∷ []) (length slots)) has.rate_is
    ∙ ap (λ n. faults_at rate n (slots ++ q ∷ []) (length slots)) has.period_is in
    let Reported : List Fault → Type 0 = IsReportOf c.add_all.new.self in
    record {
      seen = c.in_ok-push_packet.ensures.seen slots has.seen;
      rate_is = c.push_packet.ensures.rate ∙ has.rate_is;
      period_is = c.push_packet.ensures.period ∙ has.period_is;
      reported = subst Reported (ap (λ (l : List Fault). faults rate period slots ++ l) (c.as_slice-2.ensures.value ∙ told) ∙ sym (faults_more rate period slots q))
          (c.add_all.ensures (faults rate period slots) has.reported);
      faults_are = counted_more rate period slots q c.args.self.now.faults c.saturating_add-self.result c.push_packet.new.out.items has.faults_are told
          (c.saturating_add-self.ensures ∙ ap (λ (xs : List Fault). min (c.args.self.now.faults + length xs) 18446744073709551615) c.as_slice.ensures.value);
    }
