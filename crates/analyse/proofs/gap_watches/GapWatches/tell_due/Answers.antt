use Rattle.std.proofs.Common.{◌≡◌, List, ◌++◌, refl, ap, sym, ◌∙◌}
use Rattle.std.proofs.lemmas.Result.{on_ok_weaker}
use Rattle.analyse.specs.GapsWatching.{GapsState, told_also, long_gaps}
use Rattle.analyse.specs.declared.fault.Fault.{Fault}
use Rattle.analyse.proofs.GapsLaws.{gaps_told, none_due}
use Rattle.analyse.proofs.gap_watches.GapWatches.tell_due.Goals as goal

pub returns-then-count-self : goal.returns-then-count-self
returns-then-count-self c =
    let due = ap (λ (w : GapsState). w.due) c.self.view_is in
    on_ok_weaker c.tell_also.result
    (λ (told : c.tell_also.new.out.items ≡ c.args.out.now.items ++ told_also c.args.also c.args.kind c.args.count) watched mark s.
    told ∙ ap (λ (l : List Fault). c.args.out.now.items ++ l)
    (sym (none_due c.args.self.now watched mark c.args.also c.args.kind c.args.count 8192 refl c.requires (rw (← due) c.if-count-self.true) s)))
    c.tell_also.ensures

pub returns : goal.returns
returns c =
    on_ok_weaker c.tell_long.result
    (λ (told : c.tell_long.new.out.items ≡ c.args.out.now.items ++ long_gaps c.args.self.now c.args.also c.args.kind c.args.count 8192) watched mark s.
    told ∙ ap (λ (l : List Fault). c.args.out.now.items ++ l) (gaps_told c.args.self.now watched mark c.args.also c.args.kind c.args.count 8192 refl s))
    c.tell_long.ensures
