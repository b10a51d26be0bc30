use Rattle.std.proofs.Common.{◌≡◌, ◌+◌, slice_set, sym, ap, subst, ◌∙◌, arith}
use Rattle.acquire.specs.Seen.{pmt_told, pmt_finder_behind}
use Rattle.acquire.proofs.PlaceLaws.{HaveRead, found_next, passed_next, all_placed, none_but_some}
use Rattle.acquire.proofs.pmt_finders.push_pmts.Goals as goal
use Rattle.acquire.proofs.pmt_finders.push_pmts.Goals.{in-Some+in-Some-1, in-Some+in-None-1, in_default}

pub loop-i-preserved : goal.loop-i-preserved
loop-i-preserved c =
    let p = c.args.packet.now in
    let finders = c.args.finders.now in
    let found = c.args.found.now in
    let i = c.loop-i.i in
    let x = c.index-finders-i.result in
    let g = c.push.new.self in
    let read = c.in_ok-pmt.ensures.state ∙ ap (pmt_finder_behind p) (sym c.index-finders-i.is) in
    let told : c.in_ok-pmt.field-0 ≡ pmt_told p x = c.in_ok-pmt.ensures.pmt ∙ ap (pmt_told p) (sym c.index-finders-i.is) in
    let at = HaveRead p (i + 1) finders (slice_set c.loop-i.finders i g) found in
    elim c.match-branch-2.branch [
      | in-Some+in-Some-1 w ↦
          subst at (sym w.found-is)
          (found_next p i finders c.loop-i.finders found c.loop-i.found x g w.in-Some.pmt (omega arith) c.requires c.loop-i.invariant c.index-finders-i.is read (sym w.in-Some.is ∙ told))
      | in-Some+in-None-1 w ↦
          subst at (sym w.found-is)
          (found_next p i finders c.loop-i.finders found c.loop-i.found x g w.in-Some.pmt (omega arith) c.requires c.loop-i.invariant c.index-finders-i.is read (sym w.in-Some.is ∙ told))
      | in_default w ↦
          subst at (sym w.found-is)
          (passed_next p i finders c.loop-i.finders found c.loop-i.found x g (omega arith) c.requires c.loop-i.invariant c.index-finders-i.is read
          (sym (none_but_some c.in_ok-pmt.field-0 w.in_default.not-Some) ∙ told))
    ]

pub returns-clause-found : goal.returns-clause-found
returns-clause-found c =
    all_placed c.args.packet.now c.loop-i.i c.args.finders.now c.loop-i.finders c.args.found.now c.loop-i.found c.requires (omega arith) c.loop-i.invariant
