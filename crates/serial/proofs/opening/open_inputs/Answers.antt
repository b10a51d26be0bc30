use Rattle.std.proofs.Common.{◌≡◌, ℕ, List, [], ◌∷◌, ◌++◌, length, subst, arith, sym}
use Rattle.serial.specs.Opening.{IsOpened, AreOpened}
use Rattle.serial.proofs.OpeningLaws.{opened_push}
use Rattle.serial.proofs.opening.open_inputs.Goals as goal
use Rattle.serial.specs.Feeding.{SerialInput}

pub loop-reader-preserved : goal.loop-reader-preserved
loop-reader-preserved g c =
    let l = c.loop-reader in
    let p = c.args.schedule.now in
    let place : c.len.result ≡ length l.inputs.items = omega (arith, c.len.ensures, l.inputs.ok.0) in
    let P : ℕ → Type 0 = λ n. IsOpened g.R.Source.remaining g.R.Source.failures c.args.limit p n c.in-Some.reader c.open_input.result in
    let Q : List (SerialInput g.row.R.Denot) → Type 0 = AreOpened g.R.Source.remaining g.R.Source.failures c.args.limit p (l.yielded ++ c.in-Some.reader ∷ []) in
    subst Q (sym c.in_ok-push.ensures.items)
    (opened_push g.R.Source.remaining g.R.Source.failures c.args.limit p l.yielded l.inputs.items c.in-Some.reader c.open_input.result l.invariant (subst P place c.open_input.ensures))
