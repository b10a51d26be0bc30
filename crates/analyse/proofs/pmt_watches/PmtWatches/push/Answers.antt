use Rattle.std.proofs.Common.{◌≡◌, ◌<◌, ℕ, List, [], ◌∷◌, ◌++◌, ◌&&◌, length, get_or, Option, None, ap, sym, subst, ◌∙◌, arith}
use Rattle.std.specs.Prelude.{◌==◌, map, option_map}
use Rattle.std.proofs.lemmas.List.{map-set, get_or-map, length-map}
use Rattle.tspkt.specs.Packet.{pid_of}
use Rattle.analyse.specs.GapsWatching.{is_of_packet}
use Rattle.analyse.specs.PmtWatching.{PmtState, boxed_state, state_of, pids_of_program, HasSeenPmts, HaveSeenPmts}
use Rattle.analyse.proofs.PmtWatchesLaws.{clear_on, watch_seen, watch_came, watch_same}
use Rattle.analyse.proofs.pmt_watches.PmtWatches.push.Goals as goal

pub returns-clause-changed : goal.returns-clause-changed
returns-clause-changed c same pid program =
    let ws = c.self.inside.watches.items in
    let states = map boxed_state ws in
    let place = c.from-place.result in
    let new = c.see_packet.new.watch in
    let old = c.index_mut.result.now in
    let small : place < length ws = omega (arith, c.from-place.ensures, c.pid.ensures.fits, c.self.invariant) in
    let fits : place < length states = omega (arith, length-map ws boxed_state) in
    let at : get_or states place None ≡ boxed_state old = get_or-map boxed_state ws place old None small ∙ ap boxed_state (sym c.index_mut.ensures.value) in
    ap (λ (l : List (Option PmtState)). pids_of_program l pid program) (map-set boxed_state ws place new)
    ∙ watch_same states place (boxed_state new) pid program fits (c.in_ok-seen.ensures.changed same ∙ ap (λ (o : Option PmtState). (state_of o).newest) (sym at))
    ∙ ap (λ (l : List (Option PmtState)). pids_of_program l pid program) c.self.view_is

pub returns-clause-seen : goal.returns-clause-seen
returns-clause-seen c slots slot s r =
    let ws = c.self.inside.watches.items in
    let states = map boxed_state ws in
    let place = c.from-place.result in
    let new = c.see_packet.new.watch in
    let old = c.index_mut.result.now in
    let small : place < length ws = omega (arith, c.from-place.ensures, c.pid.ensures.fits, c.self.invariant) in
    let fits : place < length states = omega (arith, length-map ws boxed_state) in
    let at : get_or states place None ≡ boxed_state old = get_or-map boxed_state ws place old None small ∙ ap boxed_state (sym c.index_mut.ensures.value) in
    let h = rw c.in-Some.is at r in
    let pid : pid_of c.in-Some.packet.now ≡ place = sym (c.from-place.ensures ∙ c.pid.ensures.value) in
    subst (λ (l : List (Option PmtState)). HaveSeenPmts l (slots ++ slot ∷ [])) (sym (map-set boxed_state ws place new))
    (watch_seen states place (boxed_state new) slots slot fits h.1 (ap pid_of (sym h.0) ∙ pid)
    (λ before. c.in_ok-seen.ensures.seen slots slot place (subst (λ (o : Option PmtState). HasSeenPmts place (state_of o) slots) at before) h (clear_on place c.in-Some.packet.now pid (sym c.scrambling.ensures ∙ c.if-scrambling-ne0.false)))
    (subst (λ (l : List (Option PmtState)). HaveSeenPmts l slots) (sym c.self.view_is) s))

pub returns-clause-came : goal.returns-clause-came
returns-clause-came c slots slot s r pid =
    let ws = c.self.inside.watches.items in
    let states = map boxed_state ws in
    let place = c.from-place.result in
    let old = c.index_mut.result.now in
    let small : place < length ws = omega (arith, c.from-place.ensures, c.pid.ensures.fits, c.self.invariant) in
    let at : get_or states place None ≡ boxed_state old = get_or-map boxed_state ws place old None small ∙ ap boxed_state (sym c.index_mut.ensures.value) in
    let h = rw c.in-Some.is at r in
    let packet_pid : pid_of c.in-Some.packet.now ≡ place = sym (c.from-place.ensures ∙ c.pid.ensures.value) in
    let t = subst (λ (l : List (Option PmtState)). HaveSeenPmts l slots) (sym c.self.view_is) s in
    let before = subst (λ (o : Option PmtState). HasSeenPmts place (state_of o) slots) at (t.pids place) in
    watch_came place pid slots slot c.in_ok-seen.seen.came h.1 (ap pid_of (sym h.0) ∙ packet_pid) (c.in_ok-seen.ensures.came slots slot place before h (clear_on place c.in-Some.packet.now packet_pid (sym c.scrambling.ensures ∙ c.if-scrambling-ne0.false)))
    ∙ ap (λ (p : List ℕ). c.in_ok-seen.seen.came && pid_of p == pid) (sym h.0)
    ∙ ap (λ o. c.in_ok-seen.seen.came && is_of_packet (option_map (λ p. p.now) o) pid) (sym c.in-Some.is)
