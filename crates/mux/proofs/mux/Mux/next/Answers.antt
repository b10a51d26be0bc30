use Rattle.std.proofs.Common.{ℕ, ◌≡◌, sym, ap, ◌∙◌, subst, List, Some}
use Rattle.std.specs.List.{slice_get}
use Rattle.std.proofs.lemmas.Option.{IfSome_then}
use Rattle.tspkt.specs.declared.stamped.Stamped.{Stamped}
use Rattle.mux.specs.declared.content.Content.TheVariants.{Null, Elementary}
use Rattle.request.specs.declared.stream.Stream.{Stream}
use Rattle.buffers.specs.QueueValue.{QueueValue}
use Rattle.mux.specs.Choosing.{IsEligibleHead, IsFirstHead}
use Rattle.schedule.specs.Schedule.{slot_time}
use Rattle.schedule.specs.Streams.{all_streams}
use Rattle.mux.specs.History.{History, slots}
use Rattle.mux.specs.Lawful.{table_due, IsContent}
use Rattle.mux.proofs.Readiness.{none_goes, one_goes, when_none}
use Rattle.mux.proofs.mux.Mux.next.Goals as goal

pub returns-clause-none : goal.returns-clause-none
returns-clause-none c =
    let t = c.requires.now ∙ sym (ap (λ (h : History). slot_time h.run.schedule.first (slots h.events)) c.self.view_is) in
    let free = ap (λ (h : History). table_due h.run.schedule h.events) c.self.view_is ∙ c.requires.no_table in
    let Q : List Stream → Type 0 = λ xs. (k : ℕ) (st : Stream) (item : Stamped) → IsEligibleHead xs c.as_slice.result.now c.self.inside.progress.buckets c.args.now k st item → ⊥ in
    let S : List QueueValue → Type 0 = λ xs. (k : ℕ) (st : Stream) (item : Stamped) → IsEligibleHead (all_streams c.self.inside.schedule) xs c.self.inside.progress.buckets c.args.now k st item → ⊥ in
    let R : History → Type 0 = λ h. IsContent h.run.schedule h.events Null in
    when_none c.choose.result c.choose.ensures.none (λ none. subst R c.self.view_is (none_goes c.self.invariant.0.agrees c.self.invariant.0.buckets_are c.args.now t free (subst S c.as_slice.ensures.value (subst Q c.streams.ensures none))))

pub returns-clause-some : goal.returns-clause-some
returns-clause-some c =
    let t = c.requires.now ∙ sym (ap (λ (h : History). slot_time h.run.schedule.first (slots h.events)) c.self.view_is) in
    IfSome_then c.choose.result c.choose.ensures.some (λ b first.
    let free = ap (λ (h : History). table_due h.run.schedule h.events) c.self.view_is ∙ c.requires.no_table in
    let Q : List Stream → Type 0 = λ xs. IsFirstHead xs c.as_slice.result.now c.self.inside.progress.buckets c.args.now b in
    let S : List QueueValue → Type 0 = λ xs. IsFirstHead (all_streams c.self.inside.schedule) xs c.self.inside.progress.buckets c.args.now b in
    let R : History → Type 0 = λ h. (slice_get (all_streams h.run.schedule) b.index ≡ Some b.stream) × IsContent h.run.schedule h.events (Elementary b.stream) in
    subst R c.self.view_is (one_goes c.self.invariant.0.agrees c.self.invariant.0.buckets_are c.args.now t free b (subst S c.as_slice.ensures.value (subst Q c.streams.ensures first))))
