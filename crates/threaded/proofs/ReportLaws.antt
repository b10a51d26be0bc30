-- Whether a worker wanted memory.
use Rattle.std.proofs.Common.{◌≡◌, suc, Bool, true, false, get_or, List, [], ◌∷◌, Option, Some, None, refl, ap, sym, ◌∙◌, inl, inr}
use Rattle.std.specs.List.{list_any}
use Rattle.std.proofs.lemmas.Bool.{false≢true, or_cases}
use Rattle.std.proofs.lemmas.List.Folds.{list_any_at}
use Rattle.std.proofs.lemmas.Option.{slice_get_within, get_or_from_slice_get}
use Rattle.reading.specs.declared.stop.Stop.{Stop}
use Rattle.reading.specs.declared.stop.Stop.TheVariants.{Gate, ReadFailed, TooMuch, Memory}
use Rattle.outcome.specs.Ending.{HadMemory}
use Rattle.outcome.specs.declared.ended.Ended.{Ended}
use Rattle.workers.specs.Crews.{WantedMemory, wants_memory}

-- where none of the workers wanted memory, each of them had it
pub all_had_memory : {R G : Type 0} (ended : List (Ended (R × G))) → list_any (λ (e : Ended (R × G)). wants_memory e.report.stopped) ended ≡ false → HadMemory ended
all_had_memory {R} {G} ended none i e at refused =
    let test : Ended (R × G) → Bool = λ x. wants_memory x.report.stopped in
    let one : test (get_or ended i e) ≡ true = ap test (get_or_from_slice_get ended i e e at) ∙ ap wants_memory refused in
    false≢true (sym none ∙ list_any_at test ended i e (slice_get_within ended i e at) one)

wanted_is : (o : Option Stop) → wants_memory o ≡ true → o ≡ Some Memory
wanted_is None is = absurd (false≢true is)
wanted_is (Some Gate) is = absurd (false≢true is)
wanted_is (Some ReadFailed) is = absurd (false≢true is)
wanted_is (Some TooMuch) is = absurd (false≢true is)
wanted_is (Some Memory) is = refl

-- where one of them did, one was stopped so
pub one_wanted_memory : {R G : Type 0} (ended : List (Ended (R × G))) → list_any (λ (e : Ended (R × G)). wants_memory e.report.stopped) ended ≡ true → WantedMemory ended
one_wanted_memory [] any = absurd (false≢true any)
one_wanted_memory {R} {G} (e ∷ ended) any =
    elim (or_cases (wants_memory e.report.stopped) (list_any (λ (x : Ended (R × G)). wants_memory x.report.stopped) ended) any) [
      | inl is ↦ (0, e, refl, wanted_is e.report.stopped is)
      | inr rest ↦ (let w = one_wanted_memory ended rest in (suc w.0, w.1, w.2, w.3))
    ]
