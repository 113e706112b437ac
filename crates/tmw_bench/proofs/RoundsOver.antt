-- Where no further round was begun, and how the threads have ended.
use Rattle.tmw_bench.proofs.Shared.{AreEndings, Ending, Event, Front, Headline, IsFine, IsOver, IsVerdict, Kind, List, None, OpaqueSoFar, Option, Refused, Rules, SomeStopped, Verdict, WriterIs, arith, ending_of, get_or, get_or-map, inl, inr, length, length-append, length-map, map, rules, subst, take-append-le, verdict-one, ℕ, ◌++◌, ◌<◌, ◌≡◌, ◌≢◌, ◌⊎◌}
use Rattle.tmw_bench.proofs.Whole.{some_stopped-endings}
use Rattle.tmw_defs.specs.declared.criterion.Criterion.TheVariants.{Opacity}
use Rattle.tmw_pump.proofs.Verdicts.{fine-opaque}

-- Each ending is that of its thread's refusal, if any.
pub are_endings-map : (scripts : List (List (List Kind))) (stops : List (Option Refused)) (ends : List Ending) → length stops ≡ length scripts
    → ends ≡ map ending_of stops → AreEndings scripts stops ends
are_endings-map scripts stops ends counted are =
    grind (arith, length, length-map, ending_of, get_or, get_or-map)

-- A log that is opaque so far begins with nothing that is not.
opaque-front : (rules : Rules) (front more log : List Event) (verdict : Verdict) → log ≡ front ++ more → IsVerdict rules front verdict
    → IsVerdict rules log OpaqueSoFar → verdict ≡ OpaqueSoFar
opaque-front rules front more log verdict is told opaque =
    let whole : IsVerdict rules (front ++ more) OpaqueSoFar = subst (λ (l : List Event). IsVerdict rules l OpaqueSoFar) is opaque in
    let part : IsVerdict rules front OpaqueSoFar = (
      whole.0,
      λ k within.
          subst (IsFine rules) (take-append-le k front more within)
          (whole.1 k (let longer = length-append front more in omega (arith, within, longer))),
    ) in
    verdict-one rules front verdict OpaqueSoFar told part

-- No further round could begin.
pub over-log : (rules : Rules) (scripts : List (List (List Kind))) (stops : List (Option Refused)) (ends : List Ending) (front : Front)
    (more log : List Event) (writers : List WriterIs) (verdict : Verdict) → rules.criterion ≡ Opacity → length stops ≡ length scripts → AreEndings scripts stops ends
    → log ≡ front.judged.items ++ more → IsVerdict rules front.judged.items front.monitor.verdict → Headline rules log writers log verdict
    → IsOver stops front → (verdict ≢ OpaqueSoFar) ⊎ SomeStopped ends
over-log rules scripts stops ends front more log writers verdict opacity counted endings is told headline over =
    elim over [
      | inl stop ↦
          inr (some_stopped-endings scripts stops ends stop.thread stop.refused (subst (λ (n : ℕ). stop.thread < n) counted stop.low)
          (stop.stopped None) endings)
      | inr wrong ↦
          inl (λ opaque. wrong (opaque-front rules front.judged.items more log front.monitor.verdict is told
          (fine-opaque rules log opacity (headline.opaque.0 opaque))))
    ]
