-- Histories with which nothing is wrong by one of the criteria that are asked for: their prefixes are such too.
use Rattle.tmw_judge.proofs.Shared.{AreFed, AreOpen, AreOpenBefore, AreReports, Asked, Bounds, ByCriterion, Event, Header, List, Monitors, Report, Verdict, [], any_open, arith, fine_of, inl, inr, is_open, length-push, opacity_of, or_cases, refl, rules, strict_of, subst, take, take-push, told_verdicts, trace_rules, true, verdict_of, verdicts_of, ℕ, ◌++◌, ◌∷◌, ◌≡◌}
use Rattle.tmw_judge.specs.declared.by_criterion.ByCriterion.TheVariants.{Both, Opacity, Strict}
use Rattle.std.proofs.lemmas.List.{length-take, take-take}
use Rattle.tmw_defs.specs.declared.verdict.Verdict.TheVariants.{OpaqueSoFar, StrictSoFar}
use Rattle.tmw_defs.specs.Verdict.{AreFine, IsVerdict, Rules}
use Rattle.tmw_judge.specs.declared.monitors.Monitors.TheVariants as monitors
use Rattle.tmw_defs.specs.declared.criterion.Asked.TheVariants as asks
use Rattle.tmw_defs.specs.declared.criterion.Criterion.TheVariants as by

-- where nothing is wrong with any prefix, nothing is with a prefix's prefixes
fine-prefix : (rules : Rules) (h : List Event) (j : ℕ) → AreFine rules h → AreFine rules (take j h)
fine-prefix rules h j fine = grind (arith, length-take, take-take)

module _ (header : Header) (bounds : Bounds) where
  -- each prefix of an open history is open
  pub open-prefix : (asked : Asked) (h : List Event) (k : ℕ) → AreOpen header bounds asked h → AreOpen header bounds asked (take k h)
  open-prefix asks.Opacity h k is = (is.0, fine-prefix (trace_rules header bounds by.Opacity) h k is.1)
  open-prefix asks.Strict h k is = (is.0, fine-prefix (trace_rules header bounds by.Strict) h k is.1)
  open-prefix asks.Both h k (inl is) = inl (is.0, fine-prefix (trace_rules header bounds by.Opacity) h k is.1)
  open-prefix asks.Both h k (inr is) = inr (is.0, fine-prefix (trace_rules header bounds by.Strict) h k is.1)

  module _ (asked : Asked) where
    -- nothing is shorter than no event
    pub AreOpenBefore-none : AreOpenBefore header bounds asked []
    AreOpenBefore-none = λ k less. absurd (omega (arith, less))

    -- before an open history
    pub AreOpenBefore-open : (h : List Event) → AreOpen header bounds asked h → AreOpenBefore header bounds asked h
    AreOpenBefore-open h is = λ k less. open-prefix asked h k is

    -- and with one event more
    pub AreOpenBefore-push : (h : List Event) (e : Event) → AreOpen header bounds asked h → AreOpenBefore header bounds asked (h ++ e ∷ [])
    AreOpenBefore-push h e is = λ k less.
        let long = length-push h e in
        rw (take-push k h e (omega (arith, less, long))) (open-prefix asked h k is)

  module _ (h : List Event) where
    opaque-fine : (v : Verdict) → is_open v ≡ true → IsVerdict (trace_rules header bounds by.Opacity) h v
        → IsVerdict (trace_rules header bounds by.Opacity) h OpaqueSoFar
    opaque-fine v is judged = (refl, fine_of (trace_rules header bounds by.Opacity) h v is judged)

    strict-fine : (v : Verdict) → is_open v ≡ true → IsVerdict (trace_rules header bounds by.Strict) h v
        → IsVerdict (trace_rules header bounds by.Strict) h StrictSoFar
    strict-fine v is judged = (refl, fine_of (trace_rules header bounds by.Strict) h v is judged)

    module _ (asked : Asked) where
      -- where one of the monitors is open, the history is
      pub open-fed : (had : Monitors) → AreFed header bounds asked h had → any_open (verdicts_of had) ≡ true
          → AreOpen header bounds asked h
      open-fed (monitors.Opacity m) fed is =
          subst (λ (a : Asked). AreOpen header bounds a h) fed.all (opaque-fine (verdict_of m) is fed.each.judged)
      open-fed (monitors.Strict m) fed is =
          subst (λ (a : Asked). AreOpen header bounds a h) fed.all (strict-fine (verdict_of m) is fed.each.judged)
      open-fed (monitors.Both both) fed is =
          let (one, other) : Verdict × Verdict = (verdict_of (opacity_of both), verdict_of (strict_of both)) in
          subst (λ (a : Asked). AreOpen header bounds a h) fed.all (elim (or_cases (is_open one) (is_open other) is) [
            | inl fine ↦ inl (opaque-fine one fine fed.each.opacity.judged)
            | inr fine ↦ inr (strict-fine other fine fed.each.strict.judged)
          ])

      -- and where one of the reports is
      pub open-told : (reports : ByCriterion Report) → AreReports header bounds asked h reports → any_open (told_verdicts reports) ≡ true
          → AreOpen header bounds asked h
      open-told (Opacity r) tell is =
          subst (λ (a : Asked). AreOpen header bounds a h) tell.all (opaque-fine r.verdict is tell.each.judged)
      open-told (Strict r) tell is =
          subst (λ (a : Asked). AreOpen header bounds a h) tell.all (strict-fine r.verdict is tell.each.judged)
      open-told (Both r s) tell is =
          subst (λ (a : Asked). AreOpen header bounds a h) tell.all (elim (or_cases (is_open r.verdict) (is_open s.verdict) is) [
            | inl one ↦ inl (opaque-fine r.verdict one tell.each.0.judged)
            | inr one ↦ inr (strict-fine s.verdict one tell.each.1.judged)
          ])
