-- What was counted of a judged front before and after one event more is judged.
use Rattle.tmw_pump.proofs.Shared.{Criterion, Event, Fits, IsFalse, IsOpen, IsTrue, IsVerdict, List, Monitor, Rules, Verdict, WasCounted, [], ap, arith, both_ways, cases_Bool, criterion_of, false, inl, inr, is_open, part_by, refl, rules, so_far, subst, sym, true, verdict_of, ℕ, ∥∥₁_map, ◌++◌, ◌∙◌, ◌∷◌, ◌≡◌}
use Rattle.tmw_counts.specs.Counter.{CountsSo}
use Rattle.tmw_counts.specs.declared.counter.Counter.{Counter}
use Rattle.tmw_counts.proofs.CountedPart.{counted-more, part-none, stays}
use Rattle.tmw_defs.specs.History.{is_well_formed}

-- a verdict that nothing is wrong is the criterion's
is_so_far : (rules : Rules) (h : List Event) (c : Criterion) (v : Verdict) → c ≡ rules.criterion → is_open v ≡ true → IsVerdict rules h v
    → v ≡ so_far c
is_so_far rules h c v same is judged = grind (arith, so_far)

module _ (h : List Event) (before after : Monitor) (criterion : criterion_of after ≡ criterion_of before) where
  -- a monitor with the same verdict was open before
  was_open : verdict_of after ≡ verdict_of before → IsOpen after → IsOpen before
  was_open same now = sym same ∙ now ∙ ap so_far criterion

  module _ (e : Event) (old new : Counter) where
    -- what the counter makes of an event, whatever it has counted
    abbrev pub Steps : Type 0
    Steps = (registers : ℕ) → CountsSo registers h old
        → (IsTrue (is_well_formed registers (h ++ e ∷ [])) → CountsSo registers (h ++ e ∷ []) new)
        × (IsFalse (is_well_formed registers (h ++ e ∷ [])) → CountsSo registers h new)

    -- where the event was taken
    pub counted_next : ((rules : Rules) → Fits rules h before → Fits rules (h ++ e ∷ []) after)
        → (is_open (verdict_of before) ≡ true → Steps) → (is_open (verdict_of before) ≡ false → new ≡ old)
        → ∥ WasCounted h before old ∥₁ → ∥ WasCounted (h ++ e ∷ []) after new ∥₁
    counted_next fits steps same counted = ∥∥₁_map counted (λ was.
        let now = fits was.rules was.fits in
        elim (cases_Bool (is_open (verdict_of before))) [
          | inl is ↦
              let number = was.same (is_so_far was.rules h (criterion_of before) (verdict_of before) was.fits.criterion is was.fits.judged) in
              let counts : CountsSo was.rules.registers (part_by (verdict_of before) h) old =
              subst (λ (n : ℕ). CountsSo n (part_by (verdict_of before) h) old) number was.counts in
              record {
                rules = was.rules;
                fits = now;
                registers = was.rules.registers;
                counts = counted-more CountsSo was.rules h e (verdict_of before) (verdict_of after) old new was.fits.judged now.judged counts
                    (λ _ formed so. (steps is was.rules.registers so).0 formed) (λ _ ill so. (steps is was.rules.registers so).1 ill)
                    (λ shut. absurd (both_ways _ shut is));
                same = λ _. refl;
              }
          | inr is ↦ record {
            rules = was.rules;
            fits = now;
            registers = was.registers;
            counts = counted-more (λ _ xs counter. CountsSo was.registers xs counter) was.rules h e (verdict_of before) (verdict_of after) old new
                was.fits.judged now.judged was.counts (λ now_open formed so. absurd (both_ways _ is now_open))
                (λ now_open ill so. absurd (both_ways _ is now_open)) same;
            same = λ now_open.
                was.same (was_open (stays was.rules h e (verdict_of before) (verdict_of after) is was.fits.judged now.judged) now_open);
          }
        ])

-- before the first event
pub counted_none : (monitor : Monitor) (counter : Counter) (rules : Rules) (registers : ℕ) → Fits rules [] monitor
    → CountsSo registers [] counter → (IsOpen monitor → registers ≡ rules.registers) → WasCounted [] monitor counter
counted_none monitor counter rules registers fits counts same =
    grind (arith, part-none, verdict_of)
