-- The law of the two criteria.
use Rattle.tmw_defs.proofs.Shared.{Criterion, Event, IsFinalBy, IsStrict, IsVerdict, List, Rules, Strict, StrictSoFar, rules, subst, sym, take, ◌↔◌, ◌≡◌}
use Rattle.tmw_defs.specs.CriteriaLaw.{CriteriaLaw, PassesNoBound}
use Rattle.tmw_defs.proofs.Weaker.{strict-opaque}

so_far : (rules : Rules) (h : List Event) → rules.criterion ≡ Strict
    → IsVerdict rules h StrictSoFar ↔ (IsStrict rules.registers rules.start h × PassesNoBound rules h)
so_far rules h strict = (
  λ (is, fine). (
    λ n within. subst (λ (c : Criterion). IsFinalBy c rules.registers rules.start (take n h)) strict (fine n within).final,
    λ k within. ((fine k within).narrow, (fine k within).few),
  ),
  λ (all, bounds). (
    strict,
    λ k within. record {
      narrow = (bounds k within).0;
      few = (bounds k within).1;
      final = subst (λ (c : Criterion). IsFinalBy c rules.registers rules.start (take k h)) (sym strict) (all k within);
    },
  ),
)

pub criteria_law : CriteriaLaw
criteria_law = record { weaker = strict-opaque; so_far = so_far }
