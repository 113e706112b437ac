-- What each verdict says of a history in the field's words, from the definition of the verdict.
use Rattle.tmw_pump.proofs.Shared.{Criterion, Event, HasMany, IsFinalBy, IsFirst, IsFirstViolation, IsTooMany, IsVerdict, IsViolated, IsWithinBounds, List, Opacity, OpaqueSoFar, Rules, States, Undecided, Verdict, Violated, arith, cases_lt, inl, inr, length, rules, subst, sym, ℕ, ◌↔◌, ◌≡◌}
use Rattle.tmw_defs.proofs.VerdictProof.{verdict-one}
use Rattle.std.specs.Prelude.{take}
use Rattle.tmw_defs.specs.Opaque.{IsFinalOpaque, IsOpaque}

-- Where the criterion is opacity, final-state opacity is what is asked of a prefix.
final-opaque : (rules : Rules) (h : List Event) → rules.criterion ≡ Opacity → IsFinalBy rules.criterion rules.registers rules.start h
    → IsFinalOpaque rules.registers rules.start h
final-opaque rules h opacity final = subst (λ (c : Criterion). IsFinalBy c rules.registers rules.start h) opacity final

opaque-final : (rules : Rules) (h : List Event) → rules.criterion ≡ Opacity → IsFinalOpaque rules.registers rules.start h
    → IsFinalBy rules.criterion rules.registers rules.start h
opaque-final rules h opacity final = subst (λ (c : Criterion). IsFinalBy c rules.registers rules.start h) (sym opacity) final

-- opaque so far
pub opaque-fine : (rules : Rules) (h : List Event) → IsVerdict rules h OpaqueSoFar
    → IsOpaque rules.registers rules.start h × IsWithinBounds rules h (length h)
opaque-fine rules h (opacity, fine) =
    (λ n within. final-opaque rules (take n h) opacity (fine n within).final, λ k within. ((fine k within).narrow, (fine k within).few))

pub fine-opaque : (rules : Rules) (h : List Event) → rules.criterion ≡ Opacity
    → IsOpaque rules.registers rules.start h × IsWithinBounds rules h (length h) → IsVerdict rules h OpaqueSoFar
fine-opaque rules h opacity (opaque, bounds) = grind (arith, opaque-final, take)

-- A history that is violated at a length has not too many outcomes there: else it would be undecided.
few-violated : (rules : Rules) (h : List Event) (m : ℕ) → IsFirst IsViolated rules h m → HasMany rules (take m h) → ⊥
few-violated rules h m first many =
    let undecided : IsFirst IsTooMany rules h m = grind arith in
    absurd (cc (verdict-one rules h (Violated m) (Undecided m States) first undecided))

-- violated
pub violation-first : (rules : Rules) (h : List Event) (m : ℕ) → rules.criterion ≡ Opacity → IsFirst IsViolated rules h m
    → IsFirstViolation rules h m × IsWithinBounds rules h m
violation-first rules h m opacity first = (
  record {
    within = first.within;
    formed = first.here.formed;
    not_opaque = λ opaque. first.here.not_final (opaque-final rules (take m h) opacity opaque);
    before = λ k less. final-opaque rules (take k h) opacity (first.before k less).final;
  },
  λ k within. elim (cases_lt k m) [
    | inl less ↦ ((first.before k less).narrow, (first.before k less).few)
    | inr least ↦ grind (arith, take, few-violated)
  ],
)

pub first-violation : (rules : Rules) (h : List Event) (m : ℕ) → rules.criterion ≡ Opacity
    → IsFirstViolation rules h m × IsWithinBounds rules h m → IsFirst IsViolated rules h m
first-violation rules h m opacity (first, bounds) =
    grind (arith, final-opaque, take, opaque-final)

-- A verdict is another exactly where the history has that one.
pub verdict-is : (rules : Rules) (h : List Event) (v w : Verdict) → IsVerdict rules h v → (v ≡ w) ↔ IsVerdict rules h w
verdict-is rules h v w judged = (λ same. subst (IsVerdict rules h) same judged, λ other. verdict-one rules h v w judged other)
