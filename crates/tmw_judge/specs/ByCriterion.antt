-- What is had for each of the criteria that are asked for, say a monitor.
use Rattle.tmw_judge.specs.Shared.{Asked, Criterion}
use Rattle.std.specs.Prelude.{◌≡◌}
use Rattle.tmw_judge.specs.declared.by_criterion.ByCriterion.{ByCriterion}
use Rattle.tmw_judge.specs.declared.by_criterion.ByCriterion.TheVariants.{Opacity, Strict, Both}
use Rattle.tmw_defs.specs.declared.criterion.Asked.TheVariants as asks
use Rattle.tmw_defs.specs.declared.criterion.Criterion.TheVariants as by

-- The criteria that it is had for.
abbrev pub asked_of : {T : Type 0} → ByCriterion T → Asked
asked_of (Opacity one) = asks.Opacity
asked_of (Strict one) = asks.Strict
asked_of (Both opacity strict) = asks.Both

-- This holds of each, by its criterion.
abbrev pub Each : {T : Type 0} → (Criterion → T → Type 0) → ByCriterion T → Type 0
Each Is (Opacity one) = Is by.Opacity one
Each Is (Strict one) = Is by.Strict one
Each Is (Both opacity strict) = Is by.Opacity opacity × Is by.Strict strict

-- They are for the criteria that are asked for, and this holds of each.
pub record AreFor {T : Type 0} (asked : Asked) (Is : Criterion → T → Type 0) (had : ByCriterion T) : Type 0 where
  pub all : asked_of had ≡ asked
  pub each : Each Is had
