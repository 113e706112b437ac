-- That a text of steps has one size and one list of steps.
use Rattle.std.specs.Prelude.{◌≡◌, ℕ, List}
use Rattle.tmw_steps.specs.declared.size_line.SizeLine.{SizeLine}
use Rattle.tmw_ring_defs.specs.declared.ring_step.Step.{Step}
use Rattle.tmw_steps.specs.RunSteps.{IsStepsText}

-- Two lists of steps with one text have the same size and the same steps.
abbrev pub StepsLaw : Type 0
StepsLaw = (bytes : List ℕ) (size other_size : SizeLine) (steps other_steps : List Step) → IsStepsText bytes size steps
    → IsStepsText bytes other_size other_steps → (size ≡ other_size) × (steps ≡ other_steps)
