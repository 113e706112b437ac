-- What `steps` promises: from the bytes that its source tells to what its sink takes and the exit status.
use Rattle.std.specs.Prelude.{◌≡◌, ◌⊎◌, ℕ, List, length, Result, Ok, Err}
use Rattle.tmw_lines.specs.TextFault.{HasTextFault}
use Rattle.tmw_ring_defs.specs.RingMachine.{new_machine, after, replies}
use Rattle.tmw_ring_defs.specs.RingSize.{HasRoom, HasLimit, HasNumbers}
use Rattle.tmw_ring_defs.specs.declared.ring_size.RingSize.{RingSize}
use Rattle.tmw_ring_defs.specs.declared.ring_step.Step.{Step}
use Rattle.tmw_report.specs.CommandRun.{AnswersTextFault, IsCommandRun}
use Rattle.tmw_streams.specs.Streams.{FromSource, ToSink}
use Rattle.tmw_report.specs.declared.fault.Fault.{Fault}
use Rattle.tmw_report.specs.declared.fault.Fault.TheVariants.{Size, Limit, Memory}
use Rattle.tmw_steps.specs.ReplyText.{replies_text}
use Rattle.tmw_steps.specs.Text.{steps_grammar, steps_text, AreSteps}
use Rattle.tmw_steps.specs.declared.steps_command.RingRun.{RingRun}
use Rattle.tmw_steps.specs.declared.size_line.SizeLine.{SizeLine}

-- Of these steps a new ring's machine of the size of these numbers makes this run.
pub record IsRunOf (line : SizeLine) (steps : List Step) (run : RingRun) : Type 0 where
  pub size : RingSize
  pub sized : HasNumbers line.cells line.writers line.limit size
  pub replies : run.replies.items ≡ replies steps (new_machine size)
  pub log : run.log ≡ length (after steps (new_machine size)).core.log
  pub taken : run.taken ≡ length (after steps (new_machine size)).core.taken

-- No ring has this size, and the fault says why: its number of cells or of writers, or else its limit of places.
abbrev pub IsRefused : SizeLine → Fault → Type 0
IsRefused size fault =
    ((fault ≡ Size) × (HasRoom size.cells size.writers → ⊥))
    ⊎ ((fault ≡ Limit) × HasRoom size.cells size.writers × (HasLimit size.writers size.limit → ⊥))

-- What the machine makes of these steps; `Memory` answers want of memory, of which only tests show that a growth was refused.
abbrev pub IsMade : SizeLine → List Step → Result RingRun Fault → Type 0
IsMade size steps (Ok run) = IsRunOf size steps run
IsMade size steps (Err fault) = IsRefused size fault ⊎ (fault ≡ Memory)

-- The bytes are the text of a size and steps.
pub record IsStepsText (bytes : List ℕ) (size : SizeLine) (steps : List Step) : Type 0 where
  pub are_steps : AreSteps size steps
  pub text : bytes ≡ steps_text size steps

-- This answers the bytes that a source told, which are all its bytes where `Ended` holds: the run of the steps of which they are
-- the text, and there is but one such list (`law_steps`); that no ring has the size that they give; or the first fault that they
-- have. `Io` answers a failed read after bytes that have no fault, and `Memory` want of memory, of which only tests show that a
-- growth was refused.
abbrev pub AnswersSteps : Type 0 → List ℕ → Result RingRun Fault → Type 0
AnswersSteps Ended bytes (Ok run) =
    Ended × (size : SizeLine) × (steps : List Step) × IsStepsText bytes size steps × IsRunOf size steps run
AnswersSteps Ended bytes (Err fault) =
    AnswersTextFault (HasTextFault steps_grammar Ended bytes) fault
    ⊎ (Ended × (size : SizeLine) × (steps : List Step) × IsStepsText bytes size steps × IsRefused size fault)

-- What is written of a run, and the exit status that goes with it.
abbrev pub run_text : RingRun → List ℕ
run_text run = replies_text run.replies.items run.log run.taken

abbrev pub run_status : RingRun → ℕ
run_status run = 0

-- What a run of `steps` does: an answer to the bytes that its source tells in it, and the answer's text to its sink.
abbrev pub RunsSteps : {S K : Type 0} → FromSource S → ToSink K → S → S → K → K → ℕ → Type 0
RunsSteps From To = IsCommandRun From To AnswersSteps run_text run_status
