-- What a run of a command does: from the bytes that its source tells to what its sink takes and the exit status.
use Rattle.tmw_report.specs.Shared.{FromSource, Tells, TextFault, ToSink}
use Rattle.std.specs.Prelude.{◌≡◌, ℕ, List, Result, Ok, Err}
use Rattle.tmw_report.specs.Lines.{fault_line}
use Rattle.tmw_report.specs.SendText.{IsPut, fault_of, failures_behind}
use Rattle.tmw_report.specs.declared.fault.Fault.{Fault}

-- This answers a text by a fault that the text has.
abbrev pub AnswersTextFault : (TextFault → Type 0) → Fault → Type 0
AnswersTextFault Has fault = (told : TextFault) × (fault ≡ fault_of told) × Has told

-- A source's count of failures after this answer: one more for a failed read, else as before.
abbrev pub failures_after_answer : {Found : Type 0} → Result Found Fault → ℕ → ℕ
failures_after_answer (Ok found) count = count
failures_after_answer (Err fault) count = failures_behind fault count

-- What is written in answer: the text of what was found, or the fault's line.
abbrev pub answer_text : {Found : Type 0} → (Found → List ℕ) → Result Found Fault → List ℕ
answer_text text (Ok found) = text found
answer_text text (Err fault) = fault_line fault

-- The exit status that goes with it: each fault has the same.
abbrev pub answer_status : {Found : Type 0} → (Found → ℕ) → Result Found Fault → ℕ
answer_status exit (Ok found) = exit found
answer_status exit (Err fault) = 4

-- There is an answer that is right of the bytes which the source told in the run, all of them where it has ended. A failed read
-- was counted where the answer is that one failed. The sink took the answer's text, and the status is the answer's; or a write
-- failed, and it took a beginning.
pub record IsCommandRun {S K Found : Type 0} (From : FromSource S) (To : ToSink K)
    (IsRight : Type 0 → List ℕ → Result Found Fault → Type 0) (text : Found → List ℕ) (exit : Found → ℕ)
    (source source_after : S) (sink sink_after : K) (status : ℕ) : Type 0 where
  pub bytes : List ℕ
  pub answer : Result Found Fault
  pub told : Tells From source bytes source_after
  pub right : IsRight (From.ended source_after) bytes answer
  pub failures : From.failures source_after ≡ failures_after_answer answer (From.failures source)
  pub put : IsPut To sink sink_after (answer_text text answer) (answer_status exit answer) status
