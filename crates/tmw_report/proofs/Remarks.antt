-- A run that was remarked on, of what is known of it.
use Rattle.std.specs.Prelude.{◌≡◌, ℕ, List, Result}
use Rattle.tmw_report.specs.CommandRun.{answer_status, answer_text, failures_after_answer}
use Rattle.tmw_report.specs.Remark.{IsRemarkedRun}
use Rattle.tmw_report.specs.SendText.{IsPut}
use Rattle.tmw_report.specs.declared.fault.Fault.{Fault}
use Rattle.tmw_streams.specs.Streams.{FromSource, ToSink}
use Rattle.tmw_streams.specs.Transfers.{Tells}

pub remarked_run : {S K E Found : Type 0} {From : FromSource S} {To : ToSink K} {IsRight : Type 0 → List ℕ → Result Found Fault → Type 0}
    {text : Found → List ℕ} {exit : Found → ℕ} {IsRemarked : List ℕ → Result Found Fault → E → E → Type 0} {source source_after : S}
    {sink sink_after : K} {errors errors_after : E} {status : ℕ} (bytes : List ℕ) (answer : Result Found Fault) → Tells From source bytes source_after
    → IsRight (From.ended source_after) bytes answer → From.failures source_after ≡ failures_after_answer answer (From.failures source)
    → IsPut To sink sink_after (answer_text text answer) (answer_status exit answer) status → IsRemarked bytes answer errors errors_after
    → IsRemarkedRun From To IsRight text exit IsRemarked source source_after sink sink_after errors errors_after status
remarked_run bytes answer told right failures put remarked = record {
  run = record { bytes = bytes; answer = answer; told = told; right = right; failures = failures; put = put };
  remarked = remarked;
}
