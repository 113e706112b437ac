-- A run of `judge` that ends at no verdict and counts nothing answers by its reports alone.
use Rattle.tmw_judge.proofs.Shared.{AnswersBy, AnswersTrace, Asked, Bool, Bounds, ByCriterion, Err, Event, FromSource, HasSummary, IsPut, JudgeResult, JudgesBytes, JudgesWith, List, Ok, Option, Report, Result, Summary, ToSink, all_open, append-nil, arith, counted_part, false, judged_lines, judged_status, lacking_lines, plain, refl, report_lines, report_status, subst, summary_lines, told_verdicts, ℕ, ◌++◌, ◌∙◌, ◌≡◌}
use Rattle.tmw_report.specs.declared.fault.Fault.{Fault}
use Rattle.tmw_report.specs.CommandRun.{answer_status, answer_text, failures_after_answer}

abbrev reports_in : Result JudgeResult Fault → Result (ByCriterion Report) Fault
reports_in (Ok answer) = Ok answer.reports
reports_in (Err fault) = Err fault

no_counts : (is_fine : Bool) (part : List Event) (summary : Option Summary) (lines : List ℕ) → HasSummary false part summary
    → (lines ++ summary_lines summary) ++ lacking_lines is_fine summary ≡ lines
no_counts is_fine part summary lines is = grind (arith, append-nil)

same_failures : (answer : Result JudgeResult Fault) (count : ℕ) → failures_after_answer answer count ≡ failures_after_answer (reports_in answer) count
same_failures answer count = grind arith

same_status : (answer : Result JudgeResult Fault) → answer_status judged_status answer ≡ answer_status report_status (reports_in answer)
same_status answer = grind arith

module _ (bounds : Bounds) (asked : Asked) (Ended : Type 0) (bytes : List ℕ) where
  right : (answer : Result JudgeResult Fault) → AnswersBy false false bounds asked Ended bytes answer
      → AnswersTrace bounds asked Ended bytes (reports_in answer)
  right (Ok answer) is = (
    is.read.ended,
    record { header = is.header; history = is.history; are_events = is.are_events; text = is.read.text; tell = is.tell },
  )
  right (Err fault) is = is

  same_text : (answer : Result JudgeResult Fault) → AnswersBy false false bounds asked Ended bytes answer
      → answer_text judged_lines answer ≡ answer_text report_lines (reports_in answer)
  same_text (Ok answer) is =
      no_counts (all_open (told_verdicts answer.reports)) (counted_part (told_verdicts answer.reports) is.history) answer.summary (report_lines answer.reports) is.counts
  same_text (Err fault) is = refl

pub judges_plain : {S K E : Type 0} (From : FromSource S) (To : ToSink K) (Errors : ToSink E) (bounds : Bounds) (asked : Asked)
    (source source_after : S) (sink sink_after : K) (errors errors_after : E) (status : ℕ)
    → JudgesWith From To Errors (plain bounds asked) source source_after sink sink_after errors errors_after status
    → JudgesBytes From To bounds asked source source_after sink sink_after status
judges_plain From To Errors bounds asked source source_after sink sink_after errors errors_after status judged =
    let run = judged.run in record {
      bytes = run.bytes;
      answer = reports_in run.answer;
      told = run.told;
      right = right bounds asked (From.ended source_after) run.bytes run.answer run.right;
      failures = run.failures ∙ same_failures run.answer (From.failures source);
      put = subst (λ (wanted : ℕ). IsPut To sink sink_after (answer_text report_lines (reports_in run.answer)) wanted status) (same_status run.answer)
          (subst (λ (text : List ℕ). IsPut To sink sink_after text (answer_status judged_status run.answer) status)
          (same_text bounds asked (From.ended source_after) run.bytes run.answer run.right) run.put);
    }
