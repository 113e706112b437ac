-- What is answered where the judges have been fed what is read of a trace, and where its lines find no memory.
use Rattle.tmw_judge.proofs.Shared.{AreEvents, AreFed, AreJudged, AreReports, Asked, Bool, Bounds, ByCriterion, CountsFor, Event, HasFaultFor, HasSummary, Header, IsAnswer, IsReadFor, JudgeResult, Judges, List, Memory, Option, Report, Summary, Verdict, [], append-nil, arith, counted_part, false, inl, inr, refl, subst, sym, told_verdicts, true, verdicts_of, ℕ, ◌∙◌, ◌≡◌}
use Rattle.tmw_monitor.specs.BrokenRule.{TellsBroken}
use Rattle.tmw_monitor.specs.declared.broken_rule.BrokenRule.{BrokenRule}
use Rattle.tmw_judge.proofs.CountedPart.{told-same}
use Rattle.tmw_judge.proofs.FirstOpen.{AreOpenBefore-open, open-told}

-- The judges have been fed the history that is judged.
pub record AreJudgesOf {C F : Type 0} (first : Bool) (Counts : CountsFor C) (bounds : Bounds) (asked : Asked) (Ended : Type 0) (bytes : List ℕ)
    (judges : Judges C F) : Type 0 where
  pub header : Header
  pub history : List Event
  pub are_events : AreEvents header history
  pub read : IsReadFor first bounds asked Ended bytes header history (verdicts_of judges.monitors)
  pub judged : AreJudged Counts header bounds asked history judges

-- The reports are those of the monitors, and the counts those of the counter.
pub answer-fed : {C F : Type 0} (first : Bool) (Counts : CountsFor C) (counted : Bool) (bounds : Bounds) (asked : Asked) (Ended : Type 0) (bytes : List ℕ)
    (judges : Judges C F) (reports : ByCriterion Report) (summary : Option Summary) (broken : Option BrokenRule)
    → ((header : Header) (bounds : Bounds) (asked : Asked) (history : List Event) → AreFed header bounds asked history judges.monitors
    → AreReports header bounds asked history reports)
    → ((registers : ℕ) (history : List Event) → Counts registers history judges.counting → HasSummary counted history summary)
    → ((header : Header) (bounds : Bounds) (asked : Asked) (history : List Event) → AreFed header bounds asked history judges.monitors
    → TellsBroken header.registers.number history broken)
    → AreJudgesOf first Counts bounds asked Ended bytes judges
    → IsAnswer first counted bounds asked Ended bytes (record { reports = reports; summary = summary; broken = broken })
answer-fed first Counts counted bounds asked Ended bytes judges reports summary broken tells sums breaks fed =
    let tell = tells fed.header bounds asked fed.history fed.judged.fed in
    let same : verdicts_of judges.monitors ≡ told_verdicts reports
    = told-same fed.header bounds asked fed.history judges.monitors reports fed.judged.fed tell in
    record {
      header = fed.header;
      history = fed.history;
      are_events = fed.are_events;
      read = subst (λ (vs : ByCriterion Verdict). IsReadFor first bounds asked Ended bytes fed.header fed.history vs) same fed.read;
      tell = tell;
      counts = subst (λ (vs : ByCriterion Verdict). HasSummary counted (counted_part vs fed.history) summary) same
          (sums fed.header.registers.number (counted_part (verdicts_of judges.monitors) fed.history) fed.judged.counted);
      broken = breaks fed.header bounds asked fed.history fed.judged.fed;
    }

module _ (summary : Bool) (bounds : Bounds) (asked : Asked) (Ended : Type 0) (bytes : List ℕ) (answer : JudgeResult) where
  -- what was read ends soon behind whole lines, and no verdict was final before the last of them
  pub memory-fault : (first : Bool) → IsAnswer first summary bounds asked Ended bytes answer → HasFaultFor first bounds asked Ended bytes Memory
  memory-fault false is = record {
    begun = record { header = is.header; items = is.history; are_lines = is.are_events; rest = []; split = is.read.text ∙ sym (append-nil _) };
    soon = omega arith;
  }
  memory-fault true is = inr (inr (
    refl,
    elim is.read [
      | inl part ↦ record {
        soon = record {
          begun = record { header = is.header; items = is.history; are_lines = is.are_events; rest = part.rest; split = part.text };
          soon = part.few;
        };
        before = part.before;
      }
      | inr whole ↦ record {
        soon = record {
          begun = record { header = is.header; items = is.history; are_lines = is.are_events; rest = []; split = whole.0.text ∙ sym (append-nil _) };
          soon = omega arith;
        };
        before = AreOpenBefore-open is.header bounds asked is.history
            (open-told is.header bounds is.history asked answer.reports is.tell whole.1);
      }
    ],
  ))
