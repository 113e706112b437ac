-- The line is the text of the object of the counts, and its line feed.
use Rattle.tmw_report.proofs.Shared.{◌∙◌}
use Rattle.tmw_report.proofs.SummaryLines.{summary_object-line}
use Rattle.tmw_report.proofs.summary_line.summary_text.Goals as goal

pub returns : goal.returns
unfolding lib.Utf8.encode
returns c =
    c.in_ok-push.ensures.bytes
    ∙ summary_object-line c.args.counts.now _ _ c.in_ok-object_of.ensures c.in_ok-line.ensures.text
