-- The line of the counts came after those of the replies.
use Rattle.tmw_steps.proofs.Shared.{Puts-more, counts_text, lines_text}
use Rattle.tmw_lines.specs.LineFeeds.{line}
use Rattle.tmw_steps.proofs.reply_line.put_replies.Goals as goal

pub returns : goal.returns
returns g c =
    Puts-more g.K.Sink.to c.args.sink.now c.put_lines.new.sink (lines_text c.args.replies.now)
    (line (counts_text c.args.log c.args.taken)) c.put_counts.new.sink c.put_counts.result
    c.in_ok-put_lines.ensures c.put_counts.ensures
