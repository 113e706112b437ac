-- The line is the text of the object of the ends, and its line feed.
use Rattle.std.proofs.Common.{◌∙◌}
use Rattle.tmw_drive_command.proofs.EndsLines.{ends_object-line}
use Rattle.tmw_drive_command.proofs.ends_line.ends_text.Goals as goal

pub returns : goal.returns
unfolding lib.Utf8.encode
returns c =
    c.in_ok-push.ensures.bytes ∙ ends_object-line c.args.ends.now _ _ c.in_ok-object_of.ensures c.in_ok-line.ensures.text
