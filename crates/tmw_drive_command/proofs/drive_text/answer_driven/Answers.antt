-- What was put is the trace, where it is asked for, and then the lines.
use Rattle.std.proofs.Common.{inl, ◌∙◌}
use Rattle.tmw_drive_command.proofs.drive_text.answer_driven.Goals as goal

pub returns-in-Ok-put_driven : goal.returns-in-Ok-put_driven
returns-in-Ok-put_driven g c =
    let lines = c.as_bytes.ensures.value ∙ c.in-Ok.ensures in
    let put = rw (lines, c.asks_for_trace.ensures) at c.in-Ok-put_driven.ensures in
    inl (inl (record { line = put.0; well = put.1; exit = c.status_of.ensures }))
