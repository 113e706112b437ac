-- What was put is the trace, and then the two lines.
use Rattle.tmw_command.proofs.Shared.{ap, inl, ◌∙◌}
use Rattle.tmw_report.specs.Remark.{nothing_shown_if}
use Rattle.tmw_command.proofs.bench.bench_text.answer_run.Goals as goal

pub returns-in-Ok-put_driven : goal.returns-in-Ok-put_driven
returns-in-Ok-put_driven g c =
    let lines = c.as_bytes.ensures.value ∙ c.in-Ok.ensures in
    let put = rw lines at c.in-Ok-put_driven.ensures in
    let remark = c.nothing_shown_if.ensures ∙ ap nothing_shown_if c.shows_nothing-nothing_shown.ensures in
    inl (inl (record { line = put.0; well = put.1; exit = c.status_of.ensures }), rw remark at c.send_remark.ensures)
