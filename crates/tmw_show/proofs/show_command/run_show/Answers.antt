-- A text for which there is no memory is answered by that fault: what was told is a trace's text.
use Rattle.tmw_show.proofs.Shared.{Err, Memory, Ok, inl, inr, refl}
use Rattle.tmw_report.proofs.Remarks.{remarked_run}
use Rattle.tmw_show.proofs.ShowAnswers.{trace-soon}
use Rattle.tmw_lines.specs.declared.text_fault.TextFault.TheVariants.{Memory as WantsMemory}
use Rattle.tmw_show.proofs.show_command.run_show.Goals as goal

pub returns-in-Ok : goal.returns-in-Ok
returns-in-Ok g c =
    let told = c.in-Ok.ensures.right in
    elim c.answer_shown.ensures [
      | inl put ↦ remarked_run told.0 (Ok c.in-Ok.shown) told.1 told.2 c.in-Ok.ensures.failures put.0 (rw told.3 at put.1)
      | inr put ↦
          let memory = trace-soon told.2.1.header told.2.1.history told.0 told.2.1.are_events told.2.1.text in
          remarked_run told.0 (Err Memory) told.1 (WantsMemory, refl, memory) c.in-Ok.ensures.failures put.0 (rw told.3 at put.1)
    ]

pub returns-in-Err : goal.returns-in-Err
returns-in-Err g c =
    let told = c.in-Err.ensures.right in
    remarked_run told.0 (Err c.in-Err.fault) told.1 told.2 c.in-Err.ensures.failures c.answer_fault.ensures told.3
