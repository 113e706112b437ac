-- The answer is written, or, where its lines found no memory, that fault.
use Rattle.tmw_judge.proofs.Shared.{Err, Ok, inl, inr, refl}
use Rattle.tmw_report.proofs.Remarks.{remarked_run}
use Rattle.tmw_report.specs.declared.fault.Fault.TheVariants.{Memory}
use Rattle.tmw_judge.proofs.AnswerParts.{memory-fault}
use Rattle.tmw_lines.specs.declared.text_fault.TextFault.TheVariants.{Memory as WantsMemory}
use Rattle.tmw_judge.proofs.judge_command.run_judge_with.Goals as goal

pub returns-in-Ok : goal.returns-in-Ok
returns-in-Ok g c =
    let told = c.in-Ok.ensures.right in
    elim c.write_answer.ensures [
      | inl done ↦ remarked_run told.0 (Ok c.in-Ok.answer) told.1 told.2 c.in-Ok.ensures.failures done.0 (rw told.3 at done.1)
      | inr done ↦
          let memory = memory-fault c.args.options.summary c.args.options.bounds c.args.options.asked _ told.0 c.in-Ok.answer
          c.args.options.first told.2 in
          remarked_run told.0 (Err Memory) told.1 (WantsMemory, refl, memory) c.in-Ok.ensures.failures done.0 (rw told.3 at done.1)
    ]

pub returns-in-Err : goal.returns-in-Err
returns-in-Err g c =
    let told = c.in-Err.ensures.right in
    remarked_run told.0 (Err c.in-Err.fault) told.1 told.2 c.in-Err.ensures.failures c.answer_fault.ensures told.3
