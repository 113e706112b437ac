-- Where the report's line found no memory, that fault answers, which is right of all bytes.
use Rattle.std.proofs.Common.{Err, Ok, inl, inr}
use Rattle.tmw_report.specs.declared.fault.Fault.TheVariants.{Memory}
use Rattle.tmw_drive_command.proofs.drive_command.run_drive.Goals as goal

pub returns-in-Ok : goal.returns-in-Ok
returns-in-Ok g c =
    let told = c.in-Ok.ensures.right in
    elim c.answer_driven.ensures [
      | inl put ↦ record { bytes = told.0; answer = Ok c.in-Ok.driven; told = told.1; right = told.2; failures = c.in-Ok.ensures.failures; put = put }
      | inr put ↦ record { bytes = told.0; answer = Err Memory; told = told.1; right = tt; failures = c.in-Ok.ensures.failures; put = put }
    ]
