-- All registers begin at 0, in either version.
use Rattle.tmw_drive_command.proofs.Zeros.{is_start-zeros}
use Rattle.tmw_drive_command.proofs.drive_run.header_of.Goals as goal

pub invariant_of-result : goal.invariant_of-result
invariant_of-result c = record { starts = is_start-zeros c.version_of.result c.args.registers.number }
