-- Words that are had are run by their reading, and else the fault is answered.
use Rattle.tmw_command.proofs.Shared.{rules}
use Rattle.tmw_command.proofs.command_run.run_command.Goals as goal

pub returns-in-Ok : goal.returns-in-Ok
returns-in-Ok g c =
    let read = rw c.deref.ensures.value at c.read_words.ensures in rw c.in-Ok.is (search rules)

pub returns-in-Ok-read_words : goal.returns-in-Ok-read_words
returns-in-Ok-read_words g c =
    let read = rw c.deref.ensures.value at c.read_words.ensures in rw c.in-Ok.is (search rules)
