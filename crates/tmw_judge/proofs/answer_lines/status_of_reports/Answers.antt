use Rattle.tmw_judge.proofs.Shared.{rules}
use Rattle.tmw_judge.proofs.answer_lines.status_of_reports.Goals as goal

pub returns-in-Both : goal.returns-in-Both
returns-in-Both c = search rules
