use Rattle.tmw_show.proofs.Shared.{rules}
use Rattle.tmw_show.proofs.page.json.about_json.Goals as goal

pub returns : goal.returns
returns c = rw (← c.in_ok-line.ensures, ← c.criterion_name-name.ensures, ← c.get-registers.ensures.value) (search rules)
