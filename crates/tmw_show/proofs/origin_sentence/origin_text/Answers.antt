use Rattle.tmw_show.proofs.Shared.{rules}
use Rattle.tmw_show.proofs.origin_sentence.origin_text.Goals as goal

pub returns : goal.returns
returns c = rw (c.in-Some.is, ← c.fate_text-fate.ensures, ← c.get-register.ensures.value) (search rules)
