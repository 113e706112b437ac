use Rattle.tmw_reason.proofs.Shared.{inr, sym, ◌∙◌}
use Rattle.tmw_reason.proofs.derivation_search.refute_each.Goals as goal

pub returns-then-branch : goal.returns-then-branch
returns-then-branch c = λ is. inr (c.source-item.result, sym c.in_ok-is_split.ensures ∙ c.if-branch.true)
