use Rattle.tmw_reason.proofs.Shared.{inr, sym, ◌∙◌}
use Rattle.tmw_reason.proofs.derivation_search.find_cases.Goals as goal

pub returns-then-branch : goal.returns-then-branch
returns-then-branch c = record {
  are = c.in_ok-found.ensures;
  refute = inr (c.source-item.result, rw c.deref.ensures.value at (sym c.in_ok-is_split.ensures ∙ c.if-branch.true));
}
