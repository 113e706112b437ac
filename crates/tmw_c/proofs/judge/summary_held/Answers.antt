use Rattle.tmw_c.proofs.Shared.{rules}
use Rattle.tmw_c.proofs.judge.summary_held.Goals as goal

pub returns-clause-some : goal.returns-clause-some
returns-clause-some c = record {
  watch = c.in-Open.watch;
  opened = search rules;
  summary = c.summary.result;
  is_told = c.of.ensures;
  shown = c.summary.ensures;
}
