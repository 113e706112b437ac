use Rattle.tmw_c.proofs.Shared.{rules, ◌∙◌}
use Rattle.tmw_c.proofs.judge.report_held.Goals as goal

pub returns-clause-some : goal.returns-clause-some
returns-clause-some c = record {
  watch = c.in-Open.watch;
  opened = search rules;
  verdict = c.report.result.verdict;
  is_told = record {
    counted = c.of.ensures.counted ∙ c.report.ensures.events;
    number = c.of.ensures.number;
    prefix = c.of.ensures.prefix;
    bound = c.of.ensures.bound;
  };
  tells = c.report.ensures.verdict;
  headline = c.report.ensures.headline;
}
