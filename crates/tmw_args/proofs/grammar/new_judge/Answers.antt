-- Each step adds its options to those that are there.
use Rattle.tmw_args.proofs.Shared.{ap, App, codes, IfOk-weaker, Names, with_bounds, with_criterion, with_flag, ◌∙◌}
use Rattle.tmw_args.proofs.grammar.new_judge.Goals as goal

pub returns : goal.returns
returns c =
    let given = c.in_ok-judged.ensures ∙ ap (λ (app : App). with_criterion (Names c.args.criteria) app) c.described-judge.ensures in
    let counted = c.in_ok-counted.ensures ∙ ap (λ (app : App). with_flag (codes "summary") app) given in
    let ended = c.in_ok-with_flag.ensures ∙ ap (λ (app : App). with_flag (codes "first") app) counted in
    IfOk-weaker c.with_bounds.result _ _ (λ command bounded. bounded ∙ ap with_bounds ended) c.with_bounds.ensures
