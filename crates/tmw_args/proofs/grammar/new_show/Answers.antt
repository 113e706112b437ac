-- Each step adds its options to those that are there.
use Rattle.tmw_args.proofs.Shared.{ap, App, codes, IfOk-weaker, Names, with_before, with_bounds, with_criterion, with_flag, ◌∙◌}
use Rattle.tmw_args.proofs.grammar.new_show.Goals as goal

pub returns : goal.returns
returns c =
    let given = c.in_ok-judged.ensures ∙ ap (λ (app : App). with_criterion (Names c.args.criteria) app) c.described-show.ensures in
    let traced = c.in_ok-traced.ensures ∙ ap (λ (app : App). with_flag (codes "trace") app) given in
    let paged = c.in_ok-paged.ensures ∙ ap (λ (app : App). with_flag (codes "page") app) traced in
    let explained = c.in_ok-with_flag.ensures ∙ ap (λ (app : App). with_flag (codes "why") app) paged in
    let numbered = c.in_ok-with_before.ensures ∙ ap with_before explained in
    IfOk-weaker c.with_bounds.result _ _ (λ command bounded. bounded ∙ ap with_bounds numbered) c.with_bounds.ensures
