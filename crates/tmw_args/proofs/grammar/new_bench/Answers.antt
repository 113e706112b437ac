-- Each step adds its options to those that are there.
use Rattle.tmw_args.proofs.Shared.{ap, App, codes, IfOk-weaker, Names, with_bounds, with_counts, with_flag, with_memory, ◌∙◌}
use Rattle.tmw_args.proofs.grammar.new_bench.Goals as goal

pub returns : goal.returns
returns c =
    let given = c.in_ok-remembered.ensures ∙ ap (λ (app : App). with_memory (Names c.args.memories) app) c.described-bench.ensures in
    let shown = c.in_ok-shown.ensures ∙ ap (λ (app : App). with_flag (codes "show") app) given in
    let explained = c.in_ok-explained.ensures ∙ ap (λ (app : App). with_flag (codes "why") app) shown in
    let quiet = c.in_ok-quiet.ensures ∙ ap (λ (app : App). with_flag (codes "quiet") app) explained in
    let counted = c.in_ok-with_counts.ensures ∙ ap with_counts quiet in
    IfOk-weaker c.with_bounds.result _ _ (λ command bounded. bounded ∙ ap with_bounds counted) c.with_bounds.ensures
