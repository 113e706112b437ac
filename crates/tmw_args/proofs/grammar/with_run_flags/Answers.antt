-- Each step adds its flag to those that are there.
use Rattle.tmw_args.proofs.Shared.{ap, App, codes, IfOk-weaker, with_flag, ◌∙◌}
use Rattle.tmw_args.proofs.grammar.with_run_flags.Goals as goal

pub returns : goal.returns
returns c =
    let alone = c.in_ok-alone.ensures ∙ ap (λ (app : App). with_flag (codes "trace-only") app) c.in_ok-traced.ensures in
    IfOk-weaker c.with_flag-3.result _ _ (λ command flagged. flagged ∙ ap (λ (app : App). with_flag (codes "summary") app) alone) c.with_flag-3.ensures
