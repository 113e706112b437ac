-- The builder says which part of the command it changes.
use Rattle.tmw_args.proofs.Shared.{ap₂, IfOk-weaker, refl, with_rule, ◌∙◌}
use Rattle.tmw_args.proofs.grammar.with_criterion.Goals as goal

pub returns : goal.returns
returns c =
    IfOk-weaker c.arg.result _ _
    (λ command added. added.shape c.value_option-criterion.ensures.local ∙ ap₂ with_rule refl c.value_option-criterion.ensures.rule) c.arg.ensures
