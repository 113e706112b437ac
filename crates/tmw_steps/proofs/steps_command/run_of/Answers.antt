-- The bytes told are the text of the steps that were made.
use Rattle.tmw_steps.proofs.Shared.{refl, steps_text}
use Rattle.tmw_steps.proofs.RunSteps.{made-answers}
use Rattle.tmw_steps.proofs.steps_command.run_of.Goals as goal

pub returns-in-Ok-clause-right : goal.returns-in-Ok-clause-right
returns-in-Ok-clause-right g c =
    let size = c.in-Ok.list.size in
    let steps = c.in-Ok.list.steps.items in
    let bytes = steps_text size steps in (
      bytes,
      c.in-Ok.ensures.text,
      made-answers (g.S.Source.from.ended c.read_steps.new.source) bytes size steps c.made_of.result c.in-Ok.ensures.ended
          (record { are_steps = c.in-Ok.ensures.steps; text = refl }) c.made_of.ensures,
    )
