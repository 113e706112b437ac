-- The text that was read is that of the words.
use Rattle.tmw_args.proofs.Shared.{first_value-rows, found_of, ◌∙◌}
use Rattle.tmw_args.proofs.parse.text_of.Goals as goal

pub returns : goal.returns
returns c = c.get_str.ensures ∙ first_value-rows (found_of c.args.matches.now) c.args.option.now
