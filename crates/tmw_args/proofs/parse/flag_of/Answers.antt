-- The flag that was read is that of the words.
use Rattle.tmw_args.proofs.Shared.{found_of}
use Rattle.tmw_args.proofs.Flags.{read-flag}
use Rattle.tmw_args.proofs.parse.flag_of.Goals as goal

pub returns : goal.returns
returns c = read-flag _ (found_of c.args.matches.now) c.args.name.now c.get_one.result c.get_one.ensures.none c.get_one.ensures.value
