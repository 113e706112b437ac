use Rattle.std.proofs.Common.{◌==◌}
use Rattle.tmw_texts.proofs.Places.{any-position}
use Rattle.tmw_texts.proofs.value_names.LongValues.has.Goals as goal

pub returns : goal.returns
returns c = rw (c.is_some.ensures, c.place_of.ensures) (any-position (λ other. other == c.args.value) c.args.self.now)
