use Rattle.tmw_cuts.proofs.Shared.{bit_at-trailing_zeros, w8}
use Rattle.tmw_cuts.proofs.lowest_bit.lowest.Goals as goal

pub returns-clause-among : goal.returns-clause-among
returns-clause-among c = (bit_at-trailing_zeros w8 c.args.mask c.requires c.ranges.mask.fits).1

pub returns-clause-lowest : goal.returns-clause-lowest
returns-clause-lowest c = (bit_at-trailing_zeros w8 c.args.mask c.requires c.ranges.mask.fits).2
