-- The settings are those of three numbers and of the bounds.
use Rattle.tmw_args.proofs.Shared.{bounds_in, codes, count_in, found_of, refl, rows_of}
use Rattle.tmw_args.proofs.Bounds.{with_all}
use Rattle.tmw_args.proofs.parse.settings_of.Goals as goal

pub returns : goal.returns
returns c =
    let rows = rows_of (found_of c.args.bench.now) in
    with_all (count_in 1 4096 (codes "ring") rows) (count_in 1 1000000000 (codes "patience") rows)
    (count_in 1 1000000000 (codes "rounds") rows) (bounds_in rows) _ refl c.in_ok-cells.ensures.number c.in_ok-patience.ensures.number
    c.in_ok-rounds.ensures.number c.in_ok-bounds.ensures
