-- The bounds are those of both numbers.
use Rattle.tmw_args.proofs.Shared.{codes, count_in, found_of, refl, rows_of}
use Rattle.tmw_args.proofs.Bounds.{with_both}
use Rattle.tmw_args.proofs.parse.bounds_of.Goals as goal

pub returns : goal.returns
returns c =
    let rows = rows_of (found_of c.args.matches.now) in
    with_both (count_in 1 8 (codes "window") rows) (count_in 1 64 (codes "states") rows) _ c.in_ok-window.window c.in_ok-states.states refl refl
    c.in_ok-window.ensures.number c.in_ok-states.ensures.number
