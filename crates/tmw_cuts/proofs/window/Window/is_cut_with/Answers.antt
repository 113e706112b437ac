-- The mask is full with the place where each transaction has completed.
use Rattle.tmw_cuts.proofs.Shared.{ap, arith, bit_or, length-take-le, ◌%◌, ◌*◌, ◌+◌, ◌==◌, ◌^◌, ◌∙◌}
use Rattle.tmw_cuts.proofs.OneEventMore.{cut_with}
use Rattle.tmw_cuts.proofs.window.Window.is_cut_with.Goals as goal

pub returns : goal.returns
returns c events event stands next =
    let w = c.args.self.now in
    ap (λ n. n + 1 == 1 * 2 ^ w.count % 2 ^ 32) (c.from.ensures ∙ ap (bit_or w.completed) c.bit_of.ensures)
    ∙ cut_with events event w c.args.place stands next (length-take-le w.count w.slots (omega (arith, w.eight, w.few))) w.few
