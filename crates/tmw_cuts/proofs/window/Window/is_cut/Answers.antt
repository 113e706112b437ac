-- The mask is full where each transaction has completed.
use Rattle.tmw_cuts.proofs.Shared.{ap, arith, length-take-le, ◌%◌, ◌*◌, ◌+◌, ◌==◌, ◌^◌, ◌∙◌}
use Rattle.tmw_cuts.proofs.OneEventMore.{cut_shift}
use Rattle.tmw_cuts.proofs.window.Window.is_cut.Goals as goal

pub returns : goal.returns
returns c events stands =
    let w = c.args.self.now in
    ap (λ n. n + 1 == 1 * 2 ^ w.count % 2 ^ 32) c.from.ensures ∙ cut_shift events w stands (length-take-le w.count w.slots (omega (arith, w.eight, w.few))) w.few
