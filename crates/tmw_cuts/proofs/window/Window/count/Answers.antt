-- It shows as many transactions as are counted.
use Rattle.tmw_cuts.proofs.Shared.{Window, ap, arith, count_of, length, length-map, length-take-le, sym, txns_of, view, ◌∙◌, ◌≡◌}
use Rattle.tmw_cuts.proofs.OneEventMore.{length-views_of}
use Rattle.tmw_cuts.proofs.window.Window.count.Goals as goal

counted : (w : Window) → w.count ≡ count_of w
counted w = sym (length-map (txns_of w) view ∙ length-take-le w.count w.slots (omega (arith, w.eight, w.few)))

pub returns-clause-shown : goal.returns-clause-shown
returns-clause-shown c = counted c.args.self.now

pub returns-clause-stands : goal.returns-clause-stands
returns-clause-stands c events stands = counted c.args.self.now ∙ ap length stands.shows ∙ length-views_of events
