-- At a cut no thread has an open transaction.
use Rattle.tmw_cuts.proofs.Shared.{refl}
use Rattle.tmw_cuts.proofs.OneEventMore.{cleared}
use Rattle.tmw_cuts.proofs.window.Window.clear.Goals as goal

pub returns-clause-stands : goal.returns-clause-stands
returns-clause-stands c events stands cut = cleared events c.args.self.now _ stands cut (λ t. refl) refl refl
