-- Where nothing is wrong, the history is well-formed, and else it is as told.
use Rattle.tmw_monitor.proofs.Shared.{BrokenRule, Contains, Event, List, None, Option, Some, TellsBroken, TellsFollowed, Window, inl, inr, members, ℕ}
use Rattle.tmw_monitor.proofs.OpenWindow.{follows_whole}
use Rattle.tmw_monitor.proofs.SoFar.{so_far-or}
use Rattle.tmw_monitor.proofs.monitor.Monitor.broken.Goals as goal

told : (registers : ℕ) (history : List Event) (window : Window) (broken : Option BrokenRule) → TellsFollowed registers history window broken
    → TellsBroken registers history broken
told registers history window None follows = follows.formed
told registers history window (Some broken) is = is

pub returns : goal.returns
returns c rules history fits =
    let monitor = c.args.self.now in
    elim (so_far-or monitor.criterion monitor.verdict) [
      | inl fine ↦
          let keeps = fits.keeps fine in
          rw (fits.whole fine)
          (follows_whole rules (Contains (members monitor.kept.states)) keeps.cut history monitor.kept.window keeps.sums_up keeps.number keeps.stands).formed
      | inr final ↦ told rules.registers history monitor.kept.window monitor.broken (fits.breaks final)
    ]
