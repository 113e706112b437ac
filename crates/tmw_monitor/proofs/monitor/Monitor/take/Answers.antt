-- What was taken at once left the history fine. What was not is of the history as before.
use Rattle.tmw_monitor.proofs.Shared.{Event, Fits, HistoryDigest, IsTrue, List, Monitor, Rules, StaysKept, [], false, inl, inr, so_far, sym, true, ◌++◌, ◌∙◌, ◌∷◌, ◌≡◌}
use Rattle.tmw_monitor.proofs.FeedOpen.{fits-next, fits-kept}
use Rattle.tmw_monitor.proofs.OnlyOpen.{keeps_only_open}
use Rattle.tmw_monitor.proofs.SoFar.{so_far-or}
use Rattle.tmw_monitor.proofs.monitor.Monitor.take.Goals.{else-is_known-via-then-is_known+else-take_at_once, else-is_known-via-else-is_known}
use Rattle.tmw_monitor.proofs.monitor.Monitor.take.Goals as goal

-- an order is known only while nothing is wrong
fine-of : (rules : Rules) (history : List Event) (monitor : Monitor) → IsTrue monitor.kept.witness.known
    → Fits rules history monitor → monitor.verdict ≡ so_far monitor.criterion
fine-of rules history monitor known fits = elim (so_far-or monitor.criterion monitor.verdict) [
  | inl fine ↦ fine
  | inr final ↦ absurd (let k : true ≡ false = sym known ∙ (fits.forgets final).order in cc)
]

fits-still : (rules : Rules) (history : List Event) (monitor : Monitor) (kept : HistoryDigest)
    → IsTrue monitor.kept.witness.known → StaysKept monitor.kept kept → Fits rules history monitor
    → Fits rules history (record monitor { kept = kept })
fits-still rules history monitor kept known stays fits =
    fits-kept rules history monitor kept fits (fine-of rules history monitor known fits) (stays rules history)

pub returns-then-take_at_once-clause-feeds : goal.returns-then-take_at_once-clause-feeds
returns-then-take_at_once-clause-feeds c judged_by history fits =
    let fine = fine-of judged_by history c.args.self.now (sym c.is_known.ensures.shown ∙ c.if-is_known.true) fits in
    fits-next judged_by history c.args.event c.args.self.now c.take_at_once.new.kept fits fine
    (c.take_at_once.ensures.taken c.if-take_at_once.true judged_by history fits.window fits.states (fits.keeps fine))

pub returns-then-take_at_once-clause-keeps : goal.returns-then-take_at_once-clause-keeps
returns-then-take_at_once-clause-keeps c judged_by history fits =
    keeps_only_open judged_by (history ++ c.args.event ∷ []) _ (returns-then-take_at_once-clause-feeds c judged_by history fits)

-- the monitor that is asked for what can't be taken at once stands for the same histories
fits-then : (c : goal.After-result-2-1) (rules : Rules) (history : List Event) → Fits rules history c.args.self.now
    → Fits rules history c.else-is_known.self
fits-then c rules history fits = elim c.else-is_known.branch [
  | else-is_known-via-then-is_known+else-take_at_once w ↦
      rw w.self-is (fits-still rules history c.args.self.now w.take_at_once.new.kept (sym c.is_known.ensures.shown ∙ w.if-is_known.true)
      (w.take_at_once.ensures.left w.if-take_at_once.false) fits)
  | else-is_known-via-else-is_known w ↦ rw w.self-is fits
]

pub returns-clause-feeds : goal.returns-clause-feeds
returns-clause-feeds c judged_by history fits = c.take_copy.ensures.feeds judged_by history (fits-then c judged_by history fits)

pub returns-clause-keeps : goal.returns-clause-keeps
returns-clause-keeps c judged_by history fits = c.take_copy.ensures.keeps judged_by history (fits-then c judged_by history fits)
