-- The next verdict is that of the history with the event.
use Rattle.tmw_monitor.proofs.Shared.{[], arith, length, rules, so_far, ◌++◌, ◌∙◌, ◌∷◌, ◌≡◌}
use Rattle.tmw_monitor.proofs.FeedOpen.{concluded, fits-final}
use Rattle.tmw_monitor.proofs.OnlyOpen.{keeps_only_open}
use Rattle.tmw_monitor.proofs.monitor.Monitor.take_whole.Goals as goal

pub returns-clause-feeds : goal.returns-clause-feeds
returns-clause-feeds c judged_by history fits =
    let old = c.args.self.now in
    let fine : old.verdict ≡ so_far old.criterion = search rules in
    let n : old.count ≡ length history = fits.counted in
    let keeps = fits.keeps fine in
    concluded judged_by history c.args.event old c.conclude.new.self c.next_wrong-wrong.new.kept c.next_wrong-wrong.new.broken c.next_wrong-wrong.result
    fits fine (c.next_wrong-wrong.ensures.tells judged_by history fits.criterion fits.window fits.states (omega (arith, n)) keeps)
    (c.next_wrong-wrong.ensures.breaks judged_by history fits.criterion fits.window fits.states (omega (arith, n)) (fits.whole fine) keeps)
    c.next_wrong-wrong.ensures.whole c.conclude.ensures

pub returns-clause-keeps : goal.returns-clause-keeps
returns-clause-keeps c judged_by history fits = keeps_only_open judged_by (history ++ c.args.event ∷ []) _ (returns-clause-feeds c judged_by history fits)

pub returns-then-not-is_so_far-clause-feeds : goal.returns-then-not-is_so_far-clause-feeds
returns-then-not-is_so_far-clause-feeds c judged_by history fits =
    let final : c.args.self.now.verdict ≡ so_far c.args.self.now.criterion → ⊥ = search rules in
    let n : c.args.self.now.count ≡ length history = fits.counted in
    let nothing = fits.forgets final in
    fits-final judged_by history c.args.event c.args.self.now _ _ fits final
    (record { states = nothing.states; found = nothing.found; transactions = c.follow.ensures.shown ∙ nothing.transactions; order = nothing.order })
    (c.follow.ensures.tells judged_by.registers history (omega (arith, n)) (fits.breaks final))
