-- Each call has fewer transactions left to choose from, or as many and one of them chosen.
use Rattle.tmw_plain_check.proofs.Shared.{length, ◌*◌, ◌+◌}
use Rattle.tmw_plain_check.proofs.completion.+completions.Given as goal

abbrev pub decreases-goes_with : goal.decreases-goes_with
decreases-goes_with l = 2 * length l.behind.now

abbrev pub decreases-goes_on_with : goal.decreases-goes_on_with
decreases-goes_on_with l = 2 * length l.rest.now + 1
