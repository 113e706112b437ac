use Rattle.tmw_search.proofs.completion_ends.+add_completions.Given as goal

abbrev pub decreases-add_completions : goal.decreases-add_completions
decreases-add_completions l = l.left
