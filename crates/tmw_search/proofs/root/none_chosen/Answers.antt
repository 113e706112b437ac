use Rattle.tmw_search.proofs.Shared.{Open, get_or-replicate}
use Rattle.tmw_search.proofs.root.none_chosen.Goals as goal

pub returns : goal.returns
returns c = λ k within. get_or-replicate 64 k Open Open within
