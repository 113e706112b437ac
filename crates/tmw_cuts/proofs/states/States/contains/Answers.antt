-- A binary search finds the state exactly where the set has it.
use Rattle.tmw_cuts.proofs.Shared.{exact_bytes, nat_list_cmp_total}
use Rattle.tmw_cuts.proofs.StrictOrder.{found_by_search}
use Rattle.tmw_cuts.proofs.states.States.contains.Goals as goal

pub returns : goal.returns
returns c =
    rw c.is_ok.ensures.value
    (found_by_search nat_list_cmp_total exact_bytes _ _ _ _ c.deref.ensures.value c.args.self.now.rising
    c.binary_search.ensures.bound c.binary_search.ensures.position)
