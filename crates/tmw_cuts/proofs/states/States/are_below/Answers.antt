-- The last one decides, since the set rises.
use Rattle.tmw_cuts.proofs.Shared.{[], arith, get_or, length, nat_cmp, nat_list_cmp_total, refl, slice_cmp, sym, ℕ, ◌+◌, ◌-◌, ◌∙◌, ◌≡◌}
use Rattle.tmw_cuts.proofs.StrictOrder.{above-each}
use Rattle.std.proofs.Common.{Less}
use Rattle.tmw_cuts.proofs.states.States.are_below.Goals as goal

pub returns-in-Less : goal.returns-in-Less
returns-in-Less c =
    let items = c.args.self.now.items.items in
    let last : (i : ℕ) → i + 1 ≡ length items → slice_cmp nat_cmp (get_or items i []) c.args.state.now ≡ Less = λ i is.
    let at : i ≡ length items - 1 = omega (arith, is) in
    rw at (sym (rw c.states-items.ensures.members at c.cmp.ensures) ∙ c.in-Less.is) in (
      λ less. above-each nat_list_cmp_total [] items c.args.state.now c.args.self.now.rising last,
      λ below. refl,
    )
