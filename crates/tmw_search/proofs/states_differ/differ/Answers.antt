-- One register more decides, if it is of the mask.
use Rattle.tmw_search.proofs.Shared.{Bool, IsFalse, arith, bit_and, bit_at, cases_lt, inl, inr, shr_and_one, slice_index, sym, ℕ, ◌/◌, ◌==◌, ◌^◌, ◌↔◌, ◌∙◌, ◌≡◌}
use Rattle.std.proofs.Common.{◌&&◌, ◌||◌, not}
use Rattle.tmw_search.proofs.states_differ.differ.Goals as goal

turns : (d : Bool) (x y b : ℕ) → IsFalse (d || (not (x == y) && (b == 1))) ↔ (IsFalse d × (b ≡ 1 → x ≡ y))
turns d x y b = grind arith

pub loop-r-preserved : goal.loop-r-preserved
loop-r-preserved c =
    let r = c.loop-r.r in
    let bit : bit_and (c.args.mask / 2 ^ r) 1 ≡ bit_at c.args.mask r = shr_and_one c.args.mask r in
    let turn = turns c.loop-r.differ (slice_index c.args.one.now r) (slice_index c.args.other.now r) (bit_and (c.args.mask / 2 ^ r) 1) in (
      λ none q below has. elim (cases_lt q r) [
        | inl less ↦ c.loop-r.invariant.0 (turn.0 none).0 q less has
        | inr above ↦
            let is : q ≡ r = omega (arith, above, below) in
            rw is ((turn.0 none).1 (bit ∙ (rw is at has)))
      ],
      λ all. turn.1 (c.loop-r.invariant.1 (λ q less has. all q (omega (arith, less)) has), λ one. all r (omega arith) (sym bit ∙ one)),
    )
