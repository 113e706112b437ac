-- Nothing was judged, so nothing was counted.
use Rattle.tmw_pump.proofs.Shared.{Event, List, WasCounted, WasFed, [], ap, arith, length, subst, sym}
use Rattle.tmw_pump.proofs.CountOn.{counted_none}
use Rattle.tmw_pump.proofs.front.Front.new.Goals as goal

pub invariant_of-result : goal.invariant_of-result
invariant_of-result c =
    let monitor = c.args.monitor in
    let (by, fits) = c.requires.fed in
    let none = c.new.ensures in
    let size = ap (λ (l : List Event). length l) none in record {
      opacity = c.requires.opacity;
      fed = ∣ subst (λ (l : List Event). WasFed l monitor) (sym none) c.requires.fed ∣₁;
      counted = ∣ subst (λ (l : List Event). WasCounted l monitor c.new-counter.result) (sym none)
          (counted_none monitor c.new-counter.result by c.registers.result.number fits c.new-counter.ensures
          (λ is. c.registers.ensures by [] fits is)) ∣₁;
      few = omega (arith, size);
    }
