use Rattle.tmw_search.proofs.Shared.{ap, arith, bit_at, bit_at-lt, bit_at_or, eq-eqb, eqb-true, same_from_bits, shr_and_one, sym, ◌∙◌}
use Rattle.tmw_search.proofs.Bits.{bit_cases}
use Rattle.tmw_search.proofs.layer_steps.is_next.Goals as goal

pub returns-then-mask-place-eq0 : goal.returns-then-mask-place-eq0
returns-then-mask-place-eq0 c =
    let mask = c.args.mask in
    let before = c.args.item.now.before in (
      λ same. record {
        new = sym (shr_and_one mask c.args.place) ∙ c.if-mask-place-eq0.true;
        later = λ i one. omega (arith, one, bit_at_or before mask i, ap (λ n. bit_at n i) (eqb-true _ mask same), bit_at-lt mask i);
      },
      λ comes. eq-eqb _ mask (same_from_bits _ mask (grind (arith, bit_cases, before, bit_at_or, mask, comes.later))),
    )
