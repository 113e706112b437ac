-- Which kind a letter, a register and a value ask for.
use Rattle.tmw_c.proofs.Shared.{A, C, K, N, OneKindLaw, R, T, V, W, X, ap, arith, refl, sym, ◌∙◌}
use Rattle.tmw_events.proofs.Same.{same_ix}
use Rattle.tmw_events.specs.declared.ix.Ix.{Ix}

pub one_kind : OneKindLaw
one_kind registers letter register value (R a1) (R a2) one other =
    ap (λ (ix : Ix). R ix) (same_ix a1 a2 (one.of_register.0 ∙ sym other.of_register.0))
one_kind registers letter register value (V v1) (V v2) one other = grind arith
one_kind registers letter register value (W a1 v1) (W a2 v2) one other =
    grind (arith, same_ix a1 a2 (one.of_register.0 ∙ sym other.of_register.0))
one_kind registers letter register value (N a1 v1) (N a2 v2) one other =
    grind (arith, same_ix a1 a2 (one.of_register.0 ∙ sym other.of_register.0))
one_kind registers letter register value K K one other = refl
one_kind registers letter register value T T one other = refl
one_kind registers letter register value C C one other = refl
one_kind registers letter register value X X one other = refl
one_kind registers letter register value A A one other = refl
one_kind registers letter register value _ _ one other = grind arith
