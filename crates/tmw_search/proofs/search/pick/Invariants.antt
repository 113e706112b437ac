use Rattle.tmw_search.proofs.Shared.{IfSome, In, IsBranch, IsRead, None, Open, bit_at, effects, source_at, ℕ, ◌<◌, ◌≡◌}
use Rattle.tmw_search.proofs.search.pick.Given as goal

-- Where none is found yet, no read of the transactions before this one is open, nor one of its own that is not left.
abbrev pub invariant-loop-left : goal.invariant-loop-left
invariant-loop-left l = record {
  some : IfSome l.best (λ b. IsBranch (effects l.items) l.start l.may l.node b);
  below : l.best ≡ None → (a r : ℕ) → a < l.j → r < 8 → IsRead l.node.choices a r → source_at l.node.choices a r ≡ Open → ⊥;
  here : l.best ≡ None → (r : ℕ) → r < 8 → IsRead l.node.choices l.j r → bit_at l.left r ≡ 0 → source_at l.node.choices l.j r ≡ Open → ⊥;
  among : (r : ℕ) → In l.left r → IsRead l.node.choices l.j r;
}

abbrev pub decreases-loop-left : goal.decreases-loop-left
decreases-loop-left l = l.left

abbrev pub invariant-loop-j : goal.invariant-loop-j
invariant-loop-j l = record {
  some : IfSome l.best (λ b. IsBranch (effects l.items) l.start l.may l.node b);
  below : l.best ≡ None → (a r : ℕ) → a < l.j → r < 8 → IsRead l.node.choices a r → source_at l.node.choices a r ≡ Open → ⊥;
}
