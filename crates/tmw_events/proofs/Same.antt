-- A number below 8 names one thread or register.
use Rattle.tmw_events.proofs.Shared.{Ix, ap, subst, ℕ, ◌<◌, ◌≡◌}
use Rattle.std.proofs.Math.Bridge.{le_prop}

-- a number below 8 is one thread or register
pub same_ix : (a b : Ix) → a.number ≡ b.number → a ≡ b
same_ix a b same =
    let made : (n : ℕ) → n < 8 → Ix = λ n below. record { number = n; below = below } in
    let P : ℕ → Type 0 = λ n. (below : n < 8) → a ≡ made n below in
    subst P same (λ below. ap (made a.number) (le_prop a.below below)) b.below
