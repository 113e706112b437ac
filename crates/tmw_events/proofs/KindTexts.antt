-- A text whose register is no digit from 0 to 7 is the text of no kind.
use Rattle.tmw_events.proofs.Shared.{A, C, Ix, K, Kind, List, N, R, T, V, W, X, ap, arith, digit, get_or, kind_text, length, ℕ, ◌≡◌, ◌≤◌}

pub no_register : (bytes : List ℕ) (kind : Kind) → 3 ≤ length bytes → (get_or bytes 0 0 ≡ 86 → ⊥)
    → ((ix : Ix) → get_or bytes 2 0 ≡ digit ix → ⊥) → bytes ≡ kind_text kind → ⊥
no_register bytes (R r) long no_value none is = none r (ap (λ xs. get_or xs 2 0) is)
no_register bytes (V v) long no_value none is = no_value (ap (λ xs. get_or xs 0 0) is)
no_register bytes (W r v) long no_value none is = none r (ap (λ xs. get_or xs 2 0) is)
no_register bytes K long no_value none is = absurd (omega (arith, ap length is))
no_register bytes T long no_value none is = absurd (omega (arith, ap length is))
no_register bytes C long no_value none is = absurd (omega (arith, ap length is))
no_register bytes X long no_value none is = absurd (omega (arith, ap length is))
no_register bytes A long no_value none is = absurd (omega (arith, ap length is))
no_register bytes (N r v) long no_value none is = none r (ap (λ xs. get_or xs 2 0) is)
