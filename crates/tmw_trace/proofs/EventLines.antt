-- A text whose thread is no digit from 0 to 7 is the text of no event.
use Rattle.tmw_trace.proofs.Shared.{Event, Ix, List, ap, digit, event_text, get_or, ℕ, ◌≡◌}

pub no_thread : (bytes : List ℕ) (event : Event) → ((ix : Ix) → get_or bytes 0 0 ≡ digit ix → ⊥)
    → bytes ≡ event_text event → ⊥
no_thread bytes event none is = none event.thread (ap (λ xs. get_or xs 0 0) is)
