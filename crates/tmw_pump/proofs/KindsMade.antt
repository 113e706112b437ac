-- The kinds of the events for which a writer's places in a log were claimed.
use Rattle.tmw_pump.proofs.Shared.{Event, List, [], arith, cases_Bool, made_from, refl, ℕ, ◌+◌, ◌∷◌, ◌≡◌}
use Rattle.tmw_defs.specs.ThreadTransactions.{kinds_of}
use Rattle.tmw_ring.specs.WriterKinds.{kinds_made}

-- the kinds of a writer's items of a log are those of its thread's events there, from whatever place they are counted
pub kinds_made-made_from : (writer place : ℕ) (log : List Event) → kinds_made (made_from writer place log) ≡ kinds_of writer log
kinds_made-made_from writer place [] = refl
kinds_made-made_from writer place (event ∷ log) =
    grind (arith, cases_Bool, (kinds_made-made_from writer (place + 1) log))
