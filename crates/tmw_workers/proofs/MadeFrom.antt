-- The places that a writer has claimed in a log: of a log in two parts, and between which lengths they lie.
use Rattle.tmw_workers.proofs.Shared.{All, All-nil, Event, List, Made, [], ap, arith, cases_Bool, length, ℕ, ◌++◌, ◌+◌, ◌<◌, ◌∷◌, ◌≡◌, ◌≤◌}
use Rattle.tmw_ring.specs.SeatPart.{made_from}

pub made_from-append : (writer place : ℕ) (front back : List Event)
    → made_from writer place (front ++ back) ≡ made_from writer place front ++ made_from writer (place + length front) back
made_from-append writer place [] back = ap (λ (from : ℕ). made_from writer from back) (omega arith)
made_from-append writer place (event ∷ front) back =
    grind (arith, made_from, length, cases_Bool, (made_from-append writer (place + 1) front back))

-- none stands before the place from which they are counted
pub later_made : (writer start place : ℕ) (log : List Event) → start ≤ place → All (λ made. start ≤ made.place) (made_from writer place log)
later_made writer start place [] from = All-nil (λ (made : Made). start ≤ made.place)
later_made writer start place (event ∷ log) from =
    let more = later_made writer start (place + 1) log (omega (arith, from)) in
    grind (arith, cases_Bool, made_from)

-- and all stand before the log's end
pub earlier_made : (writer place bound : ℕ) (log : List Event) → place + length log ≤ bound
    → All (λ made. made.place < bound) (made_from writer place log)
earlier_made writer place bound [] upto = All-nil (λ (made : Made). made.place < bound)
earlier_made writer place bound (event ∷ log) upto =
    let more = earlier_made writer (place + 1) bound log (omega (arith, upto)) in
    grind (arith, cases_Bool, made_from)
