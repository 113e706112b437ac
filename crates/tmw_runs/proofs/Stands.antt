-- Answers that stand so far, step by step.
use Rattle.tmw_runs.proofs.Shared.{AllStand, Answer, Bool, Call, Kind, List, Stands, StandsSoFar, [], append-nil, append_assoc, arith, ends, subst, true, ◌++◌, ◌∷◌}

-- at the start the next call is the first of its transaction
pub so_far_none : (gives : Call → Answer → Type 0) → StandsSoFar gives [] true
so_far_none gives more stand = stand

-- a call, and an answer to it that stands
pub so_far_answered : (gives : Call → Answer → Type 0) (kinds : List Kind) (first : Bool) (call answer : Kind)
    → StandsSoFar gives kinds first → Stands gives first call answer
    → StandsSoFar gives (kinds ++ call ∷ answer ∷ []) (ends answer)
so_far_answered gives kinds first call answer so_far stands more stand = grind (arith, append_assoc)

-- all the answers stand
pub so_far_all : (gives : Call → Answer → Type 0) (kinds : List Kind) (first : Bool) → StandsSoFar gives kinds first
    → AllStand gives true kinds
so_far_all gives kinds first so_far = subst (AllStand gives true) (append-nil kinds) (so_far [] tt)

-- and still do with a call after them
pub so_far_called : (gives : Call → Answer → Type 0) (kinds : List Kind) (first : Bool) (call : Kind)
    → StandsSoFar gives kinds first → AllStand gives true (kinds ++ call ∷ [])
so_far_called gives kinds first call so_far = so_far (call ∷ []) tt

pub stands-more : (gives more : Call → Answer → Type 0) → ((call : Call) (answer : Answer) → gives call answer → more call answer)
    → (first : Bool) (call answer : Kind) → Stands gives first call answer → Stands more first call answer
stands-more gives more larger first call answer stands = grind arith

pub all_stand-more : (gives more : Call → Answer → Type 0) → ((call : Call) (answer : Answer) → gives call answer → more call answer)
    → (first : Bool) (kinds : List Kind) → AllStand gives first kinds → AllStand more first kinds
all_stand-more gives more larger first [] stand = tt
all_stand-more gives more larger first (call ∷ []) stand = tt
all_stand-more gives more larger first (call ∷ answer ∷ kinds) stand =
    (stands-more gives more larger first call answer stand.0, all_stand-more gives more larger (ends answer) kinds stand.1)
