-- What a writer has claimed in whole rounds, one round after another, and where writers meet in between.
use Rattle.tmw_workers.proofs.Shared.{All, All-append, All-nil, Answer, Call, HasMet, HasPlayed, HasPlayedLast, HasWorked, IsReady, Kind, List, Made, None, Option, Refused, WriterIs, [], arith, last_bound, subst, sym, ℕ, ◌<◌, ◌∷◌, ◌≡◌}

-- a ready writer's thread has carried its script out, to its end or up to where it was stopped
pub played_last-worked : (gives : Call → Answer → Type 0) (script : List (List Kind)) (bounds : List ℕ) (old : WriterIs) (stop : Option Refused)
    (new : WriterIs) → IsReady gives script bounds old → HasWorked gives script old stop new
    → HasPlayedLast gives script bounds new.made stop new
played_last-worked gives script bounds old stop new ready worked = grind arith

-- where it was not stopped, and the writers have met behind what it had seen, its round is over
pub ready-met : (gives : Call → Answer → Type 0) (script : List (List Kind)) (bounds : List ℕ) (tail : ℕ) (old : WriterIs) (stop : Option Refused)
    (new : WriterIs) → stop ≡ None → HasPlayedLast gives script bounds old.made stop old → HasMet tail old new
    → IsReady gives script (tail ∷ bounds) new
ready-met gives script bounds tail old stop new not_stopped last met = grind arith

-- what was claimed in whole rounds stands before the end of the last of them
pub earlier_played : (gives : Call → Answer → Type 0) (script : List (List Kind)) (bounds : List ℕ) (made : List Made)
    → HasPlayed gives script bounds made → All (λ made. made.place < last_bound bounds) made
earlier_played gives script [] made none_made = subst (All (λ (m : Made). m.place < 0)) (sym none_made) (All-nil (λ (m : Made). m.place < 0))
earlier_played gives script (bound ∷ bounds) made (old, fresh, split, played, round) =
    let before = earlier_played gives script bounds old played in
    let lower : All (λ m. m.place < bound) old = λ place fallback low. omega (arith, before place fallback low, round.rises) in
    subst (All (λ (m : Made). m.place < bound)) (sym split) (All-append (λ (m : Made). m.place < bound) old fresh lower round.earlier)
