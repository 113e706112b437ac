-- What a transaction leaves after one more call and its answer.
use Rattle.tmw_runs.proofs.Shared.{A, IsWholeText, Kind, LeavesCalls, List, [], answers, append-nil, append_assoc, arith, drop, drop_more, false, get_or, is_abort, length, refl, subst, sym, true, ℕ, ◌++◌, ◌+◌, ◌<◌, ◌∷◌, ◌≡◌}

-- the answer is no abort event
pub leaves-answered : (calls : List Kind) (place : ℕ) (answer : Kind) (kinds : List Kind) → place < length calls
    → answers (get_or calls place A) answer ≡ true → is_abort answer ≡ false → LeavesCalls calls kinds (drop place calls)
    → LeavesCalls calls (kinds ++ get_or calls place A ∷ answer ∷ []) (drop (place + 1) calls)
leaves-answered calls place answer kinds low fits is leaves more whole =
    grind (arith, drop_more, append_assoc)

-- the answer is an abort event
pub leaves-aborted : (calls : List Kind) (place : ℕ) (answer : Kind) (kinds : List Kind) → place < length calls
    → answers (get_or calls place A) answer ≡ true → is_abort answer ≡ true → LeavesCalls calls kinds (drop place calls)
    → IsWholeText calls (kinds ++ get_or calls place A ∷ answer ∷ [])
leaves-aborted calls place answer kinds low fits is leaves = grind (arith, drop_more)

-- where no call is left the events are a whole text
pub whole-text : (calls kinds left : List Kind) → left ≡ [] → LeavesCalls calls kinds left → IsWholeText calls kinds
whole-text calls kinds left is leaves =
    subst (λ (k : List Kind). IsWholeText calls k) (append-nil kinds)
    (leaves [] (subst (λ (l : List Kind). IsWholeText l []) (sym is) refl))
