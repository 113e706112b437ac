-- The answers that a thread records stand for those that the memory gives.
use Rattle.tmw_runs.specs.Shared.{A, C, K, Kind, N, R, T, V, W, X, ends}
use Rattle.std.specs.Prelude.{Bool, IsTrue, List, [], true, ◌++◌, ◌∷◌, ◌≡◌, ◌⊎◌}
use Rattle.tmw_tm.specs.Answers.{Call, Answer}
use Rattle.tmw_tm.specs.Answers.Call.{Begin, Read, Write, Add, Commit}
use Rattle.tmw_tm.specs.Answers.Answer.{Value, Done, Abort}

-- The recorded answer to a recorded call, as one that the memory gives: the value of a read or an add, that a write or a commit
-- was carried out, or that the transaction has aborted. The abort event after an abort request asks nothing of the memory.
abbrev pub Gives : (Call → Answer → Type 0) → Kind → Kind → Type 0
Gives gives (R r) (V v) = gives (Read r) (Value v)
Gives gives (R r) A = gives (Read r) Abort
Gives gives (W r v) K = gives (Write r v) Done
Gives gives (W r v) A = gives (Write r v) Abort
Gives gives (N r d) (V v) = gives (Add r d) (Value v)
Gives gives (N r d) A = gives (Add r d) Abort
Gives gives T C = gives Commit Done
Gives gives T A = gives Commit Abort
Gives gives X A = Unit {0}
Gives gives _ _ = ⊥

-- An answer stands when the memory gives it to its call and, where the call is the first of its transaction, gives a done
-- begin. The abort event after a first call, an abort request too, stands also when the memory gives an abort to
-- the transaction's begin.
abbrev pub Stands : (Call → Answer → Type 0) → Bool → Kind → Kind → Type 0
Stands gives first call answer =
    ((IsTrue first → gives Begin Done) × Gives gives call answer) ⊎ (IsTrue first × (answer ≡ A) × gives Begin Abort)

-- Each answer among a thread's events stands; the next call is, or is not, the first of its transaction. A last call without
-- an answer asks nothing.
abbrev pub AllStand : (Call → Answer → Type 0) → Bool → List Kind → Type 0
AllStand gives first [] = Unit {0}
AllStand gives first (call ∷ []) = Unit {0}
AllStand gives first (call ∷ answer ∷ more) = Stands gives first call answer × AllStand gives (ends answer) more

-- The answers so far stand, and so does what follows them if it stands by itself, its next call the first of its transaction
-- or not.
abbrev pub StandsSoFar : (Call → Answer → Type 0) → List Kind → Bool → Type 0
StandsSoFar gives kinds first = (more : List Kind) → AllStand gives first more → AllStand gives true (kinds ++ more)
