-- What an entry of the order adds to the log, and what a whole order does.
use Rattle.tmw_drive.proofs.Shared.{All, All-append, All-cons, All-head, All-nil, All-tail, DoesEntry, Drives, Event, Kind, List, [], ap, append-nil, append_assoc, arith, inl, inr, kinds_of, kinds_of-append, length, length-append, script_at, subst, sym, ℕ, ◌*◌, ◌++◌, ◌+◌, ◌<◌, ◌∷◌, ◌≡◌, ◌≤◌}

-- a call and its answer are pushed one after the other
pub pushed-pair : (log reserved once twice : List Event) (call answer : Event) → reserved ≡ log → once ≡ reserved ++ call ∷ []
    → twice ≡ once ++ answer ∷ [] → twice ≡ log ++ call ∷ answer ∷ []
pushed-pair log reserved once twice call answer same one two = grind (arith, append_assoc)

-- a call and its answer come to their own thread's events
pub kinds_of-pair_own : (thread : ℕ) (log : List Event) (call answer : Event) → call.thread.number ≡ thread
    → answer.thread.number ≡ thread → kinds_of thread (log ++ call ∷ answer ∷ []) ≡ kinds_of thread log ++ call.kind ∷ answer.kind ∷ []
kinds_of-pair_own thread log call answer one other = grind (arith, kinds_of-append)

-- and to no other thread's
pub kinds_of-pair_other : (thread : ℕ) (log : List Event) (call answer : Event) → (call.thread.number ≡ thread → ⊥)
    → (answer.thread.number ≡ thread → ⊥) → kinds_of thread (log ++ call ∷ answer ∷ []) ≡ kinds_of thread log
kinds_of-pair_other thread log call answer one other = grind (arith, kinds_of-append, append-nil)

-- an entry of one thread leaves the events of another
pub kinds_of-entry_other : (script : List (List Kind)) (thread other : ℕ) (before after : List Event)
    → DoesEntry script thread before after → (thread ≡ other → ⊥) → kinds_of other after ≡ kinds_of other before
kinds_of-entry_other script thread other before after h1 apart = grind (arith, kinds_of-pair_other)

-- an entry adds at most two events, all of its thread
length-entry : (script : List (List Kind)) (thread : ℕ) (before after : List Event) → DoesEntry script thread before after
    → length after ≤ length before + 2
length-entry script thread before after h1 = grind (arith, length, length-append)

own-entry : (script : List (List Kind)) (threads thread : ℕ) (before after : List Event) → thread < threads
    → DoesEntry script thread before after → All (λ event. event.thread.number < threads) before
    → All (λ event. event.thread.number < threads) after
own-entry script threads thread before after low (inl (whole, is)) own = grind arith
own-entry script threads thread before after low (inr (call, answer, one, two, is, begins)) own =
    subst (All (λ event. event.thread.number < threads)) (sym is)
    (All-append (λ event. event.thread.number < threads) before (call ∷ answer ∷ []) own pair)
  where
    pair : All (λ event. event.thread.number < threads) (call ∷ answer ∷ [])
    pair =
        All-cons (λ event. event.thread.number < threads) call (answer ∷ []) (omega arith)
        (All-cons (λ event. event.thread.number < threads) answer [] (omega arith) (All-nil (λ event. event.thread.number < threads)))

pub length-drives : (scripts : List (List (List Kind))) (before : List Event) (order : List ℕ) (after : List Event)
    → Drives scripts before order after → length after ≤ length before + 2 * length order
length-drives scripts before [] after is = let same = ap (λ l. length l) is in omega arith
length-drives scripts before (thread ∷ order) after (next, entry, rest) =
    grind (arith, length-entry (script_at scripts thread) thread before next entry, length-drives scripts next order after rest)

pub own-drives : (scripts : List (List (List Kind))) (threads : ℕ) (before : List Event) (order : List ℕ) (after : List Event)
    → All (λ thread. thread < threads) order → Drives scripts before order after
    → All (λ event. event.thread.number < threads) before → All (λ event. event.thread.number < threads) after
own-drives scripts threads before [] after low is own = subst (All (λ event. event.thread.number < threads)) (sym is) own
own-drives scripts threads before (thread ∷ order) after low (next, entry, rest) own =
    own-drives scripts threads next order after (All-tail (λ t. t < threads) thread order low) rest
    (own-entry (script_at scripts thread) threads thread before next (All-head (λ t. t < threads) thread order low) entry own)

-- whatever the rest of the order makes of this log, the whole order makes of the log at the start
abbrev pub DrivesOn : List (List (List Kind)) → List Event → List ℕ → List Event → List ℕ → Type 0
DrivesOn scripts start order log rest = (last : List Event) → Drives scripts log rest last → Drives scripts start order last
