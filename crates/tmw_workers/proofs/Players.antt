-- A player that makes its next call, or has none left.
use Rattle.tmw_workers.proofs.Shared.{A, Answer, BeginsNext, Call, GoesOn, IsBeginning, IsFresh, IsNew, IsTrue, IsWholeRun, Kind, Leaves, List, MatchBool-at_true, None, Player, Plays, Some, Stands, StandsSoFar, [], answers, ap, are_calls-transactions, are_transactions, arith, beginning, cases_Bool, drop, ends, from_call, leaves_all, left_of, next_of, not_whole, rules, so_far_answered, so_far_none, subst, sym, true, whole_run, ℕ, ◌++◌, ◌==◌, ◌∙◌, ◌∷◌, ◌≡◌}
use Rattle.tmw_workers.proofs.NextCall.{next_left, next_of-some, next_of-none, left_of-goes_on, first-goes_on, leaves-next_left, are_transactions-next_left}

-- a new player has its whole script left
pub left_of-new : (script : List (List Kind)) (thread : ℕ) (player : Player) → IsNew thread player → left_of script player ≡ script
left_of-new script thread player new = grind (arith, from_call, drop)

pub plays-new : (gives : Call → Answer → Type 0) (registers : ℕ) (script : List (List Kind)) (thread : ℕ) (player : Player)
    → IsTrue (are_transactions registers script) → IsNew thread player → Plays gives script player []
plays-new gives registers script thread player asks new =
    let left : script ≡ left_of script player = sym (left_of-new script thread player new) in
    let first : true ≡ (player.call == 0) = sym (ap (λ n. n == 0) new.call) in
    record {
      leaves = subst (Leaves script []) left (leaves_all script);
      calls = (registers, subst (λ l. IsTrue (are_transactions registers l)) left asks);
      stands = subst (StandsSoFar gives []) first (so_far_none gives);
      fresh = λ _. new.fresh;
    }

-- the next call may be answered by an abort event
pub call-plays : (gives : Call → Answer → Type 0) (script : List (List Kind)) (player : Player) (kinds : List Kind) (call : Kind)
    → Plays gives script player kinds → next_of (left_of script player) ≡ Some call → IsTrue (answers call A)
call-plays gives script player kinds call plays is = grind arith

-- the player has made its next call, and has gone on after the answer to it
pub plays-goes_on : (gives : Call → Answer → Type 0) (script : List (List Kind)) (old new : Player) (kinds : List Kind) (call answer : Kind)
    → Plays gives script old kinds → next_of (left_of script old) ≡ Some call → IsTrue (answers call answer)
    → Stands gives (old.call == 0) call answer → GoesOn answer old new → Plays gives script new (kinds ++ call ∷ answer ∷ [])
plays-goes_on gives script old new kinds call answer plays is fits stands goes =
    let next = next_of-some (left_of script old) call is in
    let (registers, asks) = plays.calls in
    let asks_left : IsTrue (are_transactions registers ((call ∷ next.calls) ∷ next.later))
    = subst (λ l. IsTrue (are_transactions registers l)) next.is asks
    in
    let left : next_left answer ((call ∷ next.calls) ∷ next.later) ≡ left_of script new = sym (left_of-goes_on script old new call answer next goes) in
    let first : ends answer ≡ (new.call == 0) = sym (first-goes_on old new answer goes) in
    record {
      leaves = subst (Leaves script (kinds ++ call ∷ answer ∷ [])) left
          (leaves-next_left registers script kinds call answer next.calls next.later asks_left fits (subst (Leaves script kinds) next.is plays.leaves));
      calls = (
        registers,
        subst (λ l. IsTrue (are_transactions registers l)) left
            (are_transactions-next_left registers call answer next.calls next.later asks_left fits),
      );
      stands = subst (StandsSoFar gives (kinds ++ call ∷ answer ∷ [])) first
          (so_far_answered gives kinds (old.call == 0) call answer plays.stands stands);
      fresh = λ zero_call. fresh_at (first ∙ zero_call);
    }
  where
    fresh_at : IsTrue (ends answer) → IsFresh new.tx
    fresh_at over = (MatchBool-at_true (BeginsNext old new) _ over goes).fresh

-- a player without a next call has recorded a whole run, one with a next call a beginning
pub whole-plays : (gives : Call → Answer → Type 0) (script : List (List Kind)) (player : Player) (kinds : List Kind)
    → Plays gives script player kinds → next_of (left_of script player) ≡ None → IsWholeRun script kinds
whole-plays gives script player kinds plays is = grind (arith, whole_run, next_of-none)

pub beginning-plays : (gives : Call → Answer → Type 0) (script : List (List Kind)) (player : Player) (kinds : List Kind)
    → Plays gives script player kinds → IsBeginning script kinds
beginning-plays gives script player kinds plays = search (rules, beginning, are_calls-transactions)

pub not_whole-plays : (gives : Call → Answer → Type 0) (script : List (List Kind)) (player : Player) (kinds : List Kind) (call : Kind)
    → Plays gives script player kinds → next_of (left_of script player) ≡ Some call → IsWholeRun script kinds → ⊥
not_whole-plays gives script player kinds call plays is =
    let next = next_of-some _ call is in
    let (registers, asks) = plays.calls in
    let left : IsTrue (are_transactions registers ((call ∷ next.calls) ∷ next.later)) = subst (λ l. IsTrue (are_transactions registers
    l)) next.is asks in
    not_whole registers script kinds call next.calls next.later (are_calls-transactions registers ((call ∷ next.calls) ∷ next.later)
    left) (subst (Leaves script kinds) next.is plays.leaves)

-- asking the memory moves no player
pub goes_on-same : (old middle new : Player) (answer : Kind) → middle.transaction ≡ old.transaction → middle.call ≡ old.call
    → GoesOn answer middle new → GoesOn answer old new
goes_on-same old middle new answer transaction call goes = grind (arith, cases_Bool)
