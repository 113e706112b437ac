-- From one call to the next, and to the end of the script or to a refusal.
use Rattle.tmw_workers.proofs.Shared.{AllStand, Answer, Call, EndsWork, FindsFrom, HasCalled, HasClaimed, HasRunSoFar, HasWorked, IsBeginning, IsNew, IsTrue, Kind, Leaves, List, None, Option, Player, Plays, Refused, Some, StopsAt, WriterIs, [], answers, append-nil, append_assoc, are_calls-transactions, are_transactions, arith, beginning, beginning_pending, inl, inr, left_of, next_of, rules, so_far_all, so_far_called, subst, sym, tail_of, true, ℕ, ◌++◌, ◌∷◌, ◌≡◌, ◌≤◌}
use Rattle.tmw_workers.proofs.NextCall.{are_transactions-next_left, leaves-next_left, next_left, next_of-some}
use Rattle.tmw_workers.proofs.Players.{plays-goes_on, plays-new, whole-plays}
use Rattle.tmw_workers.proofs.Claims.{claimed-none, claimed-more}

-- no call was made
pub played-new : (gives : Call → Answer → Type 0) (registers : ℕ) (script : List (List Kind)) (thread : ℕ) (player : Player) (writer : WriterIs)
    → IsTrue (are_transactions registers script) → IsNew thread player → HasRunSoFar gives script player writer writer
played-new gives registers script thread player writer asks new =
    record { kinds = []; claimed = claimed-none writer; plays = plays-new gives registers script thread player asks new }

-- one call more was made
pub played-called : (gives : Call → Answer → Type 0) (script : List (List Kind)) (old new : Player) (call : Kind) (start before after : WriterIs)
    → HasRunSoFar gives script old start before → next_of (left_of script old) ≡ Some call → HasCalled gives call old new before after
    → HasRunSoFar gives script new start after
played-called gives script old new call start before after played is called =
    let more = call ∷ called.answer ∷ [] in
    record {
      kinds = played.kinds ++ more;
      claimed = claimed-more played.kinds more start before after played.claimed called.claimed;
      plays = plays-goes_on gives script old new played.kinds call called.answer played.plays is called.fits called.stands called.goes_on;
    }

worked : (gives : Call → Answer → Type 0) (script : List (List Kind)) (kinds : List Kind) (old : WriterIs) (stop : Option Refused) (new : WriterIs)
    → HasClaimed kinds old new → FindsFrom old.seen stop → AllStand gives true kinds → EndsWork script kinds stop new
    → HasWorked gives script old stop new
worked gives script kinds old stop new claimed found stand ended = grind arith

-- no call is left
pub worked-none_left : (gives : Call → Answer → Type 0) (script : List (List Kind)) (player : Player) (old new : WriterIs)
    → HasRunSoFar gives script player old new → next_of (left_of script player) ≡ None → HasWorked gives script old None new
worked-none_left gives script player old new played is =
    search (rules, worked, so_far_all, whole-plays)

-- the next call may come, and after it each answer that fits it
begins-call : (gives : Call → Answer → Type 0) (script : List (List Kind)) (player : Player) (kinds : List Kind) (call : Kind)
    → Plays gives script player kinds → next_of (left_of script player) ≡ Some call → IsBeginning script (kinds ++ call ∷ [])
begins-call gives script player kinds call plays is =
    let next = next_of-some (left_of script player) call is in
    let (registers, asks) = plays.calls in
    let left : IsTrue (are_transactions registers ((call ∷ next.calls) ∷ next.later))
    = subst (λ l. IsTrue (are_transactions registers l)) next.is asks
    in
    beginning_pending registers script kinds call next.calls next.later
    (are_calls-transactions registers ((call ∷ next.calls) ∷ next.later) left) (subst (Leaves script kinds) next.is plays.leaves)

begins-answer : (gives : Call → Answer → Type 0) (script : List (List Kind)) (player : Player) (kinds : List Kind) (call answer : Kind)
    → Plays gives script player kinds → next_of (left_of script player) ≡ Some call → IsTrue (answers call answer)
    → IsBeginning script ((kinds ++ call ∷ []) ++ answer ∷ [])
begins-answer gives script player kinds call answer plays is fits =
    let next = next_of-some (left_of script player) call is in
    let (registers, asks) = plays.calls in
    let left : IsTrue (are_transactions registers ((call ∷ next.calls) ∷ next.later))
    = subst (λ l. IsTrue (are_transactions registers l)) next.is asks
    in
    let after = next_left answer ((call ∷ next.calls) ∷ next.later) in
    let leaves = leaves-next_left registers script kinds call answer next.calls next.later left fits (subst (Leaves script kinds) next.is plays.leaves) in
    let asks_after = are_transactions-next_left registers call answer next.calls next.later left fits in
    subst (IsBeginning script) (sym (append_assoc kinds (call ∷ []) (answer ∷ [])))
    (beginning registers script (kinds ++ call ∷ answer ∷ []) after (are_calls-transactions registers after asks_after) leaves)

-- a record was refused
pub worked-refused : (gives : Call → Answer → Type 0) (script : List (List Kind)) (player : Player) (call : Kind) (refused : Refused) (start before after : WriterIs)
    → HasRunSoFar gives script player start before → next_of (left_of script player) ≡ Some call → StopsAt call refused before after
    → HasWorked gives script start (Some refused) after
worked-refused gives script player call refused start before after played is stops =
    let kinds = played.kinds in
    let plays = played.plays in
    let found : start.seen ≤ tail_of refused = omega (arith, played.claimed.seen, stops.0) in
    elim stops.1 [
      | inl at_call ↦
          let claimed : HasClaimed kinds start after
          = subst (λ (l : List Kind). HasClaimed l start after) (append-nil kinds) (claimed-more kinds [] start before after played.claimed at_call.0)
          in
          worked gives script kinds start (Some refused) after claimed found (so_far_all gives kinds _ plays.stands)
          record { next = call; begins = begins-call gives script player kinds call plays is; refusal = at_call.1 }
      | inr at_answer ↦
          let claimed = claimed-more kinds (call ∷ []) start before after played.claimed at_answer.2 in
          worked gives script (kinds ++ call ∷ []) start (Some refused) after claimed found (so_far_called gives kinds _ call plays.stands)
          record {
            next = at_answer.0;
            begins = begins-answer gives script player kinds call at_answer.0 plays is at_answer.1;
            refusal = at_answer.3;
          }
    ]
