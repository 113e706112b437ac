-- Calls of the memory, turn after turn.
use Rattle.tmw_workers.proofs.Shared.{BeginsNext, Bool, Err, GoesOn, HasTried, IsFresh, IsNew, IsTrue, Kind, List, Made, MakesNext, MatchBool, None, Ok, Player, Refused, Some, WriterIs, [], ap, append_assoc, arith, ends, false, inr, made_at, refl, subst, sym, true, ℕ, ◌++◌, ◌==◌, ◌∙◌, ◌∷◌, ◌≡◌}
use Rattle.tmw_workers.proofs.Tries.{has_looked-refused}
use Rattle.tmw_workers.specs.MemoryCalls.{Asking, HasCalledInTurn, HasNoneOpen, Leaves, Leaving, StopsInTurn, TakesOneTurn, TakesTurns, Turn}
use Rattle.tmw_tm.specs.declared.tx.Tx.{Tx}

made-tried : (kind : Kind) (old : WriterIs) (place : ℕ) (new : WriterIs) → HasTried kind old (Ok place) new
    → new.made ≡ old.made ++ made_at old.number kind place ∷ []
made-tried kind old place new (before, waited, recorded) = grind arith

made-refused : (kind : Kind) (old : WriterIs) (refused : Refused) (new : WriterIs) → HasTried kind old (Err refused) new → new.made ≡ old.made
made-refused kind old refused new (before, waited, is) =
    (has_looked-refused kind before refused new is).1.made ∙ waited.made

next-tx : (over : Bool) (before next : Player) → MatchBool over (BeginsNext before next) (MakesNext before next)
    → (over ≡ false → next.tx ≡ before.tx) → MatchBool over (IsFresh next.tx) (next.tx ≡ before.tx)
next-tx true before next goes kept = goes.fresh
next-tx false before next goes kept = kept refl

goes_on-from : (over : Bool) (before after next : Player) → after.transaction ≡ before.transaction → after.call ≡ before.call
    → MatchBool over (BeginsNext after next) (MakesNext after next) → MatchBool over (BeginsNext before next) (MakesNext before next)
goes_on-from true before after next transaction call goes = grind arith
goes_on-from false before after next transaction call goes = grind arith

goes_on-first : (over : Bool) (before next : Player) → MatchBool over (BeginsNext before next) (MakesNext before next)
    → IsTrue (next.call == 0) → IsTrue over
goes_on-first true before next goes first = refl
goes_on-first false before next goes first = grind arith

-- The call was recorded, made, and its answer was recorded.
pub turn-taken : (asked : Asking) (call answer : Kind) (first second : ℕ) (old mid new : WriterIs) (before after next : Player)
    → HasTried call old (Ok first) mid → asked mid.made before.tx call answer after.tx → after.transaction ≡ before.transaction
    → after.call ≡ before.call → HasTried answer mid (Ok second) new → GoesOn answer after next → (ends answer ≡ false → next.tx ≡ after.tx)
    → TakesOneTurn asked old.made new.made before next
turn-taken asked call answer first second old mid new before after next called asks transaction same_call answered goes kept =
    let one = made-tried call old first mid called in
    let two = made-tried answer mid second new answered in
    let a = made_at old.number call first in
    let b = made_at mid.number answer second in (
      record { call = a; answer = b; before = before.tx; after = after.tx },
      refl,
      record {
        recorded = two ∙ ap (λ (l : List Made). l ++ b ∷ []) one ∙ append_assoc old.made (a ∷ []) (b ∷ []);
        asks = subst (λ (l : List Made). asked l before.tx call answer after.tx) one asks;
        next = next-tx (ends answer) after next goes kept;
      },
      goes_on-from (ends answer) before after next transaction same_call goes,
    )

-- The call was recorded and made, and the record of its answer was refused.
pub stops_in_turn-answer : (asked : Asking) (left : Leaving) (NoneOpen : Type 0) (call answer : Kind) (place : ℕ) (refused : Refused)
    (before middle after : WriterIs) (tx next : Tx) → HasTried call before (Ok place) middle → asked middle.made tx call answer next
    → HasTried answer middle (Err refused) after → Leaves left (IsTrue (ends answer)) next
    → StopsInTurn asked left NoneOpen before.made after.made tx
stops_in_turn-answer asked left NoneOpen call answer place refused before middle after tx next called asks tried leaves =
    let same = made-refused answer middle refused after tried in
    inr (
      made_at before.number call place,
      answer,
      next,
      same ∙ made-tried call before place middle called,
      subst (λ (l : List Made). asked l tx call answer next) (sym same) asks,
      leaves,
    )

-- The player is between two turns, with its next call the first of a transaction only if none is open.
pub record IsBetweenTurns (asked : Asking) (start made : List Made) (player : Player) : Type 0 where
  pub turns : List Turn
  pub taken : TakesTurns asked start turns made player.tx
  pub none_open : IsTrue (player.call == 0) → HasNoneOpen turns

pub between_turns-new : (asked : Asking) (thread : ℕ) (made : List Made) (player : Player) → IsNew thread player
    → IsBetweenTurns asked made made player
between_turns-new asked thread made player new = record { turns = []; taken = (refl, new.fresh); none_open = λ _. tt }

pub between_turns-next : (asked : Asking) (start old made : List Made) (before after : Player) → IsBetweenTurns asked start old before
    → TakesOneTurn asked old made before after → IsBetweenTurns asked start made after
between_turns-next asked start old made before after at (turn, is, takes, goes) = record {
  turns = turn ∷ at.turns;
  taken = (old, subst (λ (tx : Tx). TakesTurns asked start at.turns old tx) (sym is) at.taken, takes);
  none_open = goes_on-first (ends turn.answer.event.kind) before after goes;
}

-- No call is left.
pub called-none_left : (asked : Asking) (left : Leaving) (start made : List Made) (player : Player) → IsBetweenTurns asked start made player
    → HasCalledInTurn asked left start None made
called-none_left asked left start made player at = record { turns = at.turns; tx = player.tx; old = made; taken = at.taken; over = refl }

-- A record was refused.
pub called-refused : (asked : Asking) (left : Leaving) (refused : Refused) (start old made : List Made) (player : Player)
    → IsBetweenTurns asked start old player → StopsInTurn asked left (IsTrue (player.call == 0)) old made player.tx
    → HasCalledInTurn asked left start (Some refused) made
called-refused asked left refused start old made player at stops = grind arith
