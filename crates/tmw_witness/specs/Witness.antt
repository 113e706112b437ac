-- A witness: a serial order of the transactions of a window, told by ranks. The transactions that a completion takes as
-- committed lead one after the other from the state of each rank to the next; those that it leaves out read the state of their rank.
use Rattle.std.specs.Prelude.{◌≡◌, ◌⊎◌, ◌++◌, ◌∷◌, ◌+◌, ◌<◌, ◌≤◌, ℕ, Bool, true, false, List, [], length, slice_get, slice_index, slice_index_or, Some, IsTrue}
use Rattle.std.specs.Int.{bit_at}
use Rattle.std.specs.List.{Contains}
use Rattle.tmw_defs.specs.declared.op.Op.{Op}
use Rattle.tmw_defs.specs.declared.status.Status.{Status}
use Rattle.tmw_defs.specs.Opaque.{State, may_hold, reads_hold, after_writes}
use Rattle.tmw_events.specs.declared.event.Event.{Event}
use Rattle.tmw_cuts.specs.StandsFor.{IsNext, StandsFor, views_of}
use Rattle.tmw_cuts.specs.Views.{View, bit}
use Rattle.tmw_cuts.specs.declared.turn.Move.{Move}
use Rattle.tmw_cuts.specs.declared.txn.Txn.{Txn}
use Rattle.tmw_cuts.specs.declared.window.Window.{Window}
use Rattle.tmw_witness.specs.declared.witness.Witness.{Witness}

-- The rank of transaction i, whether it is taken as committed, and the state of a rank.
abbrev pub rank_of : Witness → ℕ → ℕ
rank_of w i = slice_index w.ranks i

abbrev pub committed_of : Witness → ℕ → Bool
committed_of w i = slice_index_or w.committed i false

abbrev pub state_of : Witness → ℕ → State
state_of w r = slice_index_or w.states r []

-- The rank is above each of these, or that of one that is left out.
abbrev pub ComesAbove : Witness → ℕ → ℕ → Type 0
ComesAbove w before rank = (j : ℕ) → j < 8 → bit_at before j ≡ 1 → rank_of w j + bit (committed_of w j) ≤ rank

-- The transaction may be left out at this rank: its reads hold there, and it stands no lower than those that precede it allow.
abbrev pub FitsAt : Witness → Txn → ℕ → Type 0
FitsAt w t rank = (rank ≤ w.top) × (rank < 9) × IsTrue (reads_hold (state_of w rank) t.ops.items) × ComesAbove w t.before rank

-- A completion may take a transaction of this status as committed, or leave it out, as told here; or it is to be taken so and stands as
-- if it were left out, which is the same where its operations leave the state of its rank as it is.
abbrev pub MayStand : State → Status → Bool → List Op → Type 0
MayStand s status committed ops =
    IsTrue (may_hold status committed) ⊎ ((committed ≡ false) × IsTrue (may_hold status true) × (after_writes s ops ≡ s))

-- Transaction i stands at its rank: it reads what the state there has, those that precede it stand before it, and where it is taken
-- as committed it leads to the state of the next rank.
pub record Stands (w : Witness) (i : ℕ) (x : View) : Type 0 where
  pub within : rank_of w i + bit (committed_of w i) ≤ w.top
  pub may : MayStand (state_of w (rank_of w i)) x.status (committed_of w i) x.ops
  pub reads : IsTrue (reads_hold (state_of w (rank_of w i)) x.ops)
  pub kept : (j : ℕ) → bit_at x.before j ≡ 1 → (j < i) × (rank_of w j + bit (committed_of w j) ≤ rank_of w i)
  pub leads : committed_of w i ≡ true → state_of w (rank_of w i + 1) ≡ after_writes (state_of w (rank_of w i)) x.ops

-- The member that leads from this rank to the next.
pub record HasWriter (member : ℕ → Type 0) (w : Witness) (r : ℕ) : Type 0 where
  pub place : ℕ
  pub among : member place
  pub is : committed_of w place ≡ true
  pub ranked : rank_of w place ≡ r

-- The members stand in a serial order from one of the states: exactly one leads from each rank to the next, up to the highest, and
-- each that precedes a member is one.
pub record PlacesThose (starts : List State) (xs : List View) (member : ℕ → Type 0) (w : Witness) : Type 0 where
  pub start : Contains starts (state_of w 0)
  pub within : (i : ℕ) → member i → i < length xs
  pub each : (i : ℕ) (x : View) → slice_get xs i ≡ Some x → member i → Stands w i x
  pub closed : (i j : ℕ) (x : View) → slice_get xs i ≡ Some x → member i → bit_at x.before j ≡ 1 → member j
  pub apart : (i j : ℕ) → member i → member j → committed_of w i ≡ true → committed_of w j ≡ true → rank_of w i ≡ rank_of w j → i ≡ j
  pub full : (r : ℕ) → r < w.top → HasWriter member w r

-- It is one of the window's transactions.
abbrev pub Below : List View → ℕ → Type 0
Below xs i = i < length xs

-- All transactions of the window stand in a serial order. (Of all of them `within` and `closed` say nothing.)
pub record IsWitness (starts : List State) (xs : List View) (w : Witness) : Type 0 where
  pub few : length xs ≤ 8
  pub places : PlacesThose starts xs (Below xs) w

-- Where it is known, it is a witness of what a window shows, from one of these states.
abbrev pub Witnesses : List State → List View → Witness → Type 0
Witnesses starts xs w = IsTrue w.known → IsWitness starts xs w

-- As it stands, it is one of what the window shows with this event too, which is this to its thread.
abbrev pub ExplainsWith : Witness → Window → Event → Move → Type 0
ExplainsWith w window event move = (starts : List State) (events : List Event) → StandsFor window events → IsNext window event move
    → Witnesses starts (views_of events) w → Witnesses starts (views_of (events ++ event ∷ [])) w
