-- Where a value comes from that a transaction read of a register: who in a window wrote it, and what became of that write; or a state.
use Rattle.tmw_reason.specs.Shared.{Aborted, Contains, Event, Live, Op, State, Status, Txn, known_after, left_by, list_any, operation, operations, option_or, owner, status_of, transactions, txn_at}
use Rattle.tmw_events.specs.declared.ix.Ix.{Ix}
use Rattle.tmw_events.specs.declared.event.Kind.{Kind}
use Rattle.tmw_events.specs.declared.event.Kind.TheVariants.{X}
use Rattle.tmw_defs.specs.Part.{is_answered}
use Rattle.std.specs.Prelude.{Bool, List, None, Option, Some, [], false, filter, if◌then◌else◌, length, map, nat_lt, not, slice_get, slice_index, true, unwrap_or, ℕ, ⊤, ◌&&◌, ◌-◌, ◌<◌, ◌==◌, ◌∷◌, ◌≡◌}
use Rattle.tmw_reason.specs.declared.origin.Fate.{Fate}
use Rattle.tmw_reason.specs.declared.origin.Fate.TheVariants.{GivenUp, GivingUp, Unasked, Overwritten, Stays}
use Rattle.tmw_reason.specs.declared.origin.Origin.{Origin}
use Rattle.tmw_reason.specs.declared.origin.ReadOrigin.{ReadOrigin}
use Rattle.tmw_reason.specs.declared.origin.ReadOrigin.TheVariants.{InState, ByCall}
use Rattle.tmw_reason.specs.declared.reason_step.Contradiction.{Contradiction}
use Rattle.tmw_reason.specs.declared.reason_step.Contradiction.TheVariants.{Cycle, NoSource, Unlike}
use Rattle.tmw_kept.specs.declared.piece.Call.{Call}
use Rattle.tmw_kept.specs.Pieces.{calls, puts}
use Rattle.tmw_reason.specs.ReasonSteps.{is_some_of}

-- The operation that a call makes with what follows it in its thread.
abbrev pub made : Kind → Option Kind → List Op
made call None = []
made call (Some answer) = operation call answer

-- What is known is what is expected, if a value is.
abbrev pub is_as_expected : Option ℕ → Option ℕ → Bool
is_as_expected None known = true
is_as_expected (Some v) known = is_some_of v known

-- One of these operations, which are one at most, reads the value from the register while so much is known that is expected.
abbrev pub reads_as : ℕ → ℕ → Option ℕ → Option ℕ → List Op → Bool
reads_as r v expected known ops = is_as_expected expected known && list_any (is_answered r v) ops

-- What is known after these operations.
abbrev pub known_past : ℕ → Option ℕ → List Op → Option ℕ
known_past r known [] = known
known_past r known (op ∷ ops) = known_past r (known_after r known op) ops

-- The place of the answer by which a transaction, which makes these calls, first reads the value from the register; or, with a value
-- `expected`, first does so where its calls before say that the register holds that. So much they say before these.
abbrev pub answered_at : ℕ → ℕ → Option ℕ → Option ℕ → List Call → Option ℕ
answered_at r v expected known [] = None
answered_at r v expected known (call ∷ calls) =
    if reads_as r v expected known (made call.kind call.next) then Some call.piece.upto
    else answered_at r v expected (known_past r known (made call.kind call.next)) calls

-- The transaction that makes the call; and those calls that one makes.
abbrev pub caller : List Txn → Call → ℕ
caller window call = owner window call.piece.thread call.piece.from call.piece.from

abbrev pub own_calls : List Txn → ℕ → List Call → List Call
own_calls window reader calls = filter (λ call. caller window call == reader) calls

-- What was put there may count.
abbrev pub stays : Fate → Bool
stays Stays = true
stays _ = false

-- A transaction whose last event is this one has asked to abort.
abbrev pub asks_abort : Option Kind → Bool
asks_abort (Some X) = true
asks_abort _ = false

-- What became of what a transaction of this status put there, which has asked to abort or not, and at last left the value there or not.
abbrev pub fate_by : Status → Bool → Bool → Fate
fate_by Aborted asked last = GivenUp
fate_by Live true last = GivingUp
fate_by Live false last = Unasked
fate_by _ asked true = Stays
fate_by _ asked false = Overwritten

-- What the reader itself put there is no longer there, if it reads it as another's.
abbrev pub fate_of : ℕ → ℕ → Bool → Txn → Fate
fate_of r v true t = Overwritten
fate_of r v false t =
    fate_by (status_of t.text) (asks_abort (slice_get t.text (length t.text - 1))) (is_some_of v (left_by r None (operations t.text)))

abbrev pub origin_at : List Txn → ℕ → ℕ → ℕ → Call → Origin
origin_at window r v reader call = record {
  place = call.piece.from;
  writer = caller window call;
  fate = fate_of r v (caller window call == reader) (txn_at window (caller window call));
}

-- The call comes before that answer, which is not its own, and puts the value into the register.
abbrev pub puts_before : ℕ → ℕ → ℕ → Call → Bool
puts_before r v upto call = nat_lt call.piece.from upto && (not (call.piece.upto == upto) && puts r v call)

abbrev pub origins : List Txn → List Call → ℕ → ℕ → ℕ → ℕ → List Origin
origins window calls r v reader upto = map (origin_at window r v reader) (filter (puts_before r v upto) calls)

-- The last of these; and the last that may count, or else the last.
abbrev pub last_of : List Origin → Option Origin
last_of origins = slice_get origins (length origins - 1)

abbrev pub latest : List Origin → Option Origin
latest origins = option_or (last_of (filter (λ origin. stays origin.fate) origins)) (last_of origins)

-- Of the window's calls the last that may count, or else the last, that puts the value into the register before the reader, the
-- transaction of this number, is answered it so, or before the window's end if it isn't.
abbrev pub origin_of : List Event → ℕ → ℕ → Option ℕ → ℕ → Option Origin
origin_of window r v expected reader =
    let ts = transactions window in
    let upto = unwrap_or (answered_at r v expected None (own_calls ts reader (calls window))) (length window) in
    latest (origins ts (calls window) r v reader upto)

-- One of the states has the value in the register.
abbrev pub stands_in : List State → ℕ → ℕ → Bool
stands_in states r v = list_any (λ state. slice_index state r == v) states

abbrev pub may_count : Option Origin → Bool
may_count None = false
may_count (Some origin) = stays origin.fate

-- The value comes from a state, if one has it there and no call that may count put it there.
abbrev pub read_origin : List State → Ix → ℕ → Option Origin → ReadOrigin
read_origin states r v origin = if stands_in states r.number v && not (may_count origin) then InState r v else ByCall r v origin

-- Where the value comes from that contradicts all orders from these states, if one does. One that nobody can have left is in no state.
abbrev pub origin_in : List State → List Event → Contradiction → Option ReadOrigin
origin_in states window (Cycle place) = None
origin_in states window (NoSource reader r v) = Some (ByCall r v (origin_of window r.number v None reader))
origin_in states window (Unlike reader r expected v) =
    Some (read_origin states r v (origin_of window r.number v (Some expected) reader))

-- What this says of a state is so of one of these.
abbrev pub IsInOne : List State → ReadOrigin → Type 0
IsInOne states (InState r v) = (state : State) × Contains states state × (slice_index state r.number ≡ v)
IsInOne states (ByCall r v origin) = ⊤

-- The call that it names is one of so many events.
abbrev pub IsWithin : ℕ → ReadOrigin → Type 0
IsWithin count (InState r v) = ⊤
IsWithin count (ByCall r v None) = ⊤
IsWithin count (ByCall r v (Some origin)) = origin.place < count
