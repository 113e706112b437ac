-- Steps of a reason why transactions have no serial order: when a step follows from those before it, and when they contradict each other.
-- A transaction is told by its place in the list of all. A value comes from the transaction that left it, or from the start.
use Rattle.tmw_reason.specs.Shared.{Committed, Criterion, Op, State, Status, Txn, first_unlike, left_by, list_all, list_any, may_hold, needs, operations, option_eq, precedes, range_with_len, status_of, txn_at}
use Rattle.std.specs.Prelude.{Bool, IsTrue, List, None, Option, Some, false, is_some, length, nat_lt, not, slice_get, slice_index, take, true, ℕ, ◌&&◌, ◌==◌, ◌||◌, ◌≡◌, ◌≤◌}
use Rattle.tmw_defs.specs.declared.criterion.Criterion.TheVariants.{Opacity, Strict}
use Rattle.tmw_reason.specs.declared.reason_step.ValueSource.{ValueSource}
use Rattle.tmw_reason.specs.declared.reason_step.ReasonStep.{ReasonStep}
use Rattle.tmw_reason.specs.declared.reason_step.ReasonStep.TheVariants.{RealTime, From, TooLate, Overwritten, ReadFirst, ChangedFirst, Through}
use Rattle.tmw_reason.specs.declared.reason_step.Contradiction.{Contradiction}
use Rattle.tmw_reason.specs.declared.reason_step.Contradiction.TheVariants.{Cycle, NoSource, Unlike}

-- What a reason speaks of: the transactions of a window, and the states from which and the criterion by which they have no serial order.
pub record Asked : Type 0 where
  pub criterion : Criterion
  pub states : List State
  pub transactions : List Txn

-- The operations of the transaction at this place.
abbrev pub ops_at : List Txn → ℕ → List Op
ops_at ts a = operations (txn_at ts a).text

abbrev pub is_pair : ℕ → ℕ → Option (ℕ × ℕ) → Bool
is_pair a b None = false
is_pair a b (Some pair) = (pair.0 == a) && (pair.1 == b)

abbrev pub is_some_of : ℕ → Option ℕ → Bool
is_some_of v None = false
is_some_of v (Some w) = w == v

abbrev pub is_same_writer : Option ℕ → Option ℕ → Bool
is_same_writer = option_eq (λ a b. a == b)

abbrev pub is_same_source : ValueSource → ValueSource → Bool
is_same_source s t =
    (s.reader == t.reader)
    && ((s.register.number == t.register.number) && ((s.value == t.value) && is_same_writer s.writer t.writer))

-- The step says that the one stands before the other.
abbrev pub orders : ℕ → ℕ → ReasonStep → Bool
orders a b (RealTime one other) = (one == a) && (other == b)
orders a b (From s) = is_some_of a s.writer && (s.reader == b)
orders a b (TooLate s) = false
orders a b (Overwritten s rival left) = false
orders a b (ReadFirst s rival left) = (s.reader == a) && (rival == b)
orders a b (ChangedFirst rival left s) = (rival == a) && is_some_of b s.writer
orders a b (Through one between other) = (one == a) && (other == b)

-- The step says that this is the source.
abbrev pub gives : ValueSource → ReasonStep → Bool
gives s (From t) = is_same_source s t
gives s _ = false

-- The step says that this is not the source.
abbrev pub excludes : ValueSource → ReasonStep → Bool
excludes s (TooLate t) = is_same_source s t
excludes s (Overwritten t rival left) = is_same_source s t
excludes s _ = false

-- The step says that the transaction is some value's source.
abbrev pub supplies : ℕ → ReasonStep → Bool
supplies a (From s) = is_some_of a s.writer
supplies a _ = false

-- By these steps the one stands before the other.
abbrev pub is_before : List ReasonStep → ℕ → ℕ → Bool
is_before steps a b = list_any (orders a b) steps

-- The start stands before each transaction, and none stands before it.
abbrev pub begins_before : List ReasonStep → Option ℕ → ℕ → Bool
begins_before steps None b = true
begins_before steps (Some a) b = is_before steps a b

abbrev pub ends_before : List ReasonStep → ℕ → Option ℕ → Bool
ends_before steps a None = false
ends_before steps a (Some b) = is_before steps a b

abbrev pub is_committed : Status → Bool
is_committed Committed = true
is_committed _ = false

-- The transaction is held in each order: it has committed, or what another read comes from it.
abbrev pub is_held : List Txn → List ReasonStep → ℕ → Bool
is_held ts steps a = is_committed (status_of (txn_at ts a).text) || list_any (supplies a) steps

-- Each order has the transaction.
abbrev pub has_place : Criterion → List Txn → List ReasonStep → ℕ → Bool
has_place Opacity ts steps a = nat_lt a (length ts)
has_place Strict ts steps a = is_held ts steps a

-- The reader's value may come from there, as far as one can tell without an order: one of the states has it in the register, or a
-- completion may hold the writer, which leaves it there.
abbrev pub may_come_from : List State → List Txn → ValueSource → Option ℕ → Bool
may_come_from states ts s None = list_any (λ state. slice_index state s.register.number == s.value) states
may_come_from states ts s (Some a) =
    not (a == s.reader)
    && (may_hold (status_of (txn_at ts a).text) true && is_some_of s.value (left_by s.register.number None (ops_at ts a)))

-- The transaction is held, leaves this value in the source's register and is neither the reader nor the writer.
abbrev pub is_rival : List Txn → List ReasonStep → ValueSource → ℕ → ℕ → Bool
is_rival ts steps s a left =
    not (a == s.reader)
    && (not (is_some_of a s.writer) && (is_held ts steps a && is_some_of left (left_by s.register.number None (ops_at ts a))))

-- The transaction is a rival that by these steps stands between the writer and the reader.
abbrev pub stands_between : List Txn → List ReasonStep → ValueSource → ℕ → ℕ → Bool
stands_between ts steps s a left = is_rival ts steps s a left && (begins_before steps s.writer a && is_before steps a s.reader)

-- The same value from another source.
abbrev pub from_else : ValueSource → Option ℕ → ValueSource
from_else s w = record s { writer = w }

-- The value can't come from this writer, or by these steps it does not, unless it is the source's own.
abbrev pub comes_not_else : List State → List Txn → List ReasonStep → ValueSource → Option ℕ → Bool
comes_not_else states ts steps s w =
    is_same_writer w s.writer || (not (may_come_from states ts s w) || list_any (excludes (from_else s w)) steps)

-- It comes from no other than the source's own writer.
abbrev pub is_only : List State → List Txn → List ReasonStep → ValueSource → Bool
is_only states ts steps s =
    comes_not_else states ts steps s None
    && list_all (λ a. comes_not_else states ts steps s (Some a)) (range_with_len 0 (length ts))

-- Neither the start nor any transaction can have left the value.
abbrev pub is_left_by_none : List State → List Txn → ValueSource → Bool
is_left_by_none states ts s =
    not (may_come_from states ts s None) && list_all (λ a. not (may_come_from states ts s (Some a))) (range_with_len 0 (length ts))

-- The reader stands in each order, and needs the register to hold the value.
abbrev pub is_asked : Criterion → List Txn → List ReasonStep → ValueSource → Bool
is_asked criterion ts steps s =
    has_place criterion ts steps s.reader && needs s.register.number s.value (ops_at ts s.reader)

-- The source is known, and the transaction is a rival that leaves this value, which is another.
abbrev pub is_known_rival : List Txn → List ReasonStep → ValueSource → ℕ → ℕ → Bool
is_known_rival ts steps s a left =
    list_any (gives s) steps && (is_rival ts steps s a left && not (left == s.value))

-- The value comes from a transaction, not from the start.
abbrev pub has_writer : ValueSource → Bool
has_writer s = is_some s.writer

-- The value may come from there, and the transaction is a rival that leaves this value and by these steps stands between the two.
abbrev pub is_overwritten : List State → List Txn → List ReasonStep → ValueSource → ℕ → ℕ → Bool
is_overwritten states ts steps s a left = may_come_from states ts s s.writer && stands_between ts steps s a left

-- Whether a step follows from these: by real time; because the value can come from nowhere else; because a source that it may have comes
-- too late or is overwritten; because the reader and the writer would else have a rival between them; or by a third transaction.
abbrev pub follows : Criterion → List State → List Txn → List ReasonStep → ReasonStep → Bool
follows criterion states ts steps (RealTime one other) = not (one == other) && precedes (txn_at ts one) (txn_at ts other)
follows criterion states ts steps (From s) =
    is_asked criterion ts steps s && (may_come_from states ts s s.writer && is_only states ts steps s)
follows criterion states ts steps (TooLate s) = may_come_from states ts s s.writer && ends_before steps s.reader s.writer
follows criterion states ts steps (Overwritten s rival left) = is_overwritten states ts steps s rival left
follows criterion states ts steps (ReadFirst s rival left) =
    is_known_rival ts steps s rival left && begins_before steps s.writer rival
follows criterion states ts steps (ChangedFirst rival left s) =
    is_known_rival ts steps s rival left && (has_writer s && is_before steps rival s.reader)
follows criterion states ts steps (Through one between other) =
    has_place criterion ts steps between && (is_before steps one between && is_before steps between other)

-- Whether no order can be as these steps say: a transaction stands before itself; nobody can have left a value that is read; or a
-- transaction read a register unlike its own earlier operations.
abbrev pub contradicts : Criterion → List State → List Txn → List ReasonStep → Contradiction → Bool
contradicts criterion states ts steps (Cycle a) = has_place criterion ts steps a && is_before steps a a
contradicts criterion states ts steps (NoSource b r v) =
    let s : ValueSource = record { reader = b; register = r; value = v; writer = None } in
    is_asked criterion ts steps s && is_left_by_none states ts s
contradicts criterion states ts steps (Unlike a r expected read) =
    has_place criterion ts steps a && is_pair expected read (first_unlike r.number None (ops_at ts a))

-- By these steps it is known what the step says.
abbrev pub tells : List ReasonStep → ReasonStep → Bool
tells steps (RealTime one other) = is_before steps one other
tells steps (From s) = list_any (gives s) steps
tells steps (TooLate s) = list_any (excludes s) steps
tells steps (Overwritten s rival left) = list_any (excludes s) steps
tells steps (ReadFirst s rival left) = is_before steps s.reader rival
tells steps (ChangedFirst rival left s) = ends_before steps rival s.writer
tells steps (Through one between other) = is_before steps one other

-- Each of the steps follows from those before it, but the first, of which so many are assumed.
abbrev pub Derives : Criterion → List State → List Txn → ℕ → List ReasonStep → Type 0
Derives criterion states ts assumed steps =
    (i : ℕ) (step : ReasonStep) → assumed ≤ i → slice_get steps i ≡ Some step → IsTrue (follows criterion states ts (take i steps) step)
