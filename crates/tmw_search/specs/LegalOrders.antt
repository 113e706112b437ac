-- Which orders of a window's transactions are legal, told by who precedes whom and who reads from whom (a polygraph, Papadimitriou 1979),
-- and where the search begins.
-- Transactions are told by their places, below 8; `mat` at j is the mask of those that precede j (with or without j itself). Rankings are
-- those of specs/Precedence.antt: all eight places have different ranks, and a bit i of mat at j says rank i ≤ rank j.
use Rattle.tmw_search.specs.Shared.{Contains, Criterion, Effect, EndsBy, Event, Only, Opacity, State, Strict, View, bit_at, effect_of, is_committed, transactions, view, views_of}
use Rattle.std.specs.Prelude.{Bool, IsTrue, List, Some, bit_or, get_or, length, map, slice_get, slice_index, ℕ, ◌-◌, ◌<◌, ◌==◌, ◌^◌, ◌↔◌, ◌≡◌, ◌≤◌, ◌⊎◌}
use Rattle.tmw_search.specs.Precedence.{IsRanking, IsRead, source_at}
use Rattle.tmw_search.specs.declared.source_choices.ReadSource.TheVariants.{Open}
use Rattle.tmw_search.specs.NodeOrders.{idle, In, Needs, left_at, Writes, Reads, Leaves}
use Rattle.tmw_defs.specs.QuietEvents.{is_pending}
use Rattle.tmw_search.specs.declared.node.Node.{Node}
use Rattle.tmw_cuts.specs.declared.txn.Txn as cuts

-- The ranks keep who precedes whom, and are a legal serial order: the members agree with themselves, and each of their reads has the value
-- of the last held writer before it, or that of the start where there is none.
pub record IsSerial (xs : List Effect) (start : State) (mat : List ℕ) (members held : ℕ) (rank : ℕ → ℕ) : Type 0 where
  pub ranking : IsRanking rank mat
  pub agree : (j : ℕ) → j < 8 → In members j → IsTrue (get_or xs j idle).agrees
  pub reads : (j r : ℕ) → j < 8 → r < 8 → In members j → Needs xs j r → Reads xs held start rank j r Open

-- The place is that of the register's writer that is ranked last, and the value the one that it leaves.
pub record IsLast (xs : List Effect) (held : ℕ) (rank : ℕ → ℕ) (r value place : ℕ) : Type 0 where
  pub writes : Writes xs held r place
  pub is : value ≡ left_at xs place r
  pub last : (k : ℕ) → Writes xs held r k → rank k ≤ rank place

-- What a register ends with that held `old`: the value of the writer ranked last, or `old` where there is none.
abbrev pub EndsAt : List Effect → ℕ → (ℕ → ℕ) → ℕ → ℕ → ℕ → Type 0
EndsAt xs held rank r old value =
    (((k : ℕ) → Writes xs held r k → ⊥) × (value ≡ old)) ⊎ ((place : ℕ) × IsLast xs held rank r value place)

-- Some legal serial order of the members ends in the state.
pub record EndsIn (xs : List Effect) (start : State) (mat : List ℕ) (members held : ℕ) (end : State) : Type 0 where
  pub rank : ℕ → ℕ
  pub within : IsSerial xs start mat members held rank
  pub size : length end ≡ 8
  pub each : (r : ℕ) → r < 8 → EndsAt xs held rank r (slice_index start r) (slice_index end r)

-- Who is in a serial order of the criterion: all, or those that are held.
abbrev pub members_of : Criterion → ℕ → ℕ → ℕ
members_of Opacity n held = 2 ^ n - 1
members_of Strict n held = held

-- Of the first n the mask has those for which it holds, and no others.
pub record Marks (holds : View → Bool) (xs : List View) (n mask : ℕ) : Type 0 where
  pub below : (i : ℕ) (x : View) → i < n → slice_get xs i ≡ Some x → (bit_at mask i == 1) ≡ holds x
  pub rest : (i : ℕ) → n ≤ i → bit_at mask i ≡ 0

abbrev pub has_committed : View → Bool
has_committed x = is_committed x.status

abbrev pub has_asked : View → Bool
has_asked x = is_pending x.status

-- The masks of those that have committed, and of those that are pending.
pub record ShowsStatus (xs : List View) (committed pending : ℕ) : Type 0 where
  pub committed_at : Marks has_committed xs (length xs) committed
  pub pending_at : Marks has_asked xs (length xs) pending

-- What they do is told of eight registers.
abbrev pub HasEight : Effect → Type 0
HasEight e = (length e.needs ≡ 8) × (length e.leaves ≡ 8)

abbrev pub HaveEight : List cuts.Txn → Type 0
HaveEight items = (i : ℕ) (x : cuts.Txn) → slice_get items i ≡ Some x → HasEight (effect_of x)

-- For all events whose transactions these are: no legal serial order begins from the start. `Explains`: some does.
abbrev pub Refutes : Criterion → List cuts.Txn → State → Type 0
Refutes criterion items start = (events : List Event) → map view items ≡ views_of events → (end : State)
    → EndsBy criterion (Only start) (transactions events) end → ⊥

abbrev pub NoneExplains : Criterion → List cuts.Txn → List State → Type 0
NoneExplains criterion items starts = (start : State) → Contains starts start → Refutes criterion items start

abbrev pub Explains : Criterion → List cuts.Txn → State → Type 0
Explains criterion items start = (events : List Event) → map view items ≡ views_of events
    → (end : State) × EndsBy criterion (Only start) (transactions events) end

-- In the order of their first events: those that precede one began before it, and precede each that began later.
pub record AreRising (xs : List View) : Type 0 where
  pub earlier : (i j : ℕ) (y : View) → slice_get xs j ≡ Some y → In y.before i → i < j
  pub later : (i j k : ℕ) (y z : View) → slice_get xs j ≡ Some y → slice_get xs k ≡ Some z → j ≤ k → In y.before i → In z.before i

-- The place itself, and those before it that the mask has, if it has the place too.
abbrev pub IsRow : ℕ → ℕ → ℕ → ℕ → Type 0
IsRow mask before place row = (i : ℕ) → i < 8 → In row i ↔ ((i ≡ place) ⊎ (In mask place × In mask i × In before i))

-- Of those in the mask, who precedes whom in real time.
pub record Begins (mask : ℕ) (xs : List View) (reach : List ℕ) : Type 0 where
  pub each : (i j : ℕ) (y : View) → i < 8 → slice_get xs j ≡ Some y → (i ≡ j → ⊥)
      → In (slice_index reach j) i ↔ (In mask j × In mask i × In y.before i)
  pub none : (i j : ℕ) → i < 8 → j < 8 → (i ≡ j → ⊥) → length xs ≤ j → In (slice_index reach j) i → ⊥

-- Each of the mask answers its own later reads by its earlier operations.
abbrev pub Agree : List Effect → ℕ → Type 0
Agree xs mask = (j : ℕ) → j < 8 → In mask j → IsTrue (get_or xs j idle).agrees

-- What each of the mask needs, and who of it writes each register.
abbrev pub ShowReads : List Effect → ℕ → List ℕ → Type 0
ShowReads xs mask reads = (j r : ℕ) → j < 8 → r < 8 → In (slice_index reads j) r ↔ (In mask j × Needs xs j r)

abbrev pub ShowWriters : List Effect → ℕ → List ℕ → Type 0
ShowWriters xs mask writers = (r k : ℕ) → r < 8 → k < 8 → In (slice_index writers r) k ↔ (In mask k × Leaves xs k r)

-- Those that may be in a serial order: by strict serializability only what a completion may hold.
abbrev pub orderly : Criterion → ℕ → ℕ → ℕ
orderly Opacity committed pending = 255
orderly Strict committed pending = bit_or committed pending

-- Each need of a member is looked at.
abbrev pub ReadsAll : List Effect → Node → Type 0
ReadsAll xs node = (j r : ℕ) → j < 8 → r < 8 → In node.members j → Needs xs j r → IsRead node.choices j r

-- What is known of all serial orders of a completion that holds these: who precedes whom. No source of a read is chosen.
pub record IsRoot (criterion : Criterion) (xs : List Effect) (n : ℕ) (reach : List ℕ) (held : ℕ) (node : Node) : Type 0 where
  pub masks : node.reach ≡ reach
  pub holds : node.held ≡ held
  pub members : node.members ≡ members_of criterion n held
  pub reads : ReadsAll xs node
  pub free : (j r : ℕ) → j < 8 → r < 8 → source_at node.choices j r ≡ Open
