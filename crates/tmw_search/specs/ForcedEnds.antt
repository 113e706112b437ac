-- What the reads of committed and aborted transactions need of the start of a serial order, and the ends of the starts that meet it.
use Rattle.tmw_search.specs.Shared.{Contains, Criterion, Effect, EndsBy, Event, Opacity, State, is_cut, transactions, view, views_of}
use Rattle.std.specs.Prelude.{IsTrue, List, length, map, slice_index, ℕ, ◌<◌, ◌↔◌, ◌≡◌, ◌≤◌, ◌⊎◌}
use Rattle.tmw_search.specs.NodeOrders.{In, Needs, Writes, left_at, need_at}
use Rattle.tmw_search.specs.declared.forced_ends.StartNeeds.{StartNeeds}
use Rattle.tmw_cuts.specs.declared.txn.Txn as cuts

-- One that is held leaves the value in the register.
abbrev pub IsLeft : List Effect → ℕ → ℕ → ℕ → Type 0
IsLeft xs held r value = (k : ℕ) × Writes xs held r k × (left_at xs k r ≡ value)

-- One that is held needs the value in the register, and none that is held leaves it there: the start has to hold it.
pub record NeedsOfStart (xs : List Effect) (held r value : ℕ) : Type 0 where
  pub reader : ℕ
  pub within : reader < 8
  pub taken : In held reader
  pub needs : Needs xs reader r
  pub is : value ≡ need_at xs reader r
  pub never : IsLeft xs held r value → ⊥

-- Each fixed register has to hold its value at the start, and each other that is read is open.
pub record ShowsNeeds (xs : List Effect) (held : ℕ) (needs : StartNeeds) : Type 0 where
  pub fixed : (r : ℕ) → r < 8 → In needs.fixed r → NeedsOfStart xs held r (slice_index needs.values r)
  pub all : (j r : ℕ) → j < 8 → r < 8 → Needs xs j r → In needs.fixed r ⊎ In needs.open r

-- The other needs are these, maybe with more, and those of the one at the place.
pub record TakesNeeds (xs : List Effect) (held place : ℕ) (old new : StartNeeds) : Type 0 where
  pub fixed : (r : ℕ) → r < 8 → In new.fixed r
      → (In old.fixed r × (slice_index new.values r ≡ slice_index old.values r)) ⊎ NeedsOfStart xs held r (slice_index new.values r)
  pub kept : (r : ℕ) → r < 8 → In old.fixed r ⊎ In old.open r → In new.fixed r ⊎ In new.open r
  pub all : (r : ℕ) → r < 8 → Needs xs place r → In new.fixed r ⊎ In new.open r

-- The state holds what is needed.
abbrev pub Meets : StartNeeds → State → Type 0
Meets needs state = (r : ℕ) → r < 8 → In needs.fixed r → slice_index state r ≡ slice_index needs.values r

-- The states of the set that hold what is needed hold the same in each register that is open.
abbrev pub AreAlike : StartNeeds → (State → Type 0) → Type 0
AreAlike needs S = (common : State) × ((s : State) → S s → Meets needs s → (r : ℕ) → r < 8 → In needs.open r → slice_index common r ≡ slice_index s r)

-- The state is the base with what the other holds in each register that has a writer.
pub record IsOverlaid (writers : List ℕ) (base other state : State) : Type 0 where
  pub size : length state ≡ 8
  pub written : (r k : ℕ) → r < 8 → k < 8 → In (slice_index writers r) k → slice_index state r ≡ slice_index other r
  pub rest : (r : ℕ) → r < 8 → ((k : ℕ) → k < 8 → In (slice_index writers r) k → ⊥) → slice_index state r ≡ slice_index base r

-- For each state of the set that holds what is needed, it was added with what the end holds where there is a writer, and nothing else was.
pub record AddsForced (needs : StartNeeds) (writers : List ℕ) (end : State) (S : State → Type 0) (old new : List State) : Type 0 where
  pub only : (e : State) → Contains new e → Contains old e ⊎ ((start : State) × S start × Meets needs start × IsOverlaid writers start end e)
  pub kept : (e : State) → Contains old e → Contains new e
  pub all : (start : State) → S start → Meets needs start → (e : State) × Contains new e × IsOverlaid writers start end e

-- Whatever events at a cut the transactions are of, and where this is an end of theirs by opacity from one of the starts, by each criterion their ends are
-- these, and at most so many.
abbrev pub AreForcedEnds : List cuts.Txn → List State → State → ℕ → List State → Type 0
AreForcedEnds items starts end cap ends = (criterion : Criterion) (events : List Event) → map view items ≡ views_of events → IsTrue (is_cut events)
    → EndsBy Opacity (Contains starts) (transactions events) end
    → (length ends ≤ cap) × ((s : State) → Contains ends s ↔ EndsBy criterion (Contains starts) (transactions events) s)
