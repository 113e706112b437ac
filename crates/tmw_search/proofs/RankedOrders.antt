-- Completions and legal serial orders of a window's transactions, and the rankings that show them.
use Rattle.tmw_search.proofs.Shared.{Criterion, Effect, EndsBy, EndsIn, In, IsTrue, List, Only, Op, Some, State, Txn, View, after_writes, bit, bit_at, false, get_or, idle, if◌then◌else◌, length, may_hold, members_of, operations, precedes, reads_hold, slice_get, slice_index, status_of, true, ℕ, ◌<◌, ◌==◌, ◌^◌, ◌↔◌, ◌≡◌, ◌≤◌}

-- It is what the operations do: they are answered what the registers hold just where they agree with one another and each register
-- that they need holds what they need, and they leave what is told in the registers that they write, and keep the others.
pub record ActsAs (d : Effect) (ops : List Op) : Type 0 where
  pub reads : (s : State) → length s ≡ 8
      → IsTrue (reads_hold s ops) ↔ (IsTrue d.agrees × ((r : ℕ) → r < 8 → bit_at d.needed r ≡ 1 → slice_index s r ≡ slice_index d.needs r))
  pub leaves : (s : State) (r : ℕ) → length s ≡ 8 → r < 8
      → slice_index (after_writes s ops) r ≡ (if bit_at d.left r == 1 then slice_index d.leaves r else slice_index s r)

abbrev pub ActAs : List Effect → List Txn → Type 0
ActAs xs ts = (i : ℕ) (t : Txn) → slice_get ts i ≡ Some t → ActsAs (get_or xs i idle) (operations t.text)

-- A completion holds these: each committed one, any of the pending ones, and no other.
pub record IsCompletion (ts : List Txn) (held : ℕ) : Type 0 where
  pub may : (i : ℕ) (t : Txn) → slice_get ts i ≡ Some t → IsTrue (may_hold (status_of t.text) (bit_at held i == 1))
  pub none : (i : ℕ) → i < 8 → length ts ≤ i → bit_at held i ≡ 0

-- The masks tell which of the members precede which in real time. None is told to come behind one that is no member.
pub record ShowsOrder (ts : List Txn) (members : ℕ) (mat : List ℕ) : Type 0 where
  pub each : (i j : ℕ) (t u : Txn) → slice_get ts i ≡ Some t → slice_get ts j ≡ Some u → In members i → In members j
      → precedes t u ≡ true → bit_at (slice_index mat j) i ≡ 1
  pub only : (i j : ℕ) → i < 8 → j < 8 → (i ≡ j → ⊥) → bit_at (slice_index mat j) i ≡ 1
      → (t : Txn) × (u : Txn) × (slice_get ts i ≡ Some t) × (slice_get ts j ≡ Some u) × In members i × (precedes t u ≡ true)

-- Some completion and some legal serial order of its members end in the state.
abbrev pub RanksTo : Criterion → List Effect → List Txn → List ℕ → State → State → Type 0
RanksTo criterion xs ts mat start end =
    (held : ℕ) × IsCompletion ts held × EndsIn xs start mat (members_of criterion (length ts) held) held end

-- THE LAW (proved for both criteria, proofs/LegalOrdersProof.antt, of ActAs, ShowsOrder for each completion's members, at most 8 transactions, a start
-- of 8 registers): what legal serial orders end in is what rankings end in.
abbrev pub AreRanked : Criterion → List Effect → List Txn → List ℕ → State → Type 0
AreRanked criterion xs ts mat start = (end : State) → EndsBy criterion (Only start) ts end ↔ RanksTo criterion xs ts mat start end

-- the operations and the status are the transaction's, and bit i of `before` tells whether transaction i precedes it
pub record ShowsTransaction (ts : List Txn) (x : View) (t : Txn) : Type 0 where
  pub ops : x.ops ≡ operations t.text
  pub status : x.status ≡ status_of t.text
  pub fits : x.before < 2 ^ length ts
  pub bits : (i : ℕ) (u : Txn) → slice_get ts i ≡ Some u → bit_at x.before i ≡ bit (precedes u t)

-- each of these shows the transaction at its place
pub record ShowsTransactions (xs : List View) (ts : List Txn) : Type 0 where
  pub same_length : length xs ≡ length ts
  pub each : (i : ℕ) (x : View) (t : Txn) → slice_get xs i ≡ Some x → slice_get ts i ≡ Some t → ShowsTransaction ts x t

-- no transaction precedes itself
abbrev pub NoneBeforeItself : List Txn → Type 0
NoneBeforeItself ts = (i : ℕ) (t : Txn) → slice_get ts i ≡ Some t → precedes t t ≡ false
