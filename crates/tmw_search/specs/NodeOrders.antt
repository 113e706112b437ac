-- Which orders of a node are legal, and what follows from its reads.
use Rattle.tmw_search.specs.Shared.{Effect, State, bit_at, effect_of}
use Rattle.std.specs.Prelude.{Bool, IsFalse, IsTrue, List, [], false, get_or, map, slice_index, ℕ, ◌<◌, ◌↔◌, ◌≡◌, ◌≤◌, ◌⊎◌}
use Rattle.tmw_search.specs.declared.source_choices.ReadSource.{ReadSource}
use Rattle.tmw_search.specs.declared.source_choices.ReadSource.TheVariants.{Open, Start, From}
use Rattle.tmw_cuts.specs.declared.txn.Txn.{Txn}
use Rattle.tmw_search.specs.declared.node.Node.{Node}
use Rattle.tmw_search.specs.declared.node.Branch.{Branch}
use Rattle.tmw_search.specs.Precedence.{Has, IsOrder, IsRanking, IsRead, source_at}

-- At a place without a transaction: it is never a member, since it does not agree with itself.
abbrev pub idle : Effect
idle = record { needs = []; leaves = []; needed = 0; left = 0; agrees = false }

abbrev pub effects : List Txn → List Effect
effects items = map effect_of items

-- The one at the place needs the register, and this value there; it leaves the register, and this value there.
abbrev pub Needs : List Effect → ℕ → ℕ → Type 0
Needs xs j r = bit_at (get_or xs j idle).needed r ≡ 1

abbrev pub need_at : List Effect → ℕ → ℕ → ℕ
need_at xs j r = slice_index (get_or xs j idle).needs r

abbrev pub Leaves : List Effect → ℕ → ℕ → Type 0
Leaves xs i r = bit_at (get_or xs i idle).left r ≡ 1

abbrev pub left_at : List Effect → ℕ → ℕ → ℕ
left_at xs i r = slice_index (get_or xs i idle).leaves r

-- The mask has it.
abbrev pub In : ℕ → ℕ → Type 0
In mask i = bit_at mask i ≡ 1

-- A writer of the register: one that is held and leaves a value there.
abbrev pub Writes : List Effect → ℕ → ℕ → ℕ → Type 0
Writes xs held r k = (k < 8) × In held k × Leaves xs k r

pub record ReadsFrom (xs : List Effect) (held : ℕ) (rank : ℕ → ℕ) (j r i : ℕ) : Type 0 where
  pub writes : Writes xs held r i
  pub value : left_at xs i r ≡ need_at xs j r
  pub below : rank i < rank j
  pub others : (k : ℕ) → Writes xs held r k → (rank k ≤ rank i) ⊎ (rank j ≤ rank k)

pub record ReadsStart (xs : List Effect) (held : ℕ) (start : State) (rank : ℕ → ℕ) (j r : ℕ) : Type 0 where
  pub value : slice_index start r ≡ need_at xs j r
  pub others : (k : ℕ) → Writes xs held r k → rank j ≤ rank k

abbrev pub Reads : List Effect → ℕ → State → (ℕ → ℕ) → ℕ → ℕ → ReadSource → Type 0
Reads xs held start rank j r Open = ReadsStart xs held start rank j r ⊎ ((i : ℕ) × ReadsFrom xs held rank j r i)
Reads xs held start rank j r Start = ReadsStart xs held start rank j r
Reads xs held start rank j r (From i) = ReadsFrom xs held rank j r i

-- A legal order of the node: the completion holds what the node does and else only some of `may`, the ranks keep who precedes whom,
-- and the transactions in the order agree with themselves and read from their sources.
pub record IsLegal (xs : List Effect) (start : State) (may : ℕ) (node : Node) (held : ℕ) (rank : ℕ → ℕ) : Type 0 where
  pub ranking : IsRanking rank node.reach
  pub more : (i : ℕ) → i < 8 → In node.held i → In held i
  pub only : (i : ℕ) → i < 8 → In held i → In node.held i ⊎ In may i
  pub agree : (j : ℕ) → j < 8 → In node.members j ⊎ In held j → IsTrue (get_or xs j idle).agrees
  pub reads : (j r : ℕ) → j < 8 → r < 8 → In node.members j ⊎ In held j → Needs xs j r
      → Reads xs held start rank j r (source_at node.choices j r)

-- The node with these coming before one another.
abbrev pub ordered : Node → List ℕ → Node
ordered node reach = record node { reach = reach }

-- What a source has to be.
abbrev pub IsSound : List Effect → State → ℕ → ℕ → ℕ → ReadSource → Type 0
IsSound xs start held j r Open = Unit {0}
IsSound xs start held j r Start = slice_index start r ≡ need_at xs j r
IsSound xs start held j r (From i) = Writes xs held r i × (left_at xs i r ≡ need_at xs j r)

-- Whichever of `may` are held, in each order that keeps who precedes whom the read has its value, from its source if one is chosen.
abbrev pub Settles : List Effect → State → ℕ → Node → ℕ → ℕ → Type 0
Settles xs start may node j r = (held : ℕ) (rank : ℕ → ℕ) → IsRanking rank node.reach → ((i : ℕ) → i < 8 → In node.held i → In held i)
    → ((i : ℕ) → i < 8 → In held i → In node.held i ⊎ In may i) → Reads xs held start rank j r (source_at node.choices j r)

-- What the node says is so, where beside those that it holds these may be held. A read is looked at, or it is settled.
pub record IsNode (xs : List Effect) (start : State) (may : ℕ) (node : Node) : Type 0 where
  pub order : IsOrder node.reach
  pub writers : (r k : ℕ) → r < 8 → k < 8 → In (slice_index node.choices.writers r) k ↔ (In node.held k × Leaves xs k r)
  pub reads : (j r : ℕ) → j < 8 → r < 8 → IsRead node.choices j r → In node.members j × Needs xs j r
  pub rest : (j r : ℕ) → j < 8 → r < 8 → In node.members j → Needs xs j r → IsRead node.choices j r ⊎ Settles xs start may node j r
  pub members : (i : ℕ) → i < 8 → In node.held i → In node.members i
  pub agree : (j : ℕ) → j < 8 → In node.members j → IsTrue (get_or xs j idle).agrees
  pub sound : (j r : ℕ) → j < 8 → r < 8 → IsSound xs start node.held j r (source_at node.choices j r)

-- The found node has an order, and each order that keeps who precedes whom there is legal for the node, with those held that are there.
pub record IsFound (xs : List Effect) (start : State) (may : ℕ) (node found : Node) : Type 0 where
  pub order : IsOrder found.reach
  pub rank : ℕ → ℕ
  pub ranking : IsRanking rank found.reach
  pub legal : (rank : ℕ → ℕ) → IsRanking rank found.reach → IsLegal xs start may node found.held rank

abbrev pub HasNone : List Effect → State → ℕ → Node → Type 0
HasNone xs start may node = (held : ℕ) (rank : ℕ → ℕ) → IsLegal xs start may node held rank → ⊥

-- All ways to choose the source of an open read.
pub record IsBranch (xs : List Effect) (start : State) (may : ℕ) (node : Node) (b : Branch) : Type 0 where
  pub reader : b.reader < 8
  pub register : b.register < 8
  pub read : IsRead node.choices b.reader b.register
  pub free : source_at node.choices b.reader b.register ≡ Open
  pub from_start : IsTrue b.start → slice_index start b.register ≡ need_at xs b.reader b.register
  pub from : (i : ℕ) → i < 8 → In b.writers i → (In node.held i ⊎ (In may i × IsTrue (get_or xs i idle).agrees))
      × Leaves xs i b.register × (left_at xs i b.register ≡ need_at xs b.reader b.register)
  pub all : (held : ℕ) (rank : ℕ → ℕ) → IsLegal xs start may node held rank
      → (IsTrue b.start × ReadsStart xs held start rank b.reader b.register)
      ⊎ ((i : ℕ) × (i < 8) × In b.writers i × ReadsFrom xs held rank b.reader b.register i)

-- The source may be given to the open read.
abbrev pub MayGive : List Effect → State → ℕ → Node → ℕ → ℕ → ReadSource → Type 0
MayGive xs start may node j r Open = ⊥
MayGive xs start may node j r Start = slice_index start r ≡ need_at xs j r
MayGive xs start may node j r (From i) = (i < 8) × (In node.held i ⊎ (In may i × IsTrue (get_or xs i idle).agrees))
    × Leaves xs i r × (left_at xs i r ≡ need_at xs j r)

-- The node with the source given: its orders are those of the other in which the read has its value from there.
pub record Gives (xs : List Effect) (start : State) (may : ℕ) (node : Node) (j r : ℕ) (source : ReadSource) (next : Node) : Type 0 where
  pub is : IsNode xs start may next
  pub into : (held : ℕ) (rank : ℕ → ℕ) → IsLegal xs start may next held rank → IsLegal xs start may node held rank
  pub onto : (held : ℕ) (rank : ℕ → ℕ) → IsLegal xs start may node held rank → Reads xs held start rank j r source
      → IsLegal xs start may next held rank
  pub reach : next.reach ≡ node.reach
  pub given : source_at next.choices j r ≡ source
  pub reads : (a q : ℕ) → a < 8 → q < 8 → IsRead node.choices a q → IsRead next.choices a q
  pub others : (a q : ℕ) → q < 8 → ((a ≡ j) × (q ≡ r) → ⊥) → source_at next.choices a q ≡ source_at node.choices a q

-- It agrees with itself, leaves in the register what the read needs, and is not known to come after the reader. It may be held or not.
pub record MayBe (xs : List Effect) (node : Node) (j r i : ℕ) : Type 0 where
  pub leaves : Leaves xs i r
  pub value : left_at xs i r ≡ need_at xs j r
  pub agrees : IsTrue (get_or xs i idle).agrees
  pub free : Has node.reach j i → ⊥

-- the source is this one
abbrev pub FromIs : ReadSource → ℕ → Type 0
FromIs Open k = ⊥
FromIs Start k = ⊥
FromIs (From i) k = k ≡ i

-- The other node is the one with the source held, if it is a transaction.
pub record Holds (xs : List Effect) (start : State) (may : ℕ) (source : ReadSource) (old new : Node) : Type 0 where
  pub is : IsNode xs start may new
  pub reach : new.reach ≡ old.reach
  pub sources : new.choices.sources ≡ old.choices.sources
  pub held : (k : ℕ) → k < 8 → In new.held k ↔ (In old.held k ⊎ FromIs source k)
  pub members : (k : ℕ) → k < 8 → In new.members k ↔ (In old.members k ⊎ FromIs source k)
  pub reads : (a q : ℕ) → a < 8 → q < 8 → IsRead old.choices a q → IsRead new.choices a q

-- The legal orders of the one are those of the other, and there are none if the answer is no.
pub record Entails (xs : List Effect) (start : State) (may : ℕ) (old new : Node) (alive : Bool) : Type 0 where
  pub is : IsTrue alive → IsNode xs start may new
  pub into : (held : ℕ) (rank : ℕ → ℕ) → IsTrue alive → IsLegal xs start may new held rank → IsLegal xs start may old held rank
  pub onto : (held : ℕ) (rank : ℕ → ℕ) → IsLegal xs start may old held rank → IsTrue alive × IsLegal xs start may new held rank

-- What is known of each other read has stayed.
abbrev pub KeepsOthers : ℕ → ℕ → Node → Node → Type 0
KeepsOthers j r old new = (a q : ℕ) → a < 8 → q < 8 → ((a ≡ j) × (q ≡ r) → ⊥) → IsRead old.choices a q
    → IsRead new.choices a q × (source_at new.choices a q ≡ source_at old.choices a q)

-- What follows from the read is known.
pub record TakesIn (xs : List Effect) (start : State) (may j r : ℕ) (old new : Node) (alive : Bool) : Type 0 where
  pub follows : Entails xs start may old new alive
  pub others : KeepsOthers j r old new

-- The node with these reads looked at.
abbrev pub looking : Node → List ℕ → Node
looking node reads = record node { choices = record node.choices { reads = reads } }

-- No read but this one is left out, if any.
pub record LeavesOut (j r : ℕ) (old new : Node) : Type 0 where
  pub is : new ≡ looking old new.choices.reads
  pub only : (a q : ℕ) → a < 8 → q < 8 → IsRead new.choices a q → IsRead old.choices a q
  pub kept : (a q : ℕ) → a < 8 → q < 8 → ((a ≡ j) × (q ≡ r) → ⊥) → IsRead old.choices a q → IsRead new.choices a q

-- None of these may write the register.
abbrev pub NoneMay : List Effect → ℕ → ℕ → Type 0
NoneMay xs may r = (k : ℕ) → k < 8 → In may k → Leaves xs k r → ⊥

-- It is the one source that the branch offers.
abbrev pub IsOnly : Branch → ReadSource → Type 0
IsOnly b Open = ⊥
IsOnly b Start = IsTrue b.start × (b.writers ≡ 0)
IsOnly b (From i) = IsFalse b.start × (i < 8) × In b.writers i × ((k : ℕ) → k < 8 → In b.writers k → k ≡ i)

-- The reads that the masks tell of are looked at, and no source of them is chosen.
abbrev pub AllOpen : List ℕ → Node → Type 0
AllOpen reads node = (a q : ℕ) → a < 8 → q < 8 → In (slice_index reads a) q → IsRead node.choices a q × (source_at node.choices a q ≡ Open)
