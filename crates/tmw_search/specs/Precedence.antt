-- Who comes before whom: bit i of the mask at j says that i comes before j, or is it. What the sources say of a ranking, and what is
-- settled of them. What falls where a pair more is ordered, and how many reads are open.
use Rattle.tmw_search.specs.Shared.{bit_at, count_by}
use Rattle.std.specs.Prelude.{Bool, IsTrue, List, false, get_or, length, slice_index, suc, true, zero, ℕ, ◌*◌, ◌+◌, ◌-◌, ◌<◌, ◌≡◌, ◌≤◌, ◌⊎◌}
use Rattle.tmw_search.specs.declared.consequence.Consequence.{Consequence}
use Rattle.tmw_search.specs.declared.consequence.Consequence.TheVariants.{Never, Clear, Stuck}
use Rattle.tmw_search.specs.declared.source_choices.Choices.{Choices}
use Rattle.tmw_search.specs.declared.source_choices.ReadSource.{ReadSource}
use Rattle.tmw_search.specs.declared.source_choices.ReadSource.TheVariants.{Open, Start, From}

abbrev pub Has : List ℕ → ℕ → ℕ → Type 0
Has reach i j = bit_at (slice_index reach j) i ≡ 1

-- No two of the eight have the same rank, and none is ranked behind one that it comes before.
pub record IsRanking (rank : ℕ → ℕ) (reach : List ℕ) : Type 0 where
  pub apart : (i j : ℕ) → i < 8 → j < 8 → rank i ≡ rank j → i ≡ j
  pub kept : (i j : ℕ) → i < 8 → j < 8 → bit_at (slice_index reach j) i ≡ 1 → rank i ≤ rank j

pub record IsOrder (reach : List ℕ) : Type 0 where
  pub size : length reach ≡ 8
  pub fits : (k : ℕ) → slice_index reach k < 256
  pub self : (i : ℕ) → i < 8 → Has reach i i
  pub closed : (i j k : ℕ) → i < 8 → j < 8 → k < 8 → Has reach i j → Has reach j k → Has reach i k
  pub apart : (i j : ℕ) → i < 8 → j < 8 → Has reach i j → Has reach j i → i ≡ j

-- The second adds pairs to the first and loses no ranking with this property. If the answer is no, none has it.
pub record Narrows (P : (ℕ → ℕ) → Type 0) (old new : List ℕ) (alive : Bool) : Type 0 where
  pub order : IsOrder new
  pub grows : (i j : ℕ) → i < 8 → j < 8 → Has old i j → Has new i j
  pub all : (rank : ℕ → ℕ) → IsRanking rank old → P rank → IsRanking rank new
  pub told : (rank : ℕ → ℕ) → IsRanking rank old → P rank → IsTrue alive

-- The masks of the one, and where a mask has the place, also these.
pub record Joins (place before : ℕ) (reach next : List ℕ) : Type 0 where
  pub size : length next ≡ 8
  pub fits : (k : ℕ) → slice_index next k < 256
  pub keeps : (i k : ℕ) → k < 8 → Has reach i k → Has next i k
  pub adds : (i k : ℕ) → k < 8 → Has reach place k → bit_at before i ≡ 1 → Has next i k
  pub only : (i k : ℕ) → k < 8 → Has next i k → Has reach i k ⊎ (Has reach place k × (bit_at before i ≡ 1))

-- The first comes before the second, or is it.
abbrev pub Before : ℕ → ℕ → (ℕ → ℕ) → Type 0
Before i j rank = rank i ≤ rank j

-- The one comes before the first, or after the second, or is one of them.
abbrev pub Out : ℕ → ℕ → ℕ → (ℕ → ℕ) → Type 0
Out k i j rank = (rank k ≤ rank i) ⊎ (rank j ≤ rank k)

-- The first comes before the second, and none of the writers comes between them.
pub record IsSource (writers i j : ℕ) (rank : ℕ → ℕ) : Type 0 where
  pub before : rank i < rank j
  pub out : (k : ℕ) → k < 8 → bit_at writers k ≡ 1 → Out k i j rank

-- None of the others comes before it.
abbrev pub FromStart : ℕ → ℕ → (ℕ → ℕ) → Type 0
FromStart others j rank = (k : ℕ) → k < 8 → bit_at others k ≡ 1 → rank j ≤ rank k

-- It has been decided on which side of the two it is.
abbrev pub IsOut : List ℕ → ℕ → ℕ → ℕ → Type 0
IsOut reach k i j = Has reach k i ⊎ Has reach j k

abbrev pub lives : Consequence → Bool
lives Never = false
lives Clear = true
lives (Stuck i j k) = true

abbrev pub IfClear : Consequence → Type 0 → Type 0
IfClear Never A = Unit {0}
IfClear Clear A = A
IfClear (Stuck i j k) A = Unit {0}

-- Who precedes whom says that the first comes before the second, and none of the writers between them.
pub record IsSettled (writers i j : ℕ) (reach : List ℕ) : Type 0 where
  pub has : Has reach i j
  pub apart : i ≡ j → ⊥
  pub out : (k : ℕ) → k < 8 → bit_at writers k ≡ 1 → IsOut reach k i j

-- One has to be on one side of the other two, and it has not been decided on which.
pub record IsBetween (P : (ℕ → ℕ) → Type 0) (old : List ℕ) (i j k : ℕ) : Type 0 where
  pub first : i < 8
  pub second : j < 8
  pub third : k < 8
  pub out : (rank : ℕ → ℕ) → P rank → Out k i j rank
  pub free : IsOut old k i j → ⊥

abbrev pub IfStuck : Consequence → ((ℕ → ℕ) → Type 0) → List ℕ → Type 0
IfStuck Never P old = Unit {0}
IfStuck Clear P old = Unit {0}
IfStuck (Stuck i j k) P old = IsBetween P old i j k

-- The second masks lose no ranking with the property. If none has it, that is found; if all is clear, this is known of them; if stuck,
-- the third may still be on either side of the other two.
pub record Passes (P : (ℕ → ℕ) → Type 0) (D : List ℕ → Type 0) (old new : List ℕ) (found : Consequence) : Type 0 where
  pub narrows : Narrows P old new (lives found)
  pub clear : IfClear found (D new)
  pub stuck : IfStuck found P old

-- The ranking puts the read after its source and no writer between, or before all writers if its source is the start.
abbrev pub Sourced : ℕ → ℕ → ReadSource → (ℕ → ℕ) → Type 0
Sourced writers j Open rank = Unit {0}
Sourced writers j Start rank = FromStart writers j rank
Sourced writers j (From i) rank = IsSource writers i j rank

-- Who precedes whom decides it: each ranking that keeps that has the read's value come from its source.
abbrev pub SettledSource : ℕ → ℕ → ReadSource → List ℕ → Type 0
SettledSource writers j Open reach = Unit {0}
SettledSource writers j Start reach = (k : ℕ) → k < 8 → bit_at writers k ≡ 1 → Has reach j k
SettledSource writers j (From i) reach = IsSettled writers i j reach

abbrev pub WithinSource : ReadSource → Type 0
WithinSource Open = Unit {0}
WithinSource Start = Unit {0}
WithinSource (From i) = i < 8

abbrev pub source_at : Choices → ℕ → ℕ → ReadSource
source_at c j r = get_or c.sources (8 * j + r) Open

abbrev pub IsRead : Choices → ℕ → ℕ → Type 0
IsRead c j r = bit_at (slice_index c.reads j) r ≡ 1

-- So it is for each read of the transaction, or of all, that is looked at.
abbrev pub ChosenBy : Choices → ℕ → (ℕ → ℕ) → Type 0
ChosenBy c j rank = (r : ℕ) → r < 8 → IsRead c j r → Sourced (slice_index c.writers r) j (source_at c j r) rank

abbrev pub Chosen : Choices → (ℕ → ℕ) → Type 0
Chosen c rank = (j : ℕ) → j < 8 → ChosenBy c j rank

abbrev pub SettledBy : Choices → ℕ → List ℕ → Type 0
SettledBy c j reach = (r : ℕ) → r < 8 → IsRead c j r → SettledSource (slice_index c.writers r) j (source_at c j r) reach

abbrev pub AllSettled : Choices → List ℕ → Type 0
AllSettled c reach = (j : ℕ) → j < 8 → SettledBy c j reach

abbrev pub Within : Choices → Type 0
Within c = (j r : ℕ) → j < 8 → r < 8 → WithinSource (source_at c j r)

-- It is less where a pair more is ordered.
unfoldable pub room_of : List ℕ → ℕ → ℕ
room_of reach zero = 0
room_of reach (suc n) = room_of reach n + (256 - slice_index reach n)

abbrev pub room : List ℕ → ℕ
room reach = room_of reach 8

abbrev pub is_open : ReadSource → Bool
is_open Open = true
is_open Start = false
is_open (From i) = false

abbrev pub opens : Choices → ℕ
opens c = count_by is_open c.sources
