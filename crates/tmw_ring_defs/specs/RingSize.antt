-- Which numbers of cells, of writers and of places a ring may have.
use Rattle.std.specs.Prelude.{◌≡◌, ◌≤◌, ◌^◌, ℕ}
use Rattle.tmw_ring_defs.specs.declared.ring_fault.RingFault.{RingFault}
use Rattle.tmw_ring_defs.specs.declared.ring_fault.RingFault.TheVariants.{BadSize, BadLimit, Memory}
use Rattle.tmw_ring_defs.specs.declared.ring_size.RingSize.{RingSize}

-- 1 to 8 writers, no fewer cells than writers, and at most 4,096
pub record HasRoom (cells writers : ℕ) : Type 0 where
  pub some : 1 ≤ writers
  pub few : writers ≤ 8
  pub room : writers ≤ cells
  pub small : cells ≤ 4096

-- no fewer places in all than writers, and at most 2^40
pub record HasLimit (writers limit : ℕ) : Type 0 where
  pub room : writers ≤ limit
  pub small : limit ≤ 2 ^ 40

-- The size has these numbers.
pub record HasNumbers (cells writers limit : ℕ) (size : RingSize) : Type 0 where
  pub cells_are : size.cells ≡ cells
  pub writers_are : size.writers ≡ writers
  pub limit_is : size.limit ≡ limit

-- No ring may have these numbers, and the fault says why.
abbrev pub IsWrongSize : ℕ → ℕ → ℕ → RingFault → Type 0
IsWrongSize cells writers limit BadSize = HasRoom cells writers → ⊥
IsWrongSize cells writers limit BadLimit = HasRoom cells writers × (HasLimit writers limit → ⊥)
IsWrongSize cells writers limit Memory = ⊥

-- No ring was made of these numbers: no ring may have them, or there was no memory for one that may.
abbrev pub IsNoRing : ℕ → ℕ → ℕ → RingFault → Type 0
IsNoRing cells writers limit BadSize = IsWrongSize cells writers limit BadSize
IsNoRing cells writers limit BadLimit = IsWrongSize cells writers limit BadLimit
IsNoRing cells writers limit Memory = HasRoom cells writers × HasLimit writers limit
