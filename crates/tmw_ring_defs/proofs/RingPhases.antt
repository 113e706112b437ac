-- What the phases of a ring's writers are after one was set, and how many of them are cleared.
use Rattle.tmw_ring_defs.proofs.Shared.{Bool, Claimed, Idle, Kind, List, Some, WriterPhase, [], ap, arith, cleared, inl, inr, length, one_if_cleared, refl, replicate, same_Some, slice_get, slice_set, suc, zero, ℕ, ◌+◌, ◌<◌, ◌∷◌, ◌≡◌, ◌≢◌, ◌≤◌, ◌⊎◌}

-- The set writer has the new phase.
pub phase_set : (phases : List WriterPhase) (writer : ℕ) (phase : WriterPhase) → writer < length phases
    → slice_get (slice_set phases writer phase) writer ≡ Some phase
phase_set [] writer phase within = absurd (omega arith)
phase_set (first ∷ phases) zero phase within = refl
phase_set (first ∷ phases) (suc writer) phase within = phase_set phases writer phase (omega arith)

-- Every other writer has the one it had.
pub phase_kept : (phases : List WriterPhase) (writer other : ℕ) (phase : WriterPhase) → other ≢ writer
    → slice_get (slice_set phases writer phase) other ≡ slice_get phases other
phase_kept [] writer other phase apart = refl
phase_kept (first ∷ phases) zero zero phase apart = absurd (apart refl)
phase_kept (first ∷ phases) zero (suc other) phase apart = refl
phase_kept (first ∷ phases) (suc writer) zero phase apart = refl
phase_kept (first ∷ phases) (suc writer) (suc other) phase apart = phase_kept phases writer other phase (λ same. apart (ap suc same))

-- So whoever has a phase is the set writer, with the new one, or another, which had it.
pub phase_cases : (phases : List WriterPhase) (writer other : ℕ) (phase found : WriterPhase)
    → slice_get (slice_set phases writer phase) other ≡ Some found
    → ((other ≡ writer) × (phase ≡ found)) ⊎ ((other ≢ writer) × (slice_get phases other ≡ Some found))
phase_cases [] writer other phase found at = absurd (cc)
phase_cases (first ∷ phases) zero zero phase found at = inl (refl, (cc))
phase_cases (first ∷ phases) zero (suc other) phase found at = inr (
  (λ same. absurd (
      omega arith)),
  at,
)
phase_cases (first ∷ phases) (suc writer) zero phase found at = inr ((λ same. absurd (omega (arith, same))), at)
phase_cases (first ∷ phases) (suc writer) (suc other) phase found at =
    grind (arith, (phase_cases phases writer other phase found at))

-- Those who have two phases are two.
pub two_writers : (phases : List WriterPhase) (a b : ℕ) (p q : WriterPhase) → slice_get phases a ≡ Some p → slice_get phases b ≡ Some q
    → p ≢ q → a ≢ b
two_writers phases a b p q at_a at_b apart same = apart (let at = rw same at at_a in cc)

-- Claims of one phase are one claim.
pub claimed_parts : (p q : ℕ) (k l : Kind) (f g : Bool) → Claimed p k f ≡ Claimed q l g → (p ≡ q) × (k ≡ l) × (f ≡ g)
claimed_parts p q k l f g same = (cc, cc, cc)

-- The old phase counts no more, and the new one does.
pub cleared-set : (phases : List WriterPhase) (writer : ℕ) (old new : WriterPhase) → slice_get phases writer ≡ Some old
    → cleared (slice_set phases writer new) + one_if_cleared old ≡ cleared phases + one_if_cleared new
cleared-set [] writer old new at = absurd (cc)
cleared-set (first ∷ phases) zero old new at = grind arith
cleared-set (first ∷ phases) (suc writer) old new at =
    let rest = cleared-set phases writer old new at in omega arith

one_if_cleared-le : (phase : WriterPhase) → one_if_cleared phase ≤ 1
one_if_cleared-le phase = grind arith

cleared-le : (phases : List WriterPhase) → cleared phases ≤ length phases
cleared-le [] = omega arith
cleared-le (first ∷ phases) = omega (arith, one_if_cleared-le first, cleared-le phases)

-- Where one is not cleared, fewer than all are.
pub cleared-lt : (phases : List WriterPhase) (writer : ℕ) (phase : WriterPhase) → slice_get phases writer ≡ Some phase
    → one_if_cleared phase ≡ 0 → cleared phases < length phases
cleared-lt [] writer phase at other = absurd (cc)
cleared-lt (first ∷ phases) zero phase at other = grind (arith, cleared-le)
cleared-lt (first ∷ phases) (suc writer) phase at other =
    omega (arith, one_if_cleared-le first, cleared-lt phases writer phase at other)

-- At the start every writer is idle, and none is cleared.
pub all_idle : (count writer : ℕ) (phase : WriterPhase) → slice_get (replicate count Idle) writer ≡ Some phase → Idle ≡ phase
all_idle zero writer phase at = absurd (cc)
all_idle (suc count) zero phase at = same_Some Idle phase at
all_idle (suc count) (suc writer) phase at = all_idle count writer phase at

pub cleared-idle : (count : ℕ) → cleared (replicate count Idle) ≡ 0
cleared-idle zero = refl
cleared-idle (suc count) = omega (arith, cleared-idle count)
