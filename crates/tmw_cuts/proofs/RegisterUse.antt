-- What operations write, need and leave where others follow them.
use Rattle.tmw_cuts.proofs.Shared.{Add, IsMaskOf, Ix, List, Op, Read, Write, [], ap, arith, cases_Bool, eqb-true, inl, inr, needs, not, refl, sym, writes, ℕ, ◌&&◌, ◌++◌, ◌==◌, ◌||◌, ◌∙◌, ◌∷◌, ◌≡◌}
use Rattle.tmw_cuts.proofs.Chosen.{with_bit, with_new, has_bit-with_bit}

-- a write more
writes-more : (ops : List Op) (r : Ix) (v k : ℕ) → writes k (ops ++ Write r v ∷ []) ≡ ((r.number == k) || writes k ops)
writes-more [] r v k = refl
writes-more (op ∷ ops) r v k = let more = writes-more ops r v k in grind arith

pub with-write : (mask : ℕ) (ops : List Op) (r : Ix) (v : ℕ) → IsMaskOf (λ k. writes k ops) mask
    → IsMaskOf (λ k. writes k (ops ++ Write r v ∷ [])) (with_bit mask r.number)
with-write mask ops r v is k =
    has_bit-with_bit mask r.number k r.below ∙ ap (λ b. (r.number == k) || b) (is k) ∙ sym (writes-more ops r v k)

pub needs-write : (ops : List Op) (r : Ix) (v k : ℕ) → needs k (ops ++ Write r v ∷ []) ≡ needs k ops
needs-write [] r v k = grind arith
needs-write (op ∷ ops) r v k = let more = needs-write ops r v k in grind arith

-- a read more
pub writes-read : (ops : List Op) (r : Ix) (v k : ℕ) → writes k (ops ++ Read r v ∷ []) ≡ writes k ops
writes-read [] r v k = refl
writes-read (op ∷ ops) r v k = let more = writes-read ops r v k in grind arith

-- a register is needed that was needed before, or is read and was not written
needs-more : (ops : List Op) (r : Ix) (v k : ℕ)
    → needs k (ops ++ Read r v ∷ []) ≡ (needs k ops || (r.number == k) && not (writes k ops))
needs-more [] r v k = grind arith
needs-more (op ∷ ops) r v k = let more = needs-more ops r v k in grind arith

pub with-read : (left mask : ℕ) (ops : List Op) (r : Ix) (v : ℕ) → IsMaskOf (λ k. writes k ops) left → IsMaskOf (λ k. needs k ops) mask
    → IsMaskOf (λ k. needs k (ops ++ Read r v ∷ [])) (with_new left mask r.number)
with-read left mask ops r v written is k =
    rw (needs-more ops r v k, ← is k, ← written k) (elim (cases_Bool (r.number == k)) [
      | inl same ↦
          rw (← eqb-true r.number k same) (let bit = has_bit-with_bit mask r.number r.number r.below in grind arith)
      | inr other ↦ let bit = has_bit-with_bit mask r.number k r.below in grind arith
    ])

-- an add is a read and then a write
pub writes-add : (ops : List Op) (r : Ix) (d v s k : ℕ)
    → writes k ((ops ++ Read r v ∷ []) ++ Write r s ∷ []) ≡ writes k (ops ++ Add r d v ∷ [])
writes-add [] r d v s k = refl
writes-add (op ∷ ops) r d v s k = let more = writes-add ops r d v s k in grind arith

pub needs-add : (ops : List Op) (r : Ix) (d v s k : ℕ)
    → needs k ((ops ++ Read r v ∷ []) ++ Write r s ∷ []) ≡ needs k (ops ++ Add r d v ∷ [])
needs-add [] r d v s k = grind arith
needs-add (op ∷ ops) r d v s k = let more = needs-add ops r d v s k in grind arith
