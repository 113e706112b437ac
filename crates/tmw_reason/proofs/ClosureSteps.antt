-- A step that follows from others can be put behind them, and is told by all.
use Rattle.tmw_reason.proofs.Shared.{Asked, ChangedFirst, DerivesIn, IsTrue, List, None, Option, ReasonStep, Some, ValueSource, [], and_from, and_parts, ap, arith, ends_before, eq-eqb, follows, has_writer, inl, inr, is_known_rival, is_same_source, is_same_writer, length, list_any-append, orders, refl, slice_get, slice_get_past, suc, take-append-le, tells, zero, ℕ, ◌++◌, ◌<◌, ◌==◌, ◌∷◌, ◌≡◌, ◌⊎◌}
use Rattle.std.proofs.Math.Seq.{take-append_seam}
use Rattle.tmw_reason.proofs.ListFacts.{any-last}

-- a place of a list with one more
last_or : {A : Type 0} (xs : List A) (x y : A) (i : ℕ) → slice_get (xs ++ x ∷ []) i ≡ Some y
    → ((i < length xs) × (slice_get xs i ≡ Some y)) ⊎ ((i ≡ length xs) × (x ≡ y))
last_or [] x y zero at = inr (refl, cc)
last_or [] x y (suc i) at = absurd (cc)
last_or (z ∷ xs) x y zero at = inl (omega arith, at)
last_or (z ∷ xs) x y (suc i) at =
    elim (last_or xs x y i at) [
      | inl within ↦ inl (omega (arith, within.0), within.1)
      | inr last ↦ inr (ap (λ n. suc n) last.0, last.1)
    ]

-- steps that are all assumed
pub derives-assumed : (w : Asked) (steps : List ReasonStep) → DerivesIn w (length steps) steps
derives-assumed w steps = λ i y low at. absurd (let none = slice_get_past steps i low in cc)

-- a step that follows can be added
pub derives-push : (w : Asked) (assumed : ℕ) (steps : List ReasonStep) (x : ReasonStep) → DerivesIn w assumed steps
    → IsTrue (follows w.criterion w.states w.transactions steps x) → DerivesIn w assumed (steps ++ x ∷ [])
derives-push w assumed steps x derives new = λ i y low at.
    elim (last_or steps x y i at) [
      | inl within ↦ rw (take-append-le i steps (x ∷ []) (omega (arith, within.0))) (derives i y low within.1)
      | inr last ↦ rw (last.0, take-append_seam steps (x ∷ []), ← last.1) new
    ]

ends-more : (steps : List ReasonStep) (x : ReasonStep) (a : ℕ) (w : Option ℕ) → IsTrue (ends_before steps a w) → IsTrue (ends_before (steps ++ x ∷ []) a w)
ends-more steps x a None is = absurd (cc)
ends-more steps x a (Some b) is = grind (arith, list_any-append)

-- what is told stays told
pub tells-more : (steps : List ReasonStep) (x y : ReasonStep) → IsTrue (tells steps y) → IsTrue (tells (steps ++ x ∷ []) y)
tells-more steps x (ChangedFirst rival left s) is = ends-more steps x rival s.writer is
tells-more steps x y is = grind (arith, list_any-append)

same : (n : ℕ) → IsTrue (n == n)
same n = eq-eqb n n refl

same_writers : (w : Option ℕ) → IsTrue (is_same_writer w w)
same_writers None = refl
same_writers (Some a) = same a

itself : (s : ValueSource) → IsTrue (is_same_source s s)
itself s = grind (arith, same, same_writers)

writer_told : (steps : List ReasonStep) (rival left : ℕ) (s : ValueSource) (w : Option ℕ) → s.writer ≡ w → IsTrue (has_writer s)
    → IsTrue (ends_before (steps ++ ChangedFirst rival left s ∷ []) rival w)
writer_told steps rival left s None is has = absurd (let bad = rw is at has in cc)
writer_told steps rival left s (Some b) is has =
    any-last (orders rival b) steps (ChangedFirst rival left s) (and_from (rival == rival) _ (same rival) (rw is (same b)))

-- and a step that follows is told once it is added
pub tells-itself : (w : Asked) (steps : List ReasonStep) (x : ReasonStep) → IsTrue (follows w.criterion w.states w.transactions steps x)
    → IsTrue (tells (steps ++ x ∷ []) x)
tells-itself w steps (ChangedFirst rival left s) new =
    let more = (and_parts (is_known_rival w.transactions steps s rival left) _ new).1 in
    writer_told steps rival left s s.writer refl (and_parts (has_writer s) _ more).0
tells-itself w steps x new = grind (arith, list_any-append, same, itself)
