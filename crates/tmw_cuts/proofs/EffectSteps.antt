-- What an effect has to tell with an operation more, and what is left of an add where it is an answer and then a write.
use Rattle.tmw_cuts.proofs.Shared.{Add, Effect, IsEffectOf, IsMaskOf, Ix, List, Op, Read, SumsUp, Write, [], and-true, bit_at, cases_Bool, eq-eqb, false, if◌then◌else◌, inl, inr, length, refl, set-get_or, slice_index, slice_set, sym, true, writes, ℕ, ◌%◌, ◌&&◌, ◌++◌, ◌+◌, ◌==◌, ◌^◌, ◌∙◌, ◌∷◌, ◌≡◌}
use Rattle.tmw_cuts.proofs.Chosen.{with_bit, with_new, with_bit-has}
use Rattle.tmw_cuts.proofs.Effects.{add-split, read-left, read-needed, read-first}
use Rattle.tmw_cuts.proofs.RegisterUse.{with-write, needs-write, writes-read, with-read, writes-add, needs-add}

pub with_read : (e f : Effect) (ops : List Op) (r : Ix) (v : ℕ) → IsEffectOf e ops → f.left ≡ e.left
    → f.needed ≡ with_new e.left e.needed r.number → SumsUp f (ops ++ Read r v ∷ []) → IsEffectOf f (ops ++ Read r v ∷ [])
with_read e f ops r v is left needed sums = (sums, (written, rw needed (with-read e.left e.needed ops r v is.1.0 is.1.1)))
  where
    written : IsMaskOf (λ k. writes k (ops ++ Read r v ∷ [])) f.left
    written k = rw left (is.1.0 k ∙ sym (writes-read ops r v k))

-- an answer of a register that the operations leave a value in
pub with_own : (e : Effect) (ops : List Op) (r : Ix) (v : ℕ) → IsEffectOf e ops → length e.leaves ≡ 8 → (bit_at e.left r.number == 1) ≡ true
    → IsEffectOf (record e { agrees = e.agrees && (slice_index e.leaves r.number == v) }) (ops ++ Read r v ∷ [])
with_own e ops r v is leaves own =
    with_read e _ ops r v is refl (rw own refl) (λ s long. read-left e ops r v is.0 s long leaves own)

-- an answer of another: the value is known that an answer before needs, or else this one
pub with_other : (e : Effect) (ops : List Op) (r : Ix) (v known : ℕ) → IsEffectOf e ops → length e.leaves ≡ 8 → length e.needs ≡ 8
    → (bit_at e.left r.number == 1) ≡ false → known ≡ (if bit_at e.needed r.number == 1 then slice_index e.needs r.number else v)
    → IsEffectOf (record e {
      agrees = e.agrees && (known == v);
      needed = with_bit e.needed r.number;
      needs = slice_set e.needs r.number known;
    }) (ops ++ Read r v ∷ [])
with_other e ops r v known is leaves needs unwritten is_known =
    with_read e _ ops r v is refl (rw unwritten refl) (λ s long. elim (cases_Bool (bit_at e.needed r.number == 1)) [
      | inl asked ↦ rw (is_known, asked, with_bit-has e.needed r.number r.below asked, set-get_or e.needs r.number 0)
          (read-needed e ops r v is.0 s long leaves needs unwritten asked)
      | inr new ↦ rw (is_known, new, eq-eqb v v refl, and-true e.agrees) (read-first e ops r v is.0 s long leaves needs unwritten new)
    ])

pub with_write : (e f : Effect) (ops : List Op) (r : Ix) (v : ℕ) → IsEffectOf e ops → f.left ≡ with_bit e.left r.number
    → f.needed ≡ e.needed → SumsUp f (ops ++ Write r v ∷ []) → IsEffectOf f (ops ++ Write r v ∷ [])
with_write e f ops r v is left needed sums =
    (sums, (rw left (with-write e.left ops r v is.1.0), λ k. rw needed (is.1.1 k ∙ sym (needs-write ops r v k))))

pub with_add : (e : Effect) (ops : List Op) (r : Ix) (d v : ℕ)
    → IsEffectOf e ((ops ++ Read r v ∷ []) ++ Write r ((v + d) % 2 ^ 64) ∷ []) → IsEffectOf e (ops ++ Add r d v ∷ [])
with_add e ops r d v is =
    let s = (v + d) % 2 ^ 64 in
    (add-split e ops r d v is.0, (λ k. is.1.0 k ∙ writes-add ops r d v s k, λ k. is.1.1 k ∙ needs-add ops r d v s k))
