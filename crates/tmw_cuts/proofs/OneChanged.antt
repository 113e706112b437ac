-- A list of transactions with one changed.
use Rattle.tmw_cuts.proofs.Shared.{List, Some, View, [], ap, arith, cases_lt, change, get_or, get_or-take, inl, inr, length, length-map, length-take-le, map, refl, slice_get, slice_set, suc, sym, take, take-set-le, view, zero, ℕ, ◌<◌, ◌∙◌, ◌∷◌, ◌≡◌, ◌≤◌}
use Rattle.tmw_cuts.specs.declared.txn.Txn.{Txn}
use Rattle.std.proofs.Math.Seq.{take-set-lt}

change-at : (f : View → View) (txns : List Txn) (i : ℕ) (d new : Txn) → i < length txns
    → view new ≡ f (view (get_or txns i d)) → map view (slice_set txns i new) ≡ change i f (map view txns)
change-at f [] i d new within is = absurd (omega arith)
change-at f (t ∷ ts) zero d new within is = ap (λ s. s ∷ map view ts) is
change-at f (t ∷ ts) (suc i) d new within is = ap (λ ss. view t ∷ ss) (change-at f ts i d new (omega arith) is)

pub change-past : {A : Type 0} (f : A → A) (xs : List A) (i : ℕ) → length xs ≤ i → change i f xs ≡ xs
change-past f (x ∷ xs) (suc i) past = ap (λ ys. x ∷ ys) (change-past f xs i (omega arith))
change-past f _ i past = grind arith

-- the transaction at the place is changed, if it is one of those that are used
taken-change : (f : View → View) (txns : List Txn) (n i : ℕ) (old new : Txn) → n ≤ length txns
    → old ≡ get_or txns i old → view new ≡ f (view old)
    → map view (take n (slice_set txns i new)) ≡ change i f (map view (take n txns))
taken-change f txns n i old new within at is =
    let len : length (take n txns) ≡ n = length-take-le n txns within in
    elim (cases_lt i n) [
      | inl low ↦
          ap (map view) (take-set-lt n txns i new low)
          ∙ change-at f (take n txns) i old new (omega (arith, low, len))
          (is ∙ ap (λ t. f (view t)) (at ∙ sym (get_or-take n txns i old low)))
      | inr past ↦
          ap (map view) (take-set-le n txns i new past)
          ∙ sym (change-past f (map view (take n txns)) i (omega (arith, len, past, length-map (take n txns) view)))
    ]

-- so is one of eight
pub put-changes : (f : View → View) (slots : List Txn) (at place : ℕ) (old new : Txn) → length slots ≡ 8 → at ≡ place → old ≡ get_or slots at old
    → view new ≡ f (view old) → (count : ℕ) → count ≤ 8 → map view (take count (slice_set slots at new)) ≡ change place f (map view (take count slots))
put-changes f slots at place old new long is here does count few =
    rw is (taken-change f slots count place old new (omega (arith, few, long)) (rw is at here) does)

pub length-change : {A : Type 0} (f : A → A) (xs : List A) (i : ℕ) → length (change i f xs) ≡ length xs
length-change f (x ∷ xs) (suc i) = ap suc (length-change f xs i)
length-change f _ _ = refl

pub slice_get-change_here : {A : Type 0} (f : A → A) (xs : List A) (i : ℕ) (x : A) → slice_get xs i ≡ Some x → slice_get (change i f xs) i ≡ Some (f x)
slice_get-change_here f (y ∷ xs) (suc i) x at = slice_get-change_here f xs i x at
slice_get-change_here f _ i x at = grind arith

pub slice_get-change_other : {A : Type 0} (f : A → A) (xs : List A) (i j : ℕ) → (j ≡ i → ⊥) → slice_get (change i f xs) j ≡ slice_get xs j
slice_get-change_other f (x ∷ xs) (suc i) (suc j) other = slice_get-change_other f xs i j (λ same. other (ap suc same))
slice_get-change_other f (x ∷ xs) zero zero other = absurd (other refl)
slice_get-change_other f _ _ _ other = refl

-- what is changed and changed back stays
pub change-back : {A : Type 0} (f g : A → A) (xs : List A) (i : ℕ) → ((x : A) → slice_get xs i ≡ Some x → g (f x) ≡ x)
    → change i g (change i f xs) ≡ xs
change-back f g [] i back = refl
change-back f g (x ∷ xs) zero back = ap (λ y. y ∷ xs) (back x refl)
change-back f g (x ∷ xs) (suc i) back = ap (λ ys. x ∷ ys) (change-back f g xs i back)

-- two changes that do the same to the member there
pub change-alike : {A : Type 0} (f g : A → A) (xs : List A) (i : ℕ) → ((x : A) → slice_get xs i ≡ Some x → f x ≡ g x)
    → change i f xs ≡ change i g xs
change-alike f g [] i alike = refl
change-alike f g (x ∷ xs) zero alike = ap (λ y. y ∷ xs) (alike x refl)
change-alike f g (x ∷ xs) (suc i) alike = ap (λ ys. x ∷ ys) (change-alike f g xs i alike)

pub change-nothing : {A : Type 0} (xs : List A) (i : ℕ) → change i (λ x. x) xs ≡ xs
change-nothing [] i = refl
change-nothing (x ∷ xs) zero = refl
change-nothing (x ∷ xs) (suc i) = ap (λ ys. x ∷ ys) (change-nothing xs i)
