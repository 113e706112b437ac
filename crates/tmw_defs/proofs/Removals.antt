-- What a list of transactions is once one is taken out, and that serial orders place just its members.
use Rattle.tmw_defs.proofs.Shared.{Bool, List, Placed, PlacesEach, Some, Txn, [], ap, arith, length, length-remove, list_all, remove, slice_get, slice_get_within, suc, sym, zero, ℕ, ◌&&◌, ◌∙◌, ◌∷◌, ◌≡◌}

and_swap : (a b c : Bool) → (a && (b && c)) ≡ (b && (a && c))
and_swap a b c = grind arith

-- what holds of each holds of the one at a place and of each of the others
pub list_all-remove : {A : Type 0} (p : A → Bool) (xs : List A) (i : ℕ) (x : A) → slice_get xs i ≡ Some x
    → list_all p xs ≡ (p x && list_all p (remove xs i))
list_all-remove p [] i x at = cc
list_all-remove p (y ∷ ys) zero x at = let same : y ≡ x = cc in ap (λ z. p z && list_all p ys) same
list_all-remove p (y ∷ ys) (suc i) x at =
    ap (λ b. p y && b) (list_all-remove p ys i x at) ∙ and_swap (p y) (p x) (list_all p (remove ys i))

-- a test of transactions passes for each in an order if and only if it does for each that the order places
pub list_all-places : (p : Txn → Bool) (ts : List Txn) (order : List Placed) → PlacesEach ts order
    → list_all (λ q. p q.txn) order ≡ list_all p ts
list_all-places p ts [] none_left = sym (ap (list_all p) none_left)
list_all-places p ts (q ∷ more) (i, at, rest) =
    ap (λ b. p q.txn && b) (list_all-places p (remove ts i) more rest) ∙ sym (list_all-remove p ts i q.txn at)

-- one less is left
pub length-taken : {A : Type 0} (n : ℕ) (xs : List A) (i : ℕ) (x : A) → length xs ≡ suc n → slice_get xs i ≡ Some x
    → length (remove xs i) ≡ n
length-taken n xs i x size at = grind (arith, length-remove, slice_get_within)
