-- How many states a set has: no list of different members is longer than the list of all members.
use Rattle.tmw_monitor.proofs.Shared.{All, AllPairs, Contains, HasMoreThan, List, MoreThan, State, [], ap, arith, false, get_or, length, remove, suc, sym, true, zero, ℕ, ◌<◌, ◌∙◌, ◌∷◌, ◌≡◌, ◌≢◌, ◌≤◌}
use Rattle.std.specs.Cmp.Lexicographic.{slice_cmp, on_texts}
use Rattle.std.specs.List.Sorted.{IsStrictlySortedBy}
use Rattle.std.specs.Ordering.{nat_cmp, eq_by_cmp}
use Rattle.std.proofs.lemmas.Cmp.{eq_by_cmp_equiv}
use Rattle.std.proofs.lemmas.List.Edits.{length-remove}
use Rattle.std.proofs.lemmas.List.Elements.{Contains-get_or}
use Rattle.std.proofs.lemmas.Map.Keys.{IsDistinct-from_sorted, apart_from_distinct}

-- one that is not the one taken out is still there
contains-remove : (ys : List State) (i : ℕ) (x z : State) → i < length ys → get_or ys i x ≡ x → (x ≡ z → ⊥) → Contains ys z
    → Contains (remove ys i) z
contains-remove [] i x z within is other has = absurd (omega arith)
contains-remove (y ∷ ys) zero x z within is other (zero, low, same) = absurd (other (sym is ∙ same))
contains-remove (y ∷ ys) zero x z within is other (suc k, low, same) = (k, omega arith, same)
contains-remove (y ∷ ys) (suc i) x z within is other (zero, low, same) = (0, omega arith, same)
contains-remove (y ∷ ys) (suc i) x z within is other (suc k, low, same) =
    let rest : Contains (remove ys i) z = contains-remove ys i x z (omega arith) is other (k, omega arith, same) in
    (suc rest.0, (let low = rest.1 in omega (arith, low)), rest.2)

length-le_among : (xs ys : List State) → AllPairs (λ s t. s ≢ t) xs → All (Contains ys) xs → length xs ≤ length ys
length-le_among [] ys differ among = omega arith
length-le_among (x ∷ xs) ys differ among =
    let first : Contains ys x = among 0 x (omega arith) in
    let low : first.0 < length ys = first.1 in
    let others : All (Contains (remove ys first.0)) xs =
    λ k d within. contains-remove ys first.0 x (get_or xs k d) low first.2 (differ 0 (suc k) d (omega arith) (omega arith))
    (among (suc k) d (omega arith)) in
    let rest = length-le_among xs (remove ys first.0) (λ i j d lower within. differ (suc i) (suc j) d (omega arith) (omega arith)) others in
    let less = length-remove ys first.0 low in
    omega (arith, rest, less)

-- a list of at most so many members is not one of more
pub not_more_among : (most : ℕ) (ys : List State) → length ys ≤ most → MoreThan most (Contains ys) → ⊥
not_more_among most ys few more = grind (arith, length-le_among)

differ-rising : (xs : List State) → IsStrictlySortedBy (slice_cmp nat_cmp) xs → AllPairs (λ s t. s ≢ t) xs
differ-rising xs rises i j d lower within same =
    let apart : eq_by_cmp (slice_cmp nat_cmp) (get_or xs i d) (get_or xs j d) ≡ false =
    apart_from_distinct (eq_by_cmp (slice_cmp nat_cmp)) xs i j d (IsDistinct-from_sorted (slice_cmp nat_cmp) xs rises) lower within in
    let itself : eq_by_cmp (slice_cmp nat_cmp) (get_or xs j d) (get_or xs j d) ≡ true = (eq_by_cmp_equiv (on_texts (λ (s : State). s))).refl (get_or xs j d) in
    let bad : true ≡ false = sym itself ∙ ap (λ s. eq_by_cmp (slice_cmp nat_cmp) s (get_or xs j d)) (sym same) ∙ apart in
    absurd (cc)

-- a rising list of more members than so many shows that there are more
pub more_than-rising : (most : ℕ) (S : State → Type 0) → HasMoreThan most S → MoreThan most S
more_than-rising most S has = record {
  some = has.0;
  more = has.2;
  differ = differ-rising has.0 has.1;
  among = λ k d within. has.3 (get_or has.0 k d) (Contains-get_or has.0 k d within);
}
