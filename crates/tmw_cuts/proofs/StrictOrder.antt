-- Lists that rise strictly in a total order: what a binary search finds in one, and what one element more makes of it.
use Rattle.tmw_cuts.proofs.Shared.{AllByRecursion, CmpEqualImpliesEq, Contains, Err, IsBinarySearchResult, IsNonDecreasingBy, IsPartitionPoint, IsSearchInRange, IsStrictlySortedBy, IsTrue, List, Ok, Result, [], ap, arith, cases_lt, drop, get_or, get_or_default, inl, inr, insert, is_ok, length, refl, suc, sym, take, take-append-drop, tied_itself, zero, ℕ, ◌++◌, ◌+◌, ◌<◌, ◌↔◌, ◌∙◌, ◌∷◌, ◌≡◌, ◌≤◌, ◌⊎◌}
use Rattle.std.proofs.lemmas.List.Edits.{insert_end}
use Rattle.std.proofs.lemmas.List.Elements.{Contains-append_cases, Contains-append_left, Contains-append_right}
use Rattle.std.specs.declared.cmp.Ordering.{Ordering}
use Rattle.std.specs.declared.cmp.Ordering.TheVariants.{Less, Equal, Greater}
use Rattle.std.specs.Ordering.{ordering_index, ordering_reverse}
use Rattle.std.specs.Cmp.{IsTotalOrder}
use Rattle.tmw_cuts.proofs.FirstMembers.{contains_here, contains_cases}

all_at : {K : Type 0} (P : K → Type 0) (xs : List K) (i : ℕ) (d : K) → AllByRecursion P xs → i < length xs → P (get_or xs i d)
all_at P [] i d all within = absurd (omega arith)
all_at P (x ∷ xs) zero d all within = all.0
all_at P (x ∷ xs) (suc i) d all within = all_at P xs i d all.1 (omega arith)

all_weaker : {K : Type 0} (P Q : K → Type 0) (xs : List K) → ((x : K) → P x → Q x) → AllByRecursion P xs → AllByRecursion Q xs
all_weaker P Q [] to all = tt
all_weaker P Q (x ∷ xs) to all = (to x all.0, all_weaker P Q xs to all.1)

all_insert : {K : Type 0} (P : K → Type 0) (xs : List K) (i : ℕ) (x : K) → P x → AllByRecursion P xs → AllByRecursion P (insert xs i x)
all_insert P [] zero x here all = (here, tt)
all_insert P [] (suc i) x here all = (here, tt)
all_insert P (y ∷ ys) zero x here all = (here, all)
all_insert P (y ∷ ys) (suc i) x here all = (all.0, all_insert P ys i x here all.1)

most : (r : Ordering) → ordering_index r ≤ 2
most r = grind arith

-- a list with one element more has that and its own
pub Contains-insert : {K : Type 0} (xs : List K) (i : ℕ) (x s : K) → Contains (insert xs i x) s ↔ ((s ≡ x) ⊎ Contains xs s)
Contains-insert xs i x s =
    let whole = take-append-drop i xs in (
      λ has. elim (Contains-append_cases (take i xs) (x ∷ drop i xs) s has) [
        | inl front ↦ inr (rw whole at (Contains-append_left (take i xs) (drop i xs) s front))
        | inr back ↦ elim (contains_cases x s (drop i xs) back) [
          | inl same ↦ inl (sym same)
          | inr more ↦ inr (rw whole at (Contains-append_right (take i xs) (drop i xs) s more))
        ]
      ],
      λ one. elim one [
        | inl same ↦ Contains-append_right (take i xs) (x ∷ drop i xs) s (rw same (contains_here x (drop i xs)))
        | inr old ↦ elim (Contains-append_cases (take i xs) (drop i xs) s (rw (← whole) at old)) [
          | inl front ↦ Contains-append_left (take i xs) (x ∷ drop i xs) s front
          | inr (k, within, is) ↦ Contains-append_right (take i xs) (x ∷ drop i xs) s (suc k, omega arith, is)
        ]
      ],
    )

module _ {K : Type 0} {R : K → K → Ordering} (o : IsTotalOrder R) where
  -- of a smaller one and a greater one, how each compares to a third
  index_rises : (x a b : K) → R a b ≡ Less → (r : Ordering) → R b x ≡ r → ordering_index (R a x) ≤ ordering_index r
  index_rises x a b less Less is = rw (o.trans a b x less is) (omega arith)
  index_rises x a b less Equal is =
      grind (arith, (o.antisymm a x), (o.congr x b a), (o.antisymm x b), (o.antisymm b a))
  index_rises x a b less Greater is = most (R a x)

  non_decreasing : (x : K) (xs : List K) → IsStrictlySortedBy R xs → IsNonDecreasingBy (λ y. ordering_index (R y x)) xs
  unfolding IsStrictlySortedBy
  non_decreasing x [] rising i j d le within = absurd (omega arith)
  non_decreasing x (y ∷ ys) rising zero zero d le within = omega arith
  non_decreasing x (y ∷ ys) rising zero (suc j) d le within =
      index_rises x y (get_or ys j d) (all_at (λ z. R y z ≡ Less) ys j d rising.0 (omega arith)) (R (get_or ys j d) x) refl
  non_decreasing x (y ∷ ys) rising (suc i) zero d le within = absurd (omega arith)
  non_decreasing x (y ∷ ys) rising (suc i) (suc j) d le within = non_decreasing x ys rising.1 i j d (omega arith) (omega arith)

  -- an element at its place in the order leaves the list rising
  pub IsStrictlySortedBy-insert : (xs : List K) (i : ℕ) (x : K) → IsStrictlySortedBy R xs
      → IsPartitionPoint (λ y. R y x ≡ Less) (λ y. R y x ≡ Greater) xs i → IsStrictlySortedBy R (insert xs i x)
  unfolding IsStrictlySortedBy
  IsStrictlySortedBy-insert [] zero x rising parted = (tt, tt)
  IsStrictlySortedBy-insert [] (suc i) x rising parted = (tt, tt)
  IsStrictlySortedBy-insert (y ∷ ys) zero x rising parted =
      let below : R x y ≡ Less = o.antisymm x y ∙ ap ordering_reverse (parted.1 0 y (omega arith) (omega arith)) in
      ((below, all_weaker (λ z. R y z ≡ Less) (λ z. R x z ≡ Less) ys (λ z less. o.trans x y z below less) rising.0), rising)
  IsStrictlySortedBy-insert (y ∷ ys) (suc i) x rising parted = (
    all_insert (λ z. R y z ≡ Less) ys i x (parted.0 0 y (omega arith) (omega arith)) rising.0,
    IsStrictlySortedBy-insert ys i x rising.1 (
      λ k d low high. parted.0 (suc k) d (omega arith) (omega arith),
      λ k d low high. parted.1 (suc k) d (omega arith) (omega arith),
    ),
  )

  -- one that is above the last of a rising list is above all of it
  above_all : (d : K) (xs : List K) (x : K) → IsStrictlySortedBy R xs → ((i : ℕ) → i + 1 ≡ length xs → R (get_or xs i d) x ≡ Less)
      → AllByRecursion (λ y. R y x ≡ Less) xs
  unfolding IsStrictlySortedBy
  above_all d [] x rising last = tt
  above_all d (y ∷ []) x rising last = (last 0 (omega arith), tt)
  above_all d (y ∷ z ∷ zs) x rising last =
      let rest = above_all d (z ∷ zs) x rising.1 (λ i is. last (suc i) (omega arith)) in
      (o.trans y z x rising.0.0 rest.0, rest)

  pub above-each : (d : K) (xs : List K) (x : K) → IsStrictlySortedBy R xs → ((i : ℕ) → i + 1 ≡ length xs → R (get_or xs i d) x ≡ Less)
      → (y : K) → Contains xs y → R y x ≡ Less
  above-each d xs x rising last y (k, within, is) =
      rw is at (all_at (λ z. R z x ≡ Less) xs k y (above_all d xs x rising last) within)

  -- and leaves it rising at its end
  pub IsStrictlySortedBy-push : (xs : List K) (x : K) → IsStrictlySortedBy R xs → ((y : K) → Contains xs y → R y x ≡ Less)
      → IsStrictlySortedBy R (xs ++ x ∷ [])
  IsStrictlySortedBy-push xs x rising above =
      rw (← insert_end xs x) (IsStrictlySortedBy-insert xs (length xs) x rising (
        λ k e low high. above (get_or xs k e) (k, high, get_or_default xs k (get_or xs k e) e high),
        λ k e low high. absurd (omega (arith, low, high)),
      ))

  -- the place that a search answers for one that is not there
  pub place_by_search : (xs found : List K) (x : K) (i : ℕ) → found ≡ xs → IsStrictlySortedBy R xs
      → IsBinarySearchResult (λ y. R y x) found (Err i) → IsStrictlySortedBy R (insert xs i x)
  place_by_search xs found x i same rising parted =
      IsStrictlySortedBy-insert xs i x rising (rw same at (parted (rw same (non_decreasing x xs rising))))

  module _ (exact : CmpEqualImpliesEq R) where
    -- what a binary search answers is an element's place, or the place where it would stand
    pub found_by_search : (xs found : List K) (x : K) (r : Result ℕ ℕ) → found ≡ xs → IsStrictlySortedBy R xs
        → IsSearchInRange r (length found) → IsBinarySearchResult (λ y. R y x) found r → IsTrue (is_ok r) ↔ Contains xs x
    found_by_search xs found x (Ok i) same rising within equal =
        (λ ok. (i, rw same at within, exact _ x (rw same at (equal x))), λ has. refl)
    found_by_search xs found x (Err i) same rising within parted = (
      λ ok. absurd (cc),
      λ (k, inside, is).
          let apart = rw same at (parted (rw same (non_decreasing x xs rising))) in
          let tied : R (get_or xs k x) x ≡ Equal = rw is (tied_itself o x) in
          absurd (elim (cases_lt k i) [
            | inl below ↦ let less = apart.0 k x (omega arith) below in (cc)
            | inr above ↦ let more = apart.1 k x above inside in (cc)
          ]),
    )

    -- one that was found is no new member
    pub found_is_member : (xs found : List K) (x : K) (i : ℕ) → found ≡ xs → i < length found → ((d : K) → R (get_or found i d) x ≡ Equal)
        → (s : K) → Contains xs s ↔ ((s ≡ x) ⊎ Contains xs s)
    found_is_member xs found x i same within equal s = (
      λ has. inr has,
      λ one. elim one [
        | inl is ↦ (i, rw same at within, rw (← same) (exact _ x (equal s) ∙ sym is))
        | inr has ↦ has
      ],
    )
