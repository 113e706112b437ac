-- Counting the members of a list that pass a test.
use Rattle.tmw_counts.proofs.Shared.{Bool, List, [], ap, arith, cases_Bool, count_by, false, inl, inr, length, list_any, not, one_if, refl, rules, true, ◌&&◌, ◌++◌, ◌+◌, ◌<◌, ◌||◌, ◌∷◌, ◌≡◌, ◌≤◌}
use Rattle.std.proofs.lemmas.List.Sums.{sum_by-cons}

pub count-cons : {A : Type 0} (p : A → Bool) (x : A) (xs : List A) → count_by p (x ∷ xs) ≡ one_if (p x) + count_by p xs
count-cons p x xs = sum_by-cons (λ y. one_if (p y)) x xs

pub count-append : {A : Type 0} (p : A → Bool) (xs ys : List A) → count_by p (xs ++ ys) ≡ count_by p xs + count_by p ys
count-append p [] ys = omega arith
count-append p (x ∷ xs) ys = omega (arith, count-cons p x (xs ++ ys), count-cons p x xs, count-append p xs ys)

pub count-one : {A : Type 0} (p : A → Bool) (x : A) → count_by p (x ∷ []) ≡ one_if (p x)
count-one p x = let c = count-cons p x [] in omega (arith, c)

pub one_if-le : (b : Bool) → one_if b ≤ 1
one_if-le b = grind arith

pub count-length : {A : Type 0} (p : A → Bool) (xs : List A) → count_by p xs ≤ length xs
count-length p [] = omega arith
count-length p (x ∷ xs) = omega (arith, count-cons p x xs, one_if-le (p x), count-length p xs)

-- where a test passes no other than another does, it passes as few
pub count-le : {A : Type 0} (p q : A → Bool) → ((x : A) → q x ≡ false → p x ≡ false) → (xs : List A) → count_by p xs ≤ count_by q xs
count-le p q less [] = omega arith
count-le p q less (x ∷ xs) = grind (arith, count-cons, (count-le p q less xs))

pub count-none : {A : Type 0} (p : A → Bool) → ((x : A) → p x ≡ false) → (xs : List A) → count_by p xs ≡ 0
count-none p none [] = refl
count-none p none (x ∷ xs) = omega (arith, count-cons p x xs, ap one_if (none x), count-none p none xs)

or-one : (a b : Bool) → one_if (a || b) ≡ one_if a + one_if (b && not a)
or-one a b = grind arith

-- those that pass one of two tests are those that pass the first, and those that pass the second alone
pub count-or : {A : Type 0} (p q : A → Bool) (xs : List A)
    → count_by (λ x. p x || q x) xs ≡ count_by p xs + count_by (λ x. q x && not (p x)) xs
count-or p q [] = refl
count-or p q (x ∷ xs) = search (rules, count-cons, or-one, (count-or p q xs))

-- some member passes exactly where more than none are counted
pub any-count : {A : Type 0} (p : A → Bool) (xs : List A) → 0 < count_by p xs → list_any p xs ≡ true
any-count p [] some = absurd (omega (arith, some))
any-count p (x ∷ xs) some =
    elim (cases_Bool (p x)) [
      | inl holds ↦ rw holds refl
      | inr fails ↦ rw fails (any-count p xs (omega (arith, some, count-cons p x xs, ap one_if fails)))
    ]

pub none-count : {A : Type 0} (p : A → Bool) (xs : List A) → count_by p xs ≡ 0 → list_any p xs ≡ false
none-count p [] none = refl
none-count p (x ∷ xs) none =
    elim (cases_Bool (p x)) [
      | inl holds ↦ absurd (omega (arith, none, count-cons p x xs, ap one_if holds))
      | inr fails ↦ rw fails (none-count p xs (omega (arith, none, count-cons p x xs, ap one_if fails)))
    ]
