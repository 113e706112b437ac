-- Members and places of lists, and how many pass a test.
use Rattle.tmw_reason.proofs.Shared.{All, All-from_recursion, All-more, AllByRecursion, AreAmong, Bool, Contains, IfNone, IsTrue, List, None, Option, ReasonStep, Some, [], ap, arith, cases_Bool, false, filter, find, get_or, inl, inr, length, list_all, list_any, list_any-append, or_cases, range_with_len, recursion_from_All, remove, slice_get, suc, sym, take, take_all, true, zero, ℕ, ◌++◌, ◌+◌, ◌<◌, ◌∙◌, ◌∷◌, ◌≡◌, ◌≤◌}

-- one that passes the test, of those of which each has P
pub record Found {A : Type 0} (P : A → Type 0) (test : A → Bool) : Type 0 where
  pub one : A
  pub has : P one
  pub passes : IsTrue (test one)

pub find_any : {A : Type 0} (P : A → Type 0) (test : A → Bool) (xs : List A) → AllByRecursion P xs → IsTrue (list_any test xs) → Found P test
find_any P test [] all any = absurd (cc)
find_any P test (x ∷ xs) all any =
    elim (or_cases (test x) _ any) [
      | inl here ↦ record { one = x; has = all.0; passes = here }
      | inr later ↦ find_any P test xs all.1 later
    ]

-- each place passes
pub each_place : (test : ℕ → Bool) (from n a : ℕ) → IsTrue (list_all test (range_with_len from n)) → a < n → IsTrue (test (from + a))
each_place test from zero a all low = absurd (omega (arith, low))
each_place test from (suc n) zero all low = grind arith
each_place test from (suc n) (suc a) all low = grind (arith, (each_place test (from + 1) n a))

pub none_all : {A : Type 0} (P : A → Type 0) (xs : List A) → AllByRecursion P (take 0 xs)
none_all P [] = tt
none_all P (x ∷ xs) = tt

-- one more of the first so many
pub all-more : {A : Type 0} (P : A → Type 0) (xs : List A) (n : ℕ) (x : A) → slice_get xs n ≡ Some x → P x → AllByRecursion P (take n xs)
    → AllByRecursion P (take (suc n) xs)
all-more P [] n x at holds all = absurd (cc)
all-more P (y ∷ ys) zero x at holds all = let same : y ≡ x = cc in (rw same holds, none_all P ys)
all-more P (y ∷ ys) (suc n) x at holds all = (all.0, all-more P ys n x at holds all.1)

-- what each is, each is but for one that is removed
all-remove : {A : Type 0} (P : A → Type 0) (xs : List A) (i : ℕ) → AllByRecursion P xs → AllByRecursion P (remove xs i)
all-remove P [] zero all = tt
all-remove P [] (suc i) all = tt
all-remove P (x ∷ xs) zero all = all.1
all-remove P (x ∷ xs) (suc i) all = (all.0, all-remove P xs i all.1)

pub among-remove : (steps : List ReasonStep) (i : ℕ) → AreAmong steps (remove steps i)
among-remove steps i = λ all are. All-from_recursion (Contains all) (remove steps i)
    (all-remove (Contains all) steps i (recursion_from_All (Contains all) steps are))

-- where each that passes the one test passes the other, no more pass; and fewer, where one that passes this does not pass that
count-most : {A : Type 0} (p q : A → Bool) (xs : List A) → ((x : A) → p x ≡ true → q x ≡ true) → length (filter p xs) ≤ length (filter q xs)
count-most p q [] most = omega arith
count-most p q (x ∷ xs) most = grind (arith, (most x), (count-most p q xs most))

some_same : {A : Type 0} {x y : A} → Some x ≡ Some y → x ≡ y
some_same e = cc

pub count-fewer : {A : Type 0} (p q r : A → Bool) (xs : List A) (x : A) → ((y : A) → p y ≡ true → q y ≡ true) → find r xs ≡ Some x
    → q x ≡ true → p x ≡ false → length (filter p xs) < length (filter q xs)
count-fewer p q r [] x most found has out = absurd (cc)
count-fewer p q r (y ∷ xs) x most found has out =
    grind (arith, (most y), (count-most p q xs most), (count-fewer p q r xs x most))

-- what is found passes, and is a member; where nothing is found none passes
pub find-some : {A : Type 0} (p : A → Bool) (xs : List A) (x : A) → find p xs ≡ Some x → (p x ≡ true) × Contains xs x
find-some p [] x found = absurd (cc)
find-some p (y ∷ xs) x found =
    elim (cases_Bool (p y)) [
      | inl is ↦ let same : y ≡ x = some_same (rw is at found) in (ap p (sym same) ∙ is, (0, omega arith, same))
      | inr no_p ↦ let (passes, (k, low, at)) = find-some p xs x (rw no_p at found) in (passes, (suc k, omega (arith, low), at))
    ]

pub find-none : {A : Type 0} (p : A → Bool) (xs : List A) → find p xs ≡ None → AllByRecursion (λ x. p x ≡ false) xs
find-none p [] none = tt
find-none p (y ∷ xs) none = grind (arith, (find-none p xs))

-- where nothing is found, each of the first so many has P
pub none-more : {A B : Type 0} (best : Option B) (P : A → Type 0) (xs : List A) (i : ℕ) (d : A) → i < length xs → IfNone best (All P (take i xs))
    → P (get_or xs i d) → IfNone best (All P (take (i + 1) xs))
none-more None P xs i d low all here = All-more P xs i d low all here
none-more (Some x) P xs i d low all here = tt

pub none-whole : {A B : Type 0} (best : Option B) (P : A → Type 0) (xs : List A) (i : ℕ) → length xs ≤ i → IfNone best (All P (take i xs))
    → IfNone best (All P xs)
none-whole None P xs i all_seen all = rw (take_all i xs all_seen) at all
none-whole (Some x) P xs i all_seen all = tt

-- one that passes the test passes among more
pub any-more : {A : Type 0} (p : A → Bool) (xs : List A) (x : A) → IsTrue (list_any p xs) → IsTrue (list_any p (xs ++ x ∷ []))
any-more p xs x any = grind (arith, list_any-append)

pub any-last : {A : Type 0} (p : A → Bool) (xs : List A) (x : A) → IsTrue (p x) → IsTrue (list_any p (xs ++ x ∷ []))
any-last p xs x is = grind (arith, list_any-append)
