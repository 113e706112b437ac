-- States at places of a list of states.
use Rattle.tmw_reason.proofs.Shared.{All, All-contains, AllByRecursion, Contains, IsTrue, List, None, Option, Some, State, [], arith, eqb-true, get_or, get_or_from_slice_get, inl, inr, is_among, length, option_to_list, or_cases, refl, slice_get, slice_get_within, states_at, suc, zero, ℕ, ◌++◌, ◌<◌, ◌==◌, ◌∷◌, ◌≡◌}

pub contains-get : {A : Type 0} (xs : List A) (place : ℕ) (x : A) → slice_get xs place ≡ Some x → Contains xs x
contains-get xs place x at = (place, slice_get_within xs place x at, get_or_from_slice_get xs place x x at)

got : {A : Type 0} (xs : List A) (place : ℕ) (x : A) → place < length xs → get_or xs place x ≡ x → slice_get xs place ≡ Some x
got [] place x low is = absurd (omega (arith, low))
got (y ∷ xs) zero x low is = grind arith
got (y ∷ xs) (suc place) x low is = grind (arith, (got xs place x))

pub get-contains : {A : Type 0} (xs : List A) (x : A) → Contains xs x → (place : ℕ) × (place < length xs) × (slice_get xs place ≡ Some x)
get-contains xs x (place, low, is) = (place, low, got xs place x low is)

all-option : (P : State → Type 0) (o : Option State) (xs : List State) → ((s : State) → o ≡ Some s → P s) → AllByRecursion P xs
    → AllByRecursion P (option_to_list o ++ xs)
all-option P None xs holds all = all
all-option P (Some s) xs holds all = (holds s refl, all)

-- what holds of all states holds of those at the places
pub all-at : (P : State → Type 0) (states : List State) (places : List ℕ) → All P states → AllByRecursion P (states_at states places)
all-at P states [] all = tt
all-at P states (place ∷ places) all =
    all-option P (slice_get states place) (states_at states places)
    (λ s at. All-contains P states s all (contains-get states place s at)) (all-at P states places all)

contains-option : (o : Option State) (xs : List State) (s : State) → Contains xs s → Contains (option_to_list o ++ xs) s
contains-option None xs s has = has
contains-option (Some t) xs s (k, low, is) = (suc k, omega (arith, low), is)

-- the state at one of the places is one of them
pub contains-at : (states : List State) (places : List ℕ) (place : ℕ) (s : State) → IsTrue (is_among place places)
    → slice_get states place ≡ Some s → Contains (states_at states places) s
contains-at states [] place s among at = absurd (cc)
contains-at states (p ∷ places) place s among at =
    elim (or_cases (p == place) _ among) [
      | inl here ↦
          let is = eqb-true p place here in
          rw (is, at) (contains-get (s ∷ states_at states places) 0 s refl)
      | inr later ↦
          contains-option (slice_get states p) (states_at states places) s (contains-at states places place s later at)
    ]
