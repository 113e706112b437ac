-- Places of values in a list, as a map has them.
use Rattle.std.proofs.Common.{Bool, List, None, Option, Some, [], arith, false, inl, inr, length, refl, true, ℕ, ◌++◌, ◌==◌, ◌∙◌, ◌∷◌, ◌≡◌, ◌≤◌, ◌⊎◌}
use Rattle.std.proofs.lemmas.Bool.{cases_Bool, eqb-true}
use Rattle.std.proofs.lemmas.Bool.Decides.{nat_tests}
use Rattle.std.proofs.lemmas.List.{length-append}
use Rattle.std.proofs.lemmas.List.Folds.{position_or_len_push}
use Rattle.std.specs.BTreeMap.{BTreeMap, Updates, get}
use Rattle.std.specs.List.{list_any, position_or_len}
use Rattle.std.specs.Option.{option_or}
use Rattle.std.specs.Ordering.{nat_cmp}
use Rattle.std.specs.Prelude.{if◌then◌else◌, is_some, position}
use Rattle.tmw_texts.specs.ValueNames.{HasPlaces, has_name}

within : (p : ℕ → Bool) (xs : List ℕ) → position_or_len p xs ≤ length xs
within p [] = omega arith
within p (x ∷ xs) = grind (arith, (within p xs))

pub any-position : (p : ℕ → Bool) (xs : List ℕ) → is_some (position p xs) ≡ list_any p xs
any-position p [] = refl
any-position p (x ∷ xs) = grind (arith, nat_tests, (within p xs), (any-position p xs))

position-push : (p : ℕ → Bool) (xs : List ℕ) (y : ℕ)
    → position p (xs ++ y ∷ []) ≡ option_or (position p xs) (if p y then Some (length xs) else None)
position-push p xs y = grind (arith, nat_tests, (within p xs), (position_or_len_push p xs y), (length-append xs (y ∷ [])))

lacks : (o : Option ℕ) → is_some o ≡ false → o ≡ None
lacks None none = refl
lacks (Some v) none = absurd (cc)

-- one value more, which was not among them
pub places-push : (values : List ℕ) (places more : BTreeMap ℕ ℕ) (v : ℕ) → HasPlaces values places → has_name values v ≡ false
    → Updates nat_cmp places more v (Some (length values)) → HasPlaces (values ++ v ∷ []) more
places-push values places more v has none updates = λ q. each q (cases_Bool (v == q))
  where
    here : get nat_cmp more v ≡ position (λ other. other == v) (values ++ v ∷ [])
    here =
        let lack = lacks (position (λ other. other == v) values) (any-position (λ other. other == v) values ∙ none) in
        grind (arith, nat_tests, (updates.1), (position-push (λ other. other == v) values v), lack)

    each : (q : ℕ) → (v == q ≡ true) ⊎ (v == q ≡ false) → get nat_cmp more q ≡ position (λ other. other == q) (values ++ v ∷ [])
    each q (inl is) = rw (← eqb-true v q is) here
    each q (inr other) = grind (arith, nat_tests, (updates.0 q), (has q), (position-push (λ other. other == q) values v))
