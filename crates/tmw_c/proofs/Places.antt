-- Two lists that grow together.
use Rattle.tmw_c.proofs.Shared.{List, [], arith, get_or, length, suc, zero, ℕ, ◌++◌, ◌<◌, ◌∷◌, ◌≡◌}

-- What holds of the items of two lists at each place still does when an item is put behind each.
pub both_more : {A B : Type 0} (P : A → B → Type 0) (left : List A) (right : List B) (a : A) (b : B) → length right ≡ length left
    → ((place : ℕ) (y : B) (x : A) → place < length right → P (get_or left place x) (get_or right place y)) → P a b
    → (place : ℕ) (y : B) (x : A) → place < length (right ++ b ∷ []) → P (get_or (left ++ a ∷ []) place x) (get_or (right ++ b ∷ []) place y)
both_more P [] [] a b same each last zero y x low = last
both_more P [] [] a b same each last (suc place) y x low = absurd (omega (arith, low))
both_more P [] (d ∷ right) a b same each last place y x low = absurd (omega (arith, same))
both_more P (c ∷ left) [] a b same each last place y x low = absurd (omega (arith, same))
both_more P (c ∷ left) (d ∷ right) a b same each last zero y x low = each zero y x (omega arith)
both_more P (c ∷ left) (d ∷ right) a b same each last (suc place) y x low =
    both_more P left right a b (omega (arith, same)) (λ n w v below. each (suc n) w v (omega (arith, below))) last place y x (omega (arith, low))
