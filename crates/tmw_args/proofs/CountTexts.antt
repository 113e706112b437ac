-- The number of an option is read from its text.
use Rattle.tmw_args.proofs.Shared.{Accepts, Accepts-accepts, accepts-Accepts, ap, Bool, Count, count_in, counted, digits_value, false, Found, made_if, None, one_text, one_text-rows, Option, option_and_then, option_map, refl, rows_of, Some, sym, Text, true, Unsigned, without_leading_plus, ℕ, ◌∙◌, ◌≡◌}

abbrev pub number_of : {least most : ℕ} → Option (Count least most) → Option ℕ
number_of = option_map (λ count. count.number)

made_if-true : {A : Type 0} (b : Bool) (make : b ≡ true → A) → b ≡ true → (so : b ≡ true) × (made_if b make ≡ Some (make so))
made_if-true true make so = (refl, refl)
made_if-true false make so = absurd (cc)

made_if-false : {A : Type 0} (b : Bool) (make : b ≡ true → A) → (b ≡ true → ⊥) → made_if b make ≡ None
made_if-false true make so = absurd (so refl)
made_if-false false make so = refl

abbrev pub IsCount : ℕ → ℕ → Text → Type 0
IsCount least most text = Accepts false (Unsigned least most) text

is_counted : (least most : ℕ) (text : Text) → IsCount least most text → number_of (counted least most text) ≡ Some (digits_value 10 (without_leading_plus text))
is_counted least most text is = ap number_of (made_if-true _ _ (Accepts-accepts false (Unsigned least most) text is)).1

not_counted : (least most : ℕ) (text : Text) → (IsCount least most text → ⊥) → number_of (counted least most text) ≡ None
not_counted least most text not = ap number_of (made_if-false _ _ (λ so. not (accepts-Accepts false (Unsigned least most) text so)))

module _ (f : Found) (name : Text) (least most : ℕ) where
  by_text : (text : Option Text) → one_text f name ≡ text → number_of (count_in least most name (rows_of f)) ≡ number_of (option_and_then (counted least most) text)
  by_text text is = ap (λ text. number_of (option_and_then (counted least most) text)) (sym (one_text-rows f name) ∙ is)

  -- the option has no number of 64 bits
  pub unread-count : ((text : Text) → one_text f name ≡ Some text → IsCount least most text → ⊥) → None ≡ number_of (count_in least most name (rows_of f))
  unread-count unread = go (one_text f name) refl
    where
      go : (text : Option Text) → one_text f name ≡ text → None ≡ number_of (count_in least most name (rows_of f))
      go None is = sym (by_text None is)
      go (Some text) is = sym (by_text (Some text) is ∙ not_counted least most text (unread text is))

  -- its number was read
  pub read-count : (number : ℕ) → (one_text f name ≡ None → ⊥)
      → ((text : Text) → one_text f name ≡ Some text → IsCount least most text × (number ≡ digits_value 10 (without_leading_plus text)))
      → Some number ≡ number_of (count_in least most name (rows_of f))
  read-count number absent value = go (one_text f name) refl
    where
      go : (text : Option Text) → one_text f name ≡ text → Some number ≡ number_of (count_in least most name (rows_of f))
      go None is = absurd (absent is)
      go (Some text) is =
          let read = value text is in
          ap Some read.1 ∙ sym (by_text (Some text) is ∙ is_counted least most text read.0)
