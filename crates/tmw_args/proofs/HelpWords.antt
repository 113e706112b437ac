-- The words with `help` moved behind them, as the code moves it.
use Rattle.tmw_args.proofs.Shared.{[], ap, Bor, codes, false, help_as_flag, List, names_help, refl, remove, texts, true, ◌++◌, ◌∙◌, ◌∷◌, ◌≡◌}
use Rattle.clap.specs.Walk.{Text}

texts-append : (xs ys : List (Bor Text)) → texts (xs ++ ys) ≡ texts xs ++ texts ys
texts-append [] ys = refl
texts-append (x ∷ xs) ys = ap (λ (ts : List Text). x.now ∷ ts) (texts-append xs ys)

texts-remove : (words : List (Bor Text)) → texts (remove words 1) ≡ remove (texts words) 1
texts-remove [] = refl
texts-remove (name ∷ []) = refl
texts-remove (name ∷ word ∷ others) = refl

-- it is taken out, and its flag put behind
pub help_as_flag-named : (words removed built : List (Bor Text)) (flag : Bor Text) → removed ≡ remove words 1 → built ≡ removed ++ flag ∷ []
    → flag.now ≡ codes "--help" → names_help (texts words) ≡ true → texts built ≡ help_as_flag (texts words)
help_as_flag-named words removed built flag without behind is named =
    rw (named, behind, without) (texts-append (remove words 1) (flag ∷ []) ∙ ap (λ (ts : List Text). ts ++ flag.now ∷ []) (texts-remove words)
    ∙ ap (λ (text : Text). remove (texts words) 1 ++ text ∷ []) is)

-- it is not named
pub help_as_flag-other : (words : List (Bor Text)) → names_help (texts words) ≡ false → texts words ≡ help_as_flag (texts words)
help_as_flag-other words other = rw other refl
