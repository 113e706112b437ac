-- A flag is read from its text.
use Rattle.tmw_args.proofs.Shared.{[], ap, Bool, bool_text, bytes_eq, bytes_eq-Decides, false, false_text, flag_in, Found, named, None, one_text-rows, Option, option_and_then, ParsesBool, ReadsOne, refl, rows_of, Some, sym, Text, true, true_text, ◌∙◌, ◌∷◌, ◌≡◌, ◌≢◌}
use Rattle.std.specs.Prelude.{codes}
use Rattle.clap.specs.Matches.{one_text}

abbrev flag_named : Text → Option Bool
flag_named = named bool_text (true ∷ false ∷ [])

another-flag : (text : Text) → text ≢ true_text → text ≢ false_text → flag_named text ≡ None
another-flag text not_true not_false = go (bytes_eq text (codes "true")) (bytes_eq text (codes "false")) refl refl
  where
    go : (one other : Bool) → bytes_eq text (codes "true") ≡ one → bytes_eq text (codes "false") ≡ other → flag_named text ≡ None
    go true other is too = absurd (not_true ((bytes_eq-Decides text (codes "true")).0 is))
    go false true is too = absurd (not_false ((bytes_eq-Decides text (codes "false")).0 too))
    go false false is too = rw (is, too) refl

flag-named : (E : Type 0) (text : Text) (read : Option Bool) → ReadsOne (ParsesBool {E = E}) text read → read ≡ flag_named text
flag-named E text (Some true) is = sym (ap flag_named is)
flag-named E text (Some false) is = sym (ap flag_named is)
flag-named E text None is = sym (another-flag text is.1.0 is.1.1)

-- the flag that was read is that of the words
pub read-flag : (E : Type 0) (f : Found) (flag : Text) (read : Option Bool) → (one_text f flag ≡ None → read ≡ None)
    → ((text : Text) → one_text f flag ≡ Some text → ReadsOne (ParsesBool {E = E}) text read) → read ≡ flag_in flag (rows_of f)
read-flag E f flag read absent value = go (one_text f flag) refl
  where
    go : (text : Option Text) → one_text f flag ≡ text → read ≡ flag_in flag (rows_of f)
    go None is = absent is ∙ sym (ap (option_and_then flag_named) (sym (one_text-rows f flag) ∙ is))
    go (Some text) is = flag-named E text read (value text is) ∙ sym (ap (option_and_then flag_named) (sym (one_text-rows f flag) ∙ is))
