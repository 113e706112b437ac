-- The numbers of options.
use Rattle.std.proofs.Common.{◌≡◌, ◌≤◌, ℕ, Bool, true, false, Option, Some, None, refl}
use Rattle.std.specs.Str.Parse.{digits_value, without_leading_plus}
use Rattle.clap.specs.Words.{Text}
use Rattle.clap.specs.ValueTests.{accepts}
use Rattle.clap.specs.declared.builder.value_parser.ValueParser.TheVariants.{Unsigned}
use Rattle.clap.proofs.ValueTestLemmas.{accepts-Accepts}

-- a number from `least` to `most`
pub record Count (least most : ℕ) : Type 0 where
  pub number : ℕ
  pub some : least ≤ number
  pub few : number ≤ most

-- what is made from a proof that the test is true, or nothing where it is false
abbrev pub made_if : {A : Type 0} → (holds : Bool) → (holds ≡ true → A) → Option A
made_if true make = Some (make refl)
made_if false make = None

-- the number that a text writes in decimal digits, after a plus or not, where it is from `least` to `most`
abbrev pub counted : (least most : ℕ) → Text → Option (Count least most)
counted least most text =
    made_if (accepts false (Unsigned least most) text)
    (λ fits. let within = accepts-Accepts false (Unsigned least most) text fits in
    record { number = digits_value 10 (without_leading_plus text); some = within.2; few = within.3 })
