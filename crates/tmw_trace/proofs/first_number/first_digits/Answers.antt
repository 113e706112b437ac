use Rattle.tmw_trace.proofs.Shared.{arith, get_or, ℕ, ◌+◌, ◌-◌, ◌<◌, ◌^◌, ◌≡◌, ◌≤◌}
use Rattle.std.specs.Prelude.{◌%◌}
use Rattle.std.proofs.lemmas.Str.{digit_value_digit}
use Rattle.tmw_trace.proofs.FirstNumbers.{few_digits, AreDigits-more, number-line}
use Rattle.tmw_trace.proofs.first_number.first_digits.Goals as goal

-- a byte that is at most 9 above 48, counted around, is a digit
is_digit : (byte : ℕ) → byte < 256 → (byte + 18446744073709551568) % 18446744073709551616 ≤ 9 → (48 ≤ byte) × (byte ≤ 57)
is_digit byte small low = (omega (arith, small, low), omega (arith, small, low))

pub returns-then-digit-gt9-clause-some : goal.returns-then-digit-gt9-clause-some
returns-then-digit-gt9-clause-some c =
    number-line c.loop-index.number c.loop-index.index c.args.bytes.now c.loop-index.invariant (omega arith) (omega arith)
    c.requires.above (omega arith)

pub overflow_mul-number : goal.overflow_mul-number
overflow_mul-number c =
    let small : c.loop-index.number < 10 ^ 18 =
    few_digits c.loop-index.number c.loop-index.index 18 c.args.bytes.now c.loop-index.invariant (omega arith) (omega arith) in
    omega (arith, small)

pub overflow_add-number : goal.overflow_add-number
overflow_add-number c =
    let small : c.loop-index.number < 10 ^ 18 =
    few_digits c.loop-index.number c.loop-index.index 18 c.args.bytes.now c.loop-index.invariant (omega arith) (omega arith) in
    omega (arith, small, c.if-digit-gt9.false)

pub loop-index-preserved : goal.loop-index-preserved
loop-index-preserved c =
    let byte : ℕ = get_or c.args.bytes.now c.loop-index.index 0 in
    let found : c.from-digit.result ≡ byte = c.from-digit.ensures in
    let digit = is_digit byte (omega arith) (rw found at c.if-digit-gt9.false) in
    let is : (byte + 18446744073709551568) % 18446744073709551616 ≡ byte - 48 = omega (arith, digit) in
    rw (found, is) (AreDigits-more c.loop-index.number c.loop-index.index (byte - 48) c.args.bytes.now c.loop-index.invariant (omega arith)
    (omega (arith, digit, digit_value_digit byte digit)) (omega (arith, digit)))
