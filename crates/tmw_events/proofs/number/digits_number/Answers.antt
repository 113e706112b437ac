use Rattle.tmw_events.proofs.Shared.{arith, get_or, ◌*◌, ◌+◌, ◌-◌, ◌<◌, ◌^◌, ◌≡◌}
use Rattle.std.proofs.lemmas.List.{drop_all}
use Rattle.std.proofs.lemmas.Str.{digit_value_digit}
use Rattle.tmw_events.proofs.Numbers.{too_large}
use Rattle.tmw_events.proofs.number.digits_number.Goals as goal

pub returns-in_default : goal.returns-in_default
returns-in_default c =
    let h : c.loop-byte.number * 10 < 2 ^ 64 → ⊥ = c.in_default.ensures in
    λ p. too_large c.loop-byte.number c.args.bytes.now c.loop-byte.byte-index _ (omega arith) c.loop-byte.invariant.value (omega (arith, h)) p.1

pub returns-in_default-checked_add : goal.returns-in_default-checked_add
returns-in_default-checked_add c =
    let byte = get_or c.args.bytes.now c.loop-byte.byte-index 0 in
    let d = c.if-not-is_ascii_digit.ensures.cases in
    let e = digit_value_digit byte d in
    let tenfold : c.in-Some.tenfold ≡ c.loop-byte.number * 10 = c.in-Some.ensures.1 in
    let h : c.in-Some.tenfold + (byte - 48) < 2 ^ 64 → ⊥ = c.in_default-checked_add.ensures in
    λ p. too_large c.loop-byte.number c.args.bytes.now c.loop-byte.byte-index _ (omega arith) c.loop-byte.invariant.value (omega (arith, h, e, tenfold)) p.1

pub returns : goal.returns
returns c =
    let past = drop_all c.loop-byte.byte-index c.args.bytes.now c.loop-byte-test.false in
    let value = rw past at c.loop-byte.invariant.value in
    let from = rw past at c.loop-byte.invariant.from in
    ((from tt, omega (arith, value, c.loop-byte.invariant.fits)), value)
