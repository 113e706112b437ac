use Rattle.tmw_events.proofs.Shared.{arith, get_or, length, sym, ◌<◌, ◌∙◌, ◌≡◌}
use Rattle.std.proofs.lemmas.Bool.{eqb-true}
use Rattle.std.proofs.lemmas.Bool.Decides.{nat_tests}
use Rattle.tmw_events.proofs.Numbers.{empty_no_decimal, zero_no_decimal, decimal_from_digits, no_decimal_from_digits}
use Rattle.tmw_events.proofs.number.number_of.Goals.{else-bytes-eq48-via-then-bytes-eq48+else-bytes-gt1, else-bytes-eq48-via-else-bytes-eq48}
use Rattle.tmw_events.proofs.number.number_of.Goals as goal

pub returns-then-is_empty-clause-none : goal.returns-then-is_empty-clause-none
returns-then-is_empty-clause-none c =
    let empty = eqb-true (length c.args.bytes.now) 0 (sym c.is_empty.ensures ∙ c.if-is_empty.true) in
    λ n. empty_no_decimal c.args.bytes.now n empty

pub returns-then-bytes-gt1-clause-none : goal.returns-then-bytes-gt1-clause-none
returns-then-bytes-gt1-clause-none c =
    λ n. zero_no_decimal c.args.bytes.now n c.if-bytes-eq48.true c.if-bytes-gt1.true

pub returns-clause-some : goal.returns-clause-some
returns-clause-some c =
    let some : 0 < length c.args.bytes.now = grind (arith, nat_tests, c.is_empty.ensures, c.if-is_empty.false) in
    let plain : get_or c.args.bytes.now 0 0 ≡ 48 → length c.args.bytes.now ≡ 1 =
    elim c.else-bytes-eq48.branch [
      | else-bytes-eq48-via-then-bytes-eq48+else-bytes-gt1 w ↦ λ h. omega arith
      | else-bytes-eq48-via-else-bytes-eq48 w ↦ λ h. absurd (omega arith)
    ] in
    decimal_from_digits c.args.bytes.now c.digits_number.result some plain c.digits_number.ensures

pub returns-clause-none : goal.returns-clause-none
returns-clause-none c = no_decimal_from_digits c.args.bytes.now c.digits_number.result c.digits_number.ensures
