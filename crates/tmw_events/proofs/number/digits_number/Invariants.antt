use Rattle.tmw_events.proofs.Shared.{AllDigits, List, digits_value, digits_value_after, drop, ℕ, ◌<◌, ◌^◌, ◌≡◌}
use Rattle.tmw_events.proofs.number.digits_number.Given as goal

-- the digits still to come complete the number, which has 64 bits, and all are digits exactly when those are
pub record IsPart (number : ℕ) (left bytes : List ℕ) : Type 0 where
  pub fits : number < 2 ^ 64
  pub value : digits_value_after 10 number left ≡ digits_value 10 bytes
  pub to : AllDigits 10 bytes → AllDigits 10 left
  pub from : AllDigits 10 left → AllDigits 10 bytes

abbrev pub invariant-loop-byte : goal.invariant-loop-byte
invariant-loop-byte l = IsPart l.number (drop l.byte-index l.bytes) l.bytes
