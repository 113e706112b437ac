-- The values came after the two numbers.
use Rattle.tmw_trace.proofs.Shared.{Header, List, Puts-front, Puts-more, [], initial_text, take, version_digit, ℕ, ◌+◌, ◌∷◌}
use Rattle.tmw_trace.proofs.header_text.put_numbers.Goals as goal

-- the version's digit and that of the number of registers, with a space between them
abbrev two_digits : Header → List ℕ
two_digits header = version_digit header.version ∷ 32 ∷ (48 + header.registers.number) ∷ []

-- the values at the start, where the version tells them
abbrev values : Header → List ℕ
values header = initial_text header.version (take header.registers.number header.initial)

pub returns-in_err-put_all : goal.returns-in_err-put_all
returns-in_err-put_all g c =
    Puts-front g.K.Sink.to c.args.sink.now c.put_all.new.sink (two_digits c.args.header.now)
    (values c.args.header.now) c.from_residual.result
    c.from_residual.ensures.0 (rw (c.digit_of.ensures, c.get-registers.ensures.value) at c.in_err-put_all.ensures)

pub returns : goal.returns
returns g c =
    Puts-more g.K.Sink.to c.args.sink.now c.put_all.new.sink (two_digits c.args.header.now)
    (values c.args.header.now) c.put_initial.new.sink c.put_initial.result
    (rw (c.digit_of.ensures, c.get-registers.ensures.value) at c.in_ok-put_all.ensures) (rw c.get-registers.ensures.value at c.put_initial.ensures)
