use Rattle.tmw_steps.proofs.Shared.{drop, take_rest}
use Rattle.tmw_steps.proofs.SizeNumbers.{numbers-some, no_writers, no_limit, no_more}
use Rattle.tmw_steps.proofs.size_line.numbers_of.Goals as goal

pub returns-in_default-first_value-clause-none : goal.returns-in_default-first_value-clause-none
returns-in_default-first_value-clause-none c =
    let bytes = c.args.bytes.now in
    no_writers bytes c.in-Some.cells c.in-Some.first c.in-Some.ensures.some
    (rw (take_rest bytes c.in-Some.first) at c.in_default-first_value.ensures.none)

pub returns-in_default-first_value-2-clause-none : goal.returns-in_default-first_value-2-clause-none
returns-in_default-first_value-2-clause-none c =
    let bytes = c.args.bytes.now in
    let n = c.in-Some.first in
    let m = c.in-Some-first_value.second in
    no_limit bytes c.in-Some.cells c.in-Some-first_value.writers n m c.in-Some.ensures.some
    (rw (take_rest bytes n) at c.in-Some-first_value.ensures.some)
    (rw (take_rest bytes n, take_rest (drop n bytes) m) at c.in_default-first_value-2.ensures.none)

pub returns-then-third-after_writers-clause-some : goal.returns-then-third-after_writers-clause-some
returns-then-third-after_writers-clause-some c =
    let bytes = c.args.bytes.now in
    let n = c.in-Some.first in
    let m = c.in-Some-first_value.second in
    numbers-some bytes c.in-Some.cells c.in-Some-first_value.writers c.in-Some-first_value-2.limit n m
    c.in-Some-first_value-2.third c.in-Some.ensures.some
    (rw (take_rest bytes n) at c.in-Some-first_value.ensures.some)
    (rw (take_rest bytes n, take_rest (drop n bytes) m) at c.in-Some-first_value-2.ensures.some)
    (rw (take_rest bytes n, take_rest (drop n bytes) m) at c.if-third-after_writers.true)

pub returns-else-third-after_writers-clause-none : goal.returns-else-third-after_writers-clause-none
returns-else-third-after_writers-clause-none c =
    let bytes = c.args.bytes.now in
    let n = c.in-Some.first in
    let m = c.in-Some-first_value.second in
    no_more bytes c.in-Some.cells c.in-Some-first_value.writers c.in-Some-first_value-2.limit n m
    c.in-Some-first_value-2.third c.in-Some.ensures.some
    (rw (take_rest bytes n) at c.in-Some-first_value.ensures.some)
    (rw (take_rest bytes n, take_rest (drop n bytes) m) at c.in-Some-first_value-2.ensures.some)
    (rw (take_rest bytes n, take_rest (drop n bytes) m) at c.if-third-after_writers.false)
