-- A transaction that could not be read, and the script that was read whole.
use Rattle.tmw_workloads.proofs.Shared.{IsScript, IsTransaction, arith, err_from_is_err_and, script_of, sym, transaction_data, ◌∙◌}
use Rattle.tmw_workloads.proofs.Lists.{length-read, none_at, read_all}
use Rattle.tmw_workloads.proofs.Rules.{script_each, script_right}
use Rattle.tmw_workloads.proofs.scripts.read_script.Goals as goal

pub returns-in_err-calls-clause-shape : goal.returns-in_err-calls-clause-shape
returns-in_err-calls-clause-shape c =
    let registers = c.args.registers.number in
    let returned = err_from_is_err_and c.from_residual.result c.from_residual.ensures.1 in
    rw returned.1 (λ shape. none_at transaction_data (IsTransaction registers) (IsScript registers) _ c.in-Some.values.now _ _ c.in-Some.ensures.some
    c.loop-value-test.true c.value-item.is (c.in_err-calls.ensures.shape (sym returned.2 ∙ shape)) (script_each registers))

pub returns-clause-right : goal.returns-clause-right
returns-clause-right c =
    let registers = c.args.registers.number in
    let values = c.in-Some.values.now in
    let script = script_of c.loop-value.script in
    let read = read_all transaction_data (IsTransaction registers) values c.loop-value.value-index script c.loop-value-test.false
    c.loop-value.invariant in
    script_right registers script
    (omega (arith, length-read transaction_data (IsTransaction registers) values script read, c.in-Some.ensures.most)) read.right
