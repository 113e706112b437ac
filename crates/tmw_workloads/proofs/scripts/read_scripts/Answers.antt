-- An array without scripts, a script that could not be read, one more that was, and the scripts that were read whole.
use Rattle.tmw_workloads.proofs.Shared.{AreScripts, IsScript, ap, arith, eqb-true, err_from_is_err_and, length, map_push, script_data, script_of, scripts_of, subst, sym, take, view, ◌+◌, ◌<◌, ◌∙◌}
use Rattle.std.proofs.lemmas.Bool.Decides.{nat_tests}
use Rattle.tmw_workloads.proofs.Lists.{HasRead, length-read, none_at, read_all, read_from_list, read_one}
use Rattle.tmw_workloads.proofs.Rules.{scripts_each, scripts_right, scripts_some}
use Rattle.tmw_workloads.proofs.scripts.read_scripts.Goals as goal

pub returns-then-is_empty-clause-shape : goal.returns-then-is_empty-clause-shape
returns-then-is_empty-clause-shape c shape scripts right is =
    let registers = c.args.registers.number in
    let values = c.in-Some.values.now in
    let empty = eqb-true (length values) 0 (sym c.is_empty.ensures ∙ c.if-is_empty.true) in
    let read = read_from_list script_data (IsScript registers) (view c.args.content.now) values scripts c.in-Some.ensures.some
    (scripts_each registers scripts right) is in
    omega (arith, empty, scripts_some registers scripts right, length-read script_data (IsScript registers) values scripts read)

pub returns-in_err-script-clause-shape : goal.returns-in_err-script-clause-shape
returns-in_err-script-clause-shape c =
    let registers = c.args.registers.number in
    let returned = err_from_is_err_and c.from_residual.result c.from_residual.ensures.1 in
    rw returned.1 (λ shape. none_at script_data (IsScript registers) (AreScripts registers) (view c.args.content.now)
    c.in-Some.values.now c.loop-value.value-index c.value-item.result c.in-Some.ensures.some c.loop-value-test.true
    c.value-item.is (c.in_err-script.ensures.shape (sym returned.2 ∙ shape)) (scripts_each registers))

pub loop-value-preserved : goal.loop-value-preserved
loop-value-preserved c =
    let registers = c.args.registers.number in
    let values = c.in-Some.values.now in
    let scripts = c.loop-value.scripts.items in
    let script = c.in_ok-script.script in
    let i = c.loop-value.value-index in
    subst (λ parts. HasRead script_data (IsScript registers) (take (i + 1) values) parts)
    (sym (ap scripts_of c.in-Ok.ensures.items ∙ map_push script_of scripts script))
    (read_one script_data (IsScript registers) values i c.value-item.result (scripts_of scripts) (script_of script)
    c.loop-value-test.true c.value-item.is c.loop-value.invariant c.in_ok-script.ensures.right c.in_ok-script.ensures.ok)

pub returns-clause-right : goal.returns-clause-right
returns-clause-right c =
    let registers = c.args.registers.number in
    let values = c.in-Some.values.now in
    let scripts = scripts_of c.loop-value.scripts.items in
    let some : 0 < length values = grind (arith, nat_tests, c.is_empty.ensures, c.if-is_empty.false) in
    let read = read_all script_data (IsScript registers) values c.loop-value.value-index scripts c.loop-value-test.false
    c.loop-value.invariant in
    let same = length-read script_data (IsScript registers) values scripts read in
    scripts_right registers scripts (omega (arith, same, some)) (omega (arith, same, c.in-Some.ensures.most)) read.right
