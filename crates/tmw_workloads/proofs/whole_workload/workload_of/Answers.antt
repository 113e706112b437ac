-- An order that could not be read.
use Rattle.tmw_workloads.proofs.Shared.{IsOrder, arith, err_from_is_err_and, fields_data, length, length-map, list_data, number_data, script_data, script_of, scripts_of, subst, sym, view, workload_data, ◌∙◌, ◌≡◌}
use Rattle.tmw_workloads.proofs.Lists.{length-same}
use Rattle.tmw_workloads.proofs.Rules.{workload_order}
use Rattle.tmw_workloads.proofs.whole_workload.workload_of.Goals as goal

pub returns-in_err-order-clause-shape : goal.returns-in_err-order-clause-shape
returns-in_err-order-clause-shape c =
    let returned = err_from_is_err_and c.from_residual-in_err-order.result c.from_residual-in_err-order.ensures.1 in
    rw returned.1 (λ shape registers scripts order some most right fits is.
    let fields = c.in-Some.fields in
    let found = c.in_ok-scripts.scripts.items in
    let at : fields_data (view fields.order.now) (view fields.registers.now) (view fields.scripts.now) ≡ workload_data registers scripts order
    = sym c.in-Some.ensures.some ∙ is in
    let orders : view fields.order.now ≡ list_data number_data order = cc in
    let others : view fields.scripts.now ≡ list_data script_data scripts = cc in
    let same = length-same script_data (view fields.scripts.now) scripts (scripts_of found) others c.in_ok-scripts.ensures.ok in
    let threads : length scripts ≡ c.len.result = omega (arith, same, length-map found script_of, c.in_ok-scripts.scripts.ok.0, c.len.ensures) in
    c.in_err-order.ensures.shape (sym returned.2 ∙ shape) order
    (subst (λ n. IsOrder n order) threads (workload_order registers scripts order right)) orders)
