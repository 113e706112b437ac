-- An array of too many values is none of fewer.
use Rattle.tmw_workloads.proofs.Shared.{ap, arith, length, length-map, map, sym, view, ◌∙◌}
use Rattle.tmw_workloads.proofs.Values.{array_from_as_array, array_same}
use Rattle.tmw_workloads.proofs.json_array.values_of.Goals as goal

pub returns-then-len-most-clause-none : goal.returns-then-len-most-clause-none
returns-then-len-most-clause-none c items short is =
    let at = array_from_as_array (view c.args.content.now) _ c.in-Some.ensures in
    let same = array_same (map view c.in-Some.values.now.items) items (sym at ∙ is) in
    omega (arith, c.in-Some.values.now.ok.0, ap length same, length-map c.in-Some.values.now.items view)
