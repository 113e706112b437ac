-- What the proofs of this crate take from the libraries, from the crates below and from its specs.
pub use Rattle.std.proofs.Common.{All, Bool, IsTrue, List, Some, [], ap, arith, false, get_or, length, map, nat_lt, refl, subst, suc, sym, take, zero, ℕ, ◌&&◌, ◌++◌, ◌+◌, ◌<◌, ◌∙◌, ◌∷◌, ◌≡◌, ◌≤◌}
pub use Rattle.std.proofs.lemmas.Bool.{and_from, and_parts, eqb-true, le-leb, lt-ltb, ltb-true}
pub use Rattle.std.proofs.lemmas.List.{length-map, map_push, take_all, take_more}
pub use Rattle.std.proofs.lemmas.List.Elements.{All-cons, All-head, All-nil, All-push, All-tail}
pub use Rattle.std.proofs.lemmas.Result.{err_from_is_err_and}
pub use Rattle.std.specs.List.{list_all}
pub use Rattle.serde_json.specs.Data.{Data, Items, array, boolean, null, number, object, string}
pub use Rattle.serde_json.specs.View.{items_of, view}
pub use Rattle.tmw_events.specs.Text.{FitsKind}
pub use Rattle.tmw_events.specs.declared.event.Kind.{Kind}
pub use Rattle.tmw_runs.specs.Scripts.{are_transactions, is_operation, is_request, is_transaction, script_at, script_of, scripts_of}
pub use Rattle.tmw_workloads.specs.Json.{call_data, fields_data, list_data, number_data, script_data, transaction_data, workload_data}
pub use Rattle.tmw_workloads.specs.Workload.{is_short_script, is_short_transaction, is_workload}
pub use Rattle.tmw_workloads.specs.WorkloadParts.{AreScripts, IsNoPart, IsOrder, IsScript, IsTransaction}
