-- What the definitions and contracts of this crate take from the libraries and from the crates below.
pub use Rattle.std.specs.List.{list_all}
pub use Rattle.serde_json.specs.Data.{Data, array, member, no_members, number, object, string, unsigned}
pub use Rattle.serde_json.specs.View.{items_of, view}
pub use Rattle.tmw_events.specs.Text.{FitsKind, kind_text}
pub use Rattle.tmw_events.specs.declared.event.Kind.{Kind}
pub use Rattle.tmw_runs.specs.Scripts.{is_operation, is_request, is_transaction, script_of, scripts_of}
