-- What the definitions and contracts of this crate take from the libraries and from the crates below.
pub use Rattle.std.specs.List.{Contains, enumerate_from, list_any}
pub use Rattle.tmw_defs.specs.History.{Txn, add_event, is_call, is_ended, operations, status_of, transactions}
pub use Rattle.tmw_defs.specs.Opaque.{State, precedes}
pub use Rattle.tmw_defs.specs.Part.{HasOrderBy, is_answered}
pub use Rattle.tmw_events.specs.declared.event.Event.{Event}
