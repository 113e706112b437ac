-- What the definitions and contracts of this crate take from the libraries and from the crates below.
pub use Rattle.std.specs.List.{Contains, flat_map, list_all, list_any, range_with_len}
pub use Rattle.std.specs.Option.{option_eq, option_or, option_to_list}
pub use Rattle.tmw_cuts.specs.RegisterUse.{left_by, writes}
pub use Rattle.tmw_defs.specs.History.{Txn, operation, operations, status_of, transactions}
pub use Rattle.tmw_defs.specs.Opaque.{Placed, State, may_hold, precedes}
pub use Rattle.tmw_defs.specs.declared.criterion.Criterion.{Criterion}
pub use Rattle.tmw_defs.specs.declared.op.Op.{Op}
pub use Rattle.tmw_defs.specs.declared.status.Status.{Status}
pub use Rattle.tmw_defs.specs.declared.status.Status.TheVariants.{Aborted, Committed, Live}
pub use Rattle.tmw_events.specs.declared.event.Event.{Event}
pub use Rattle.tmw_kept.specs.KeptEvents.{is_among, kept_of, places_of}
pub use Rattle.tmw_kept.specs.NameInWindow.{owner, owner_in, txn_at}
pub use Rattle.tmw_kept.specs.UnlikeAnswers.{first_unlike, known_after, needed_of, needs}
