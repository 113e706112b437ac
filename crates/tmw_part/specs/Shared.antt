-- What the definitions and contracts of this crate take from the libraries and from the crates below.
pub use Rattle.std.specs.List.{enumerate_from, list_all, list_any, range_with_len}
pub use Rattle.tmw_cuts.specs.Members.{members}
pub use Rattle.tmw_defs.specs.History.{Txn, is_well_formed, operations, status_of, transactions}
pub use Rattle.tmw_defs.specs.Opaque.{State, precedes}
pub use Rattle.tmw_defs.specs.Part.{Each, IsLeftOf, is_answered, is_unread, may_go, may_go_whole, precedence}
pub use Rattle.tmw_defs.specs.declared.op.Op.{Op}
pub use Rattle.tmw_events.specs.declared.event.Event.{Event}
pub use Rattle.tmw_events.specs.declared.event.Kind.{Kind}
pub use Rattle.tmw_events.specs.declared.event.Kind.TheVariants.{N, R, V, W}
pub use Rattle.tmw_kept.specs.KeptEvents.{all_kept, is_among, kept_of, places_of}
pub use Rattle.tmw_kept.specs.NameInWindow.{owner_in, txn_at}
pub use Rattle.tmw_kept.specs.Pieces.{calls, is_of, is_within, pieces, puts}
pub use Rattle.tmw_kept.specs.declared.piece.Call.{Call}
pub use Rattle.tmw_kept.specs.declared.piece.Piece.{Piece}
