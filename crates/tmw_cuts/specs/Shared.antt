-- What the definitions and contracts of this crate take from the libraries and from the crates below.
pub use Rattle.std.specs.Int.{bit_at}
pub use Rattle.std.specs.List.{Contains, range_with_len}
pub use Rattle.tmw_defs.specs.History.{Txn, answers, is_ended, is_over, is_well_formed, operation, operations, status_after, status_of, transactions}
pub use Rattle.tmw_defs.specs.Opaque.{State, after_writes, precedes, reads_hold, zeros}
pub use Rattle.tmw_defs.specs.declared.op.Op.{Op}
pub use Rattle.tmw_defs.specs.declared.op.Op.TheVariants.{Add, Read, Write}
pub use Rattle.tmw_events.specs.declared.event.Kind.{Kind}
pub use Rattle.tmw_events.specs.declared.ix.Ix.{Ix}
pub use Rattle.tmw_wellformed.specs.Faults.{asks, lacks_register}
