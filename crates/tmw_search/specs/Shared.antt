-- What the definitions and contracts of this crate take from the libraries and from the crates below.
pub use Rattle.std.specs.Cmp.Lexicographic.{slice_cmp}
pub use Rattle.std.specs.Int.{bit_at}
pub use Rattle.std.specs.List.{Contains, count_by, list_all}
pub use Rattle.std.specs.List.Sorted.{IsStrictlySortedBy}
pub use Rattle.std.specs.Ordering.{nat_cmp, on, then_cmp}
pub use Rattle.tmw_cuts.specs.Members.{HasRoom, members, room_of}
pub use Rattle.tmw_cuts.specs.StandsFor.{StandsFor, count_of, views_of}
pub use Rattle.tmw_cuts.specs.Views.{View, effect_of, view}
pub use Rattle.tmw_cuts.specs.declared.effect.Effect.{Effect}
pub use Rattle.tmw_defs.specs.Counts.{is_committed}
pub use Rattle.tmw_defs.specs.Criteria.{EndsBy}
pub use Rattle.tmw_defs.specs.Cuts.{is_cut}
pub use Rattle.tmw_defs.specs.History.{Txn, transactions}
pub use Rattle.tmw_defs.specs.Opaque.{State, after_writes, may_hold, precedes, reads_hold}
pub use Rattle.tmw_defs.specs.Outcomes.{Ends, Only}
pub use Rattle.tmw_defs.specs.declared.criterion.Criterion.{Criterion}
pub use Rattle.tmw_defs.specs.declared.criterion.Criterion.TheVariants.{Opacity, Strict}
pub use Rattle.tmw_events.specs.declared.event.Event.{Event}
