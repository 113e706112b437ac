-- What the definitions and contracts of this crate take from the libraries and from the crates below.
pub use Rattle.std.specs.List.{Contains}
pub use Rattle.tmw_cuts.specs.Members.{HasRoom, members}
pub use Rattle.tmw_cuts.specs.StandsFor.{Follows, IsNext, StandsFor, begun_by, count_of, turn_at, views, views_of}
pub use Rattle.tmw_cuts.specs.declared.turn.Move.TheVariants.{Answer, Begin, End}
pub use Rattle.tmw_defs.specs.Criteria.{is_quiet_by, outcomes_by, so_far}
pub use Rattle.tmw_defs.specs.Cuts.{is_cut}
pub use Rattle.tmw_defs.specs.History.{Txn, is_well_formed, transactions}
pub use Rattle.tmw_defs.specs.LastCut.{IsLastCut, SumsUp}
pub use Rattle.tmw_defs.specs.Opaque.{State, zeros}
pub use Rattle.tmw_defs.specs.Verdict.{IsVerdict, Rules}
pub use Rattle.tmw_defs.specs.declared.criterion.Criterion.{Criterion}
pub use Rattle.tmw_defs.specs.declared.criterion.Criterion.TheVariants.{Opacity, Strict}
pub use Rattle.tmw_defs.specs.declared.verdict.Verdict.{Verdict}
pub use Rattle.tmw_events.specs.declared.event.Event.{Event}
pub use Rattle.tmw_options.specs.declared.bounds.Bounds.{Bounds}
pub use Rattle.tmw_search.specs.EndStates.{EndsOf, HasMoreThan}
pub use Rattle.tmw_witness.specs.Witness.{Witnesses}
