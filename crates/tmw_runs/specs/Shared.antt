-- What the definitions and contracts of this crate take from the libraries and from the crates below.
pub use Rattle.tmw_defs.specs.History.{answers, ends, is_call, is_well_formed}
pub use Rattle.tmw_events.specs.declared.event.Kind.{Kind}
pub use Rattle.tmw_events.specs.declared.event.Kind.TheVariants.{A, C, K, N, R, T, V, W, X}
