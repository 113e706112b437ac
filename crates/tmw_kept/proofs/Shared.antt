-- What the proofs of this crate take from the libraries, from the crates below and from its specs.
pub use Rattle.std.proofs.Common.{List, None, Some, [], ap, arith, drop, false, get_or, inl, inr, length, refl, suc, sym, true, zero, ℕ, ◌++◌, ◌+◌, ◌<◌, ◌∙◌, ◌∷◌, ◌≡◌, ◌≤◌}
pub use Rattle.std.specs.Prelude.{nat_lt, position, slice_set}
pub use Rattle.tmw_defs.proofs.OneMore.{begun, joins, longer}
pub use Rattle.tmw_defs.specs.History.{Txn, add_event, operations, transactions, transactions_from}
pub use Rattle.tmw_kept.specs.UnlikeAnswers.{first_unlike, needed_of, needs}
