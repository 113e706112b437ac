-- What the proofs of this crate take from the libraries, from the crates below and from its specs.
pub use Rattle.std.proofs.Common.{All, Bool, Err, IfOk, IsTrue, List, None, Ok, Option, Result, Some, [], ap, arith, drop, false, get_or, inl, inr, length, map, not, refl, rules, subst, sym, take, true, ℕ, ◌&&◌, ◌++◌, ◌+◌, ◌<◌, ◌==◌, ◌∙◌, ◌∷◌, ◌≡◌, ◌≤◌, ◌⊎◌}
pub use Rattle.std.proofs.lemmas.Bool.{and_from, and_parts, cases_Bool, eq-eqb, eqb-true}
pub use Rattle.std.proofs.lemmas.List.{length-map, length-replicate, take-append-drop, take_all, take_more}
pub use Rattle.std.specs.List.{enumerate_from, list_all, zip}
pub use Rattle.std.specs.Prelude.{Decides, IfNone, IsFalse, if◌then◌else◌, is_some}
pub use Rattle.tmw_cuts.specs.Members.{members}
pub use Rattle.tmw_defs.specs.History.{Txn, add_event, is_text, is_well_formed, operations, status_of, transactions, transactions_from}
pub use Rattle.tmw_defs.specs.Opaque.{State, precedes}
pub use Rattle.tmw_defs.specs.Part.{AreOpsLeft, Each, is_answered, is_unread, may_go, may_go_whole}
pub use Rattle.tmw_events.specs.declared.event.Event.{Event}
pub use Rattle.tmw_events.specs.declared.registers.Registers.{Registers}
pub use Rattle.tmw_kept.specs.KeptEvents.{all_kept, is_among, kept_of, places_of}
pub use Rattle.tmw_kept.specs.NameInWindow.{owner_in, txn_at}
pub use Rattle.tmw_kept.specs.declared.piece.Piece.{Piece}
pub use Rattle.tmw_part.specs.FindPart.{AreNeededIn, Fails, FailsIn, IsNeededIn, IsPartIn, IsViolated, IsViolatedPart, TellsViolated}
pub use Rattle.tmw_part.specs.KeptPart.{IsAlike, IsKept, agree, are_placed, is_same, is_whole, may_miss_all, owners, part_of, without_number}
pub use Rattle.tmw_part.specs.Marks.{is_of_any, keeps_last, without_from}
unfoldable pub use Rattle.tmw_part.specs.Marks.{without}
pub use Rattle.tmw_part.specs.PartTest.{are_ops_left, is_left_of, is_same_op, is_same_status, is_stay, keeps_part}
pub use Rattle.tmw_part.specs.TakeEvents.{AreTaken, AreUnfit}
