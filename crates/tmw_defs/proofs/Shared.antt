-- What the proofs of this crate take from the libraries, from the crates below and from its specs.
pub use Rattle.std.proofs.Common.{Bool, IsFalse, IsTrue, List, None, Option, Some, [], ap, append_assoc, arith, false, inl, inr, length, length-append, nat_lt, not, refl, rules, subst, suc, sym, true, zero, ℕ, ◌%◌, ◌&&◌, ◌++◌, ◌+◌, ◌-◌, ◌<◌, ◌==◌, ◌^◌, ◌||◌, ◌↔◌, ◌∙◌, ◌∷◌, ◌≡◌, ◌≤◌, ◌⊎◌}
pub use Rattle.std.proofs.Math.Seq.{take-append-add, take-append_seam, take-length}
pub use Rattle.std.proofs.lemmas.Bool.{and_from, and_parts, both_ways, cases_Bool, cases_lt, eq-eqb, eqb-true, lt-ltb, ltb-true, not_from_false, or_cases, or_left}
pub use Rattle.std.proofs.lemmas.List.{append-nil, drop-append-le, drop_all, map-append, take-append-drop, take-append-le, take_all}
pub use Rattle.std.proofs.lemmas.List.Edits.{length-remove, remove-append_left}
pub use Rattle.std.proofs.lemmas.List.Folds.{list_all-append, list_any-append}
pub use Rattle.std.proofs.lemmas.Option.{slice_get_within}
pub use Rattle.std.specs.List.{AllByRecursion, list_all}
pub use Rattle.std.specs.Prelude.{drop, remove, replicate, slice_get, slice_index, slice_set, take}
pub use Rattle.tmw_events.specs.declared.event.Event.{Event}
pub use Rattle.tmw_events.specs.declared.event.Kind.{Kind}
pub use Rattle.tmw_events.specs.declared.event.Kind.TheVariants.{A, C, K, N, R, T, V, W, X}
pub use Rattle.tmw_events.specs.declared.ix.Ix.{Ix}
pub use Rattle.tmw_defs.specs.Criteria.{EndsBy, IsFinalBy, LeadsBy, is_quiet_by, outcomes_by, so_far}
pub use Rattle.tmw_defs.specs.Cuts.{CutLaw, IsCutLaw, is_cut}
pub use Rattle.tmw_defs.specs.History.{Txn, add_event, answers, ends, is_call, is_ended, is_over, is_text, is_well_formed, operation, operations, status_after, status_of, transactions, transactions_from}
pub use Rattle.tmw_defs.specs.LastCut.{IsLastCut, SumsUp}
pub use Rattle.tmw_defs.specs.Opaque.{Explains, HasOrder, IsFinalOpaque, IsOpaque, Placed, PlacesEach, State, after, is_legal, keeps_order, may_be, may_hold, precedes, reads_hold, zeros}
pub use Rattle.tmw_defs.specs.OrderDecision.{comes, has_order, is_explained, is_free, may_come, one_below, one_way}
pub use Rattle.tmw_defs.specs.Outcomes.{Ends, Leads, MoreThan, Only, end_state}
pub use Rattle.tmw_defs.specs.QuietEvents.{awaits_commit, is_pending, is_quiet, is_quiet_strictly}
pub use Rattle.tmw_defs.specs.Strict.{AreHeld, HasStrictOrder, IsFinalStrict, IsStrict}
pub use Rattle.tmw_defs.specs.ThreadTransactions.{Happens, LiesAfter, TextsLaw, ended_but_last, joined_texts, kinds_of, of_thread, open_but_last}
pub use Rattle.tmw_defs.specs.Verdict.{AreFine, IsFine, IsFirst, IsMalformed, IsTooMany, IsTooWide, IsVerdict, IsViolated, Rules}
pub use Rattle.tmw_defs.specs.Windows.{HasWide, IsCutAt, between}
pub use Rattle.tmw_defs.specs.declared.criterion.Criterion.{Criterion}
pub use Rattle.tmw_defs.specs.declared.criterion.Criterion.TheVariants.{Opacity, Strict}
pub use Rattle.tmw_defs.specs.declared.op.Op.{Op}
pub use Rattle.tmw_defs.specs.declared.op.Op.TheVariants.{Add, Read, Write}
pub use Rattle.tmw_defs.specs.declared.status.Status.TheVariants.{Pending}
pub use Rattle.tmw_defs.specs.declared.verdict.Verdict.TheVariants.{Malformed, OpaqueSoFar, StrictSoFar, Undecided, Violated}
