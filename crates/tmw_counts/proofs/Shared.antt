-- What the proofs of this crate take from the libraries, from the crates below and from its specs.
pub use Rattle.std.proofs.Common.{Bool, Err, IfErr, IfOk, IsFalse, IsTrue, List, None, Ok, OnErr, Option, Result, Some, [], ap, append-nil, append_assoc, arith, false, inl, inr, length, length-append, max, nat_lt, not, refl, rules, subst, suc, sym, true, zero, ℕ, ◌&&◌, ◌++◌, ◌+◌, ◌-◌, ◌<◌, ◌==◌, ◌^◌, ◌||◌, ◌↔◌, ◌∙◌, ◌∷◌, ◌≡◌, ◌≤◌, ◌⊎◌}
pub use Rattle.std.proofs.lemmas.Bool.{and_parts, both_ways, cases_Bool, cases_lt, eq-eqb, eqb-true, lt-ltb, ltb-true}
pub use Rattle.std.proofs.lemmas.List.{length-map, length-take, map-append, take-append-drop, take_all, take_more}
pub use Rattle.std.specs.List.{AllByRecursion, list_any}
pub use Rattle.std.specs.Prelude.{count_by, drop, filter, if◌then◌else◌, is_some, slice_get, take}
pub use Rattle.tmw_defs.proofs.OneMore.{add_event_here, add_event_past, begun, ended_rest, joins, longer, only_one, transactions-push}
pub use Rattle.tmw_defs.proofs.Places.{Lies, lies-transactions}
pub use Rattle.tmw_defs.proofs.VerdictProof.{IsFirst-push, IsLastCut-open, verdict-one}
pub use Rattle.tmw_defs.proofs.WindowsProof.{HasWide-open, HasWide_push, IsCutAt-push, IsCutAt_push, is_cut-push, length-push, take-append-drop-push, take-push, take_all-push}
pub use Rattle.tmw_defs.specs.Counts.{HasCounts, has_two_threads, is_aborted, is_committed, is_request, is_unasked, overlap, overlaps_any, prefixes}
pub use Rattle.tmw_defs.specs.Cuts.{is_cut}
pub use Rattle.tmw_defs.specs.History.{Txn, add_event, ends, is_call, is_ended, is_over, is_well_formed, status_after, status_of, transactions, transactions_from}
pub use Rattle.tmw_defs.specs.LastCut.{IsLastCut}
pub use Rattle.tmw_defs.specs.Verdict.{AreFine, IsFine, IsFirst, IsMalformed, IsTooMany, IsTooWide, IsVerdict, IsViolated, Rules}
pub use Rattle.tmw_defs.specs.Windows.{HasWide, IsCutAt}
pub use Rattle.tmw_defs.specs.declared.counts.Counts.{Counts}
pub use Rattle.tmw_events.specs.declared.event.Event.{Event}
pub use Rattle.tmw_events.specs.declared.event.Kind.{Kind}
pub use Rattle.tmw_events.specs.declared.event.Kind.TheVariants.{X}
pub use Rattle.tmw_wellformed.proofs.HistorySteps.{length-add, live_count-add, still, text_of}
pub use Rattle.tmw_wellformed.proofs.TextSteps.{goes_on, is_ended-push}
pub use Rattle.tmw_wellformed.specs.Notes.{Notes, end_of}
pub use Rattle.tmw_wellformed.specs.PendingCalls.{call_of, live_count, live_of, pending_call}
pub use Rattle.tmw_counts.specs.CountedPart.{counted_by, is_open, part_by}
pub use Rattle.tmw_counts.specs.Counter.{AreCounted, CountsSo, IsStep, aborts, commits, meets, one_if}
pub use Rattle.tmw_counts.specs.Threads.{HasThreads, first_thread}
pub use Rattle.tmw_counts.specs.declared.counter.Counter.{Counter}
pub use Rattle.tmw_counts.specs.declared.threads.Threads.{Threads}
