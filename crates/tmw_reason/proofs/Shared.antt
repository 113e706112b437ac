-- What the proofs of this crate take from the libraries, from the crates below and from its specs.
pub use Rattle.std.proofs.Common.{All, Bool, Err, IfOk, IsTrue, List, None, Ok, Option, Result, Some, [], ap, append-nil, append_assoc, arith, drop, false, get_or, inl, inr, length, map, not, refl, rules, subst, suc, sym, take, true, zero, ℕ, ◌%◌, ◌&&◌, ◌++◌, ◌+◌, ◌-◌, ◌<◌, ◌==◌, ◌^◌, ◌||◌, ◌∙◌, ◌∷◌, ◌≡◌, ◌≤◌, ◌⊎◌}
pub use Rattle.std.proofs.lemmas.Bool.{and_from, and_parts, cases_Bool, cases_order, eq-eqb, eqb-true, ltb-false, ltb-true, ne_eqb, not-true, or_cases, or_left, or_right}
pub use Rattle.std.proofs.lemmas.List.{length-set, take-append-le, take_all}
pub use Rattle.std.proofs.lemmas.List.Elements.{All-contains, All-filter, All-from_recursion, All-map, All-more, All-push, Contains-append_left, Contains-append_right, recursion_from_All}
pub use Rattle.std.proofs.lemmas.List.Folds.{list_any-append, list_any_at}
pub use Rattle.std.proofs.lemmas.Option.{get_or_from_slice_get, slice_get-get_or, slice_get_past, slice_get_within}
pub use Rattle.std.specs.List.{AllByRecursion, Contains, filter, find, flat_map, list_all, list_any, range_with_len}
pub use Rattle.std.specs.Option.{option_or, option_to_list}
pub use Rattle.std.specs.Prelude.{IfNone, IfSome, IsFalse, if◌then◌else◌, nat_lt, remove, slice_get, slice_index, slice_set, unwrap_or}
pub use Rattle.tmw_cuts.proofs.FirstMembers.{slice_get_some}
pub use Rattle.tmw_cuts.proofs.RegisterValues.{after-final, final, final-kept, index-set, length-after, length-end}
pub use Rattle.tmw_cuts.specs.RegisterUse.{left_by, writes}
pub use Rattle.tmw_defs.specs.Criteria.{ExplainsBy}
pub use Rattle.tmw_defs.specs.History.{Txn, add_event, is_call, operations, status_of, transactions, transactions_from}
pub use Rattle.tmw_defs.specs.Opaque.{Placed, PlacesEach, State, after, is_legal, keeps_order, may_be, may_hold, precedes, reads_hold}
pub use Rattle.tmw_defs.specs.declared.criterion.Criterion.{Criterion}
pub use Rattle.tmw_defs.specs.declared.criterion.Criterion.TheVariants.{Opacity, Strict}
pub use Rattle.tmw_defs.specs.declared.status.Status.TheVariants.{Committed}
pub use Rattle.tmw_events.specs.declared.event.Event.{Event}
pub use Rattle.tmw_kept.specs.KeptEvents.{is_among}
pub use Rattle.tmw_kept.specs.UnlikeAnswers.{first_unlike, needs, unlike_or}
pub use Rattle.tmw_reason.specs.CaseSearch.{AreFirst, AreSaid, FindsCases, Grows, IsMadeCase, asked_at}
pub use Rattle.tmw_reason.specs.DerivationSearch.{AreAmong, AreCandidates, Closes, DerivesIn, EndsNowhere, IsMade, IsMadeFrom, contradicts_in, is_news}
pub use Rattle.tmw_reason.specs.DrawnSteps.{Drawn, answered, answered_too, ends_at, ends_of, real_times, source_steps, sources_at, sources_of, steps_with, throughs, throughs_to}
pub use Rattle.tmw_reason.specs.Origins.{answered_at, last_of, latest, origin_at, origin_of, origins, own_calls, puts_before, stays}
pub use Rattle.tmw_reason.specs.ReasonSteps.{Asked, Derives, begins_before, comes_not_else, contradicts, ends_before, excludes, follows, from_else, gives, has_place, has_writer, is_asked, is_before, is_committed, is_held, is_known_rival, is_pair, is_rival, is_same_source, is_same_writer, is_some_of, may_come_from, ops_at, orders, stands_between, supplies, tells}
pub use Rattle.tmw_reason.specs.Reasons.{AreOnce, Changes, ComesFrom, ComesNot, HoldsIn, IsCase, IsContradictedIn, IsDerivation, IsDerivationIn, IsNeededEachIn, IsUnchanged, ReasonLaw, ReasonTells, RefuteEach, StandsAt, StandsBefore, StandsBeforeWriter, are_apart, assume_each, assumes, assumes_none, begin_apart, is_given_by, is_one, is_said_for, origins_of, said_places, start_of, states_at}
pub use Rattle.tmw_reason.specs.declared.candidates.Candidates.{Candidates}
pub use Rattle.tmw_reason.specs.declared.reason_case.Derivation.{Derivation}
pub use Rattle.tmw_reason.specs.declared.reason_case.ReasonCase.{ReasonCase}
pub use Rattle.tmw_reason.specs.declared.reason_step.ReasonStep.{ReasonStep}
pub use Rattle.tmw_reason.specs.declared.reason_step.ReasonStep.TheVariants.{ChangedFirst, From, Overwritten, ReadFirst, RealTime, Through, TooLate}
pub use Rattle.tmw_reason.specs.declared.reason_step.ValueSource.{ValueSource}
