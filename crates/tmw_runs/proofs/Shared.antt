-- What the proofs of this crate take from the libraries, from the crates below and from its specs.
pub use Rattle.std.proofs.Common.{All, Bool, IsTrue, List, [], ap, append_assoc, arith, drop, false, get_or, inl, inr, length, not, refl, rules, subst, suc, sym, take, true, zero, ℕ, ◌&&◌, ◌++◌, ◌+◌, ◌<◌, ◌==◌, ◌∙◌, ◌∷◌, ◌≡◌, ◌≤◌}
pub use Rattle.std.proofs.lemmas.Bool.{MatchBool-at_false, MatchBool-at_true, and_from, and_parts, cases_Bool, eq-eqb, ltb-true, ne_eqb}
pub use Rattle.std.proofs.lemmas.List.{append-nil, drop_more, map-append, take-append-drop}
pub use Rattle.std.specs.List.{list_all}
pub use Rattle.tmw_defs.specs.History.{Txn, answers, ends, is_call, is_ended, is_text, is_well_formed, transactions}
pub use Rattle.tmw_defs.specs.ThreadTransactions.{AreTransactions, ended_but_last, joined_texts, kinds_of, of_thread, open_but_last}
pub use Rattle.tmw_events.specs.declared.event.Event.{Event}
pub use Rattle.tmw_events.specs.declared.event.Kind.{Kind}
pub use Rattle.tmw_events.specs.declared.event.Kind.TheVariants.{A, C, K, R, T, V, W, X}
pub use Rattle.tmw_tm.specs.Answers.{Answer, Call}
pub use Rattle.tmw_runs.specs.AnswersStand.{AllStand, Stands, StandsSoFar}
pub use Rattle.tmw_runs.specs.ByTurns.{Follows, IsByTurns, IsPlaced, LeavesCalls}
pub use Rattle.tmw_runs.specs.Laws.{FormedLaw, OverLaw, PlacedLaw, RunsLaw, StepLaw}
pub use Rattle.tmw_runs.specs.Runs.{BeginsScript, IsBeginning, IsWholeRun, IsWholeText, is_abort}
pub use Rattle.tmw_runs.specs.Scripts.{are_transactions, is_operation, is_request, is_transaction}
